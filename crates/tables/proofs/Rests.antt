-- Rows of different lengths are not the same. Assumes nothing.
use mathlib.Core.Path.{◌≡◌, ap}
use mathlib.Core.Bool.{false}
use Prim.Native.Nat.{ℕ}
use mathlib.Core.List.{List}
use lib.ListN.{length}
use Rattle.spec.specs.Lists.{same}
use Rattle.laws.proofs.Tests.{false_of, same-iff}

pub same-lengths : (xs ys : List ℕ) → (length xs ≡ length ys → ⊥) → same xs ys ≡ false
same-lengths xs ys h = false_of (same xs ys) (λ e. h (ap length ((same-iff xs ys).0 e)))
