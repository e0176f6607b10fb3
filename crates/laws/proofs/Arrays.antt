-- A row in an array: zeros stand behind it, it comes back by its length, and an element stored behind it is its next. Assumes
-- nothing.
use mathlib.Core.Path.{◌≡◌, sym, ◌∙◌}
use Prim.Native.Nat.{ℕ, suc, ◌-◌, ◌<◌}
use native.Mathlib.Omega.{arith}
use mathlib.Core.List.{List, ◌++◌}
use lib.ListN.{length, take, set, replicate, length-append}
use lib.Seq.{take-append_seam, take_at, set_at, append_snoc}
use Rattle.spec.specs.Lists.{one}
use Rattle.spec.specs.Held.{padded}

module _ {ℓ} {A : Type ℓ} where
  pub take-padded : (n : ℕ) (z : A) (xs : List A) → take (length xs) (padded n z xs) ≡ xs
  unfolding padded
  take-padded n z xs = take-append_seam xs _

  pub take-padded-at : (n k : ℕ) (z : A) (xs : List A) → length xs ≡ k → take k (padded n z xs) ≡ xs
  unfolding padded
  take-padded-at n k z xs e = take_at xs _ k e

  pub padded-next : (n m : ℕ) (z x : A) (xs : List A) → length xs ≡ m → m < n → set (padded n z xs) m x ≡ padded n z (xs ++ one x)
  unfolding padded
  padded-next n m z x xs e l =
      let k : n - length xs ≡ suc (n - suc m) = omega arith in
      let j : n - length (xs ++ one x) ≡ n - suc m = omega (arith, length-append xs (one x)) in
      rw (k, j) (set_at xs z (replicate (n - suc m) z) x m e ∙ sym (append_snoc xs x (replicate (n - suc m) z)))
