-- `bytes::put_pair` meets its contract: two stores, one behind the other. Assumes nothing.
use borrow.Author.Rules.{rules}
use native.Mathlib.Omega.{arith}
use native.Mathlib.Numerals.{add-one}
use mathlib.Core.Path.{◌≡◌, ap₂}
use Prim.Native.Nat.{ℕ, ◌/◌, ◌%◌}
use lib.ListN.{set, length-set}
use Rattle.spec.specs.Numbers.{little_endian}
use Rattle.frames.proofs.bytes.put_pair.Statement.{statement}
use Rattle.frames.proofs.bytes.put_pair.Tie as tie

slice-write-buf-2 : tie.Need-bounds-buf-at-2
slice-write-buf-2 c = simp length-set (omega arith)

returns : tie.Need-returns
unfolding little_endian
returns c =
    let a = c.args in
    let high : a.n / 256 ≡ a.n / 256 % 256 = omega arith in
    ap₂ (λ (k x : ℕ). set (set a.buf.now a.at (a.n % 256)) k x) (add-one a.at) high

pub put_pair_spec : {M : Type 1} → statement M
put_pair_spec =
    tie.close
    (tie.spec (λ c. search rules) (λ c. search rules) (λ c. search rules) (λ c. search rules) slice-write-buf-2 (λ c. search rules) returns)
