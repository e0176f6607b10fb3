-- `frames::pair` meets its contract: a field of two bytes is the first and 256 times the second. Assumes nothing.
use borrow.Author.Rules.{rules}
use Prim.Native.Nat.{◌+◌}
use native.Mathlib.Omega.{arith}
use mathlib.Core.Path.{sym}
use Rattle.laws.proofs.Numbers.{field-two}
use Rattle.frames.proofs.pair.Statement.{statement}
use Rattle.frames.proofs.pair.Tie as tie

shared-slice-read-low : tie.Need-bounds-s-at
shared-slice-read-low c = search rules

cast-low : tie.Need-overflow_cast-low
cast-low c = omega (arith, c.shared_slice_known-1.given c.args.at)

add-high : tie.Need-overflow_add-high
add-high c = search rules

shared-slice-read-high : tie.Need-bounds-s-at-2
shared-slice-read-high c = search rules

cast-high : tie.Need-overflow_cast-high
cast-high c = omega (arith, c.shared_slice_known-2-1.given (c.args.at + 1))

mul-result : tie.Need-overflow_mul-result
mul-result c = omega (arith, c.shared_slice_known-2-1.given (c.args.at + 1))

add-result : tie.Need-overflow_add-result
add-result c =
    omega (arith, c.shared_slice_known-2-1.given c.args.at, c.shared_slice_known-2-1.given (c.args.at + 1))

returns : tie.Need-returns
returns c =
    let s = c.args.s.now in
    let at = c.args.at in (
      sym (field-two s at (omega arith)),
      omega (arith, c.shared_slice_known-2-1.given at, c.shared_slice_known-2-1.given (at + 1)),
    )

pub pair_spec : {M : Type 1} → statement M
pair_spec =
    tie.close
    (tie.spec shared-slice-read-low cast-low add-high shared-slice-read-high cast-high mul-result add-result returns)
