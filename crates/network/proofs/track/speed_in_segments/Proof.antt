-- `track::speed_in_segments` meets its contract: one division gives the nearest, and no number on the way has more than 36 bits.
-- Assumes nothing.
use borrow.Author.Rules.{rules}
use mathlib.Core.Path.{sym}
use Prim.Native.Nat.{◌*◌, ◌≤◌}
use native.Mathlib.Nat.{mul-le-mul}
use native.Mathlib.Omega.{arith}
use Rattle.spec.specs.Book.{speed_in_segments}
use Rattle.spec.specs.Held.{held, held_train}
use Rattle.laws.proofs.Rounding.{nearest-divided}
use Rattle.network.proofs.track.speed_in_segments.Statement.{statement}
use Rattle.network.proofs.track.speed_in_segments.Tie as tie

-- the product of two numbers of 16 bits
product : (s : tie.Start) → s.args.t.speed * s.args.b.interval_seconds ≤ 65535 * 65535
product s = mul-le-mul {n₂ = 65535} {m₂ = 65535} (omega (arith, s.requires.2)) (omega (arith, s.requires.0.seconds))

mul-n : tie.Need-overflow_mul-n
mul-n c = let p = product c.before.before in omega arith

mul-n-2 : tie.Need-overflow_mul-n-2
mul-n-2 c = let p = product c.before.before in omega arith

mul-d : tie.Need-overflow_mul-d
mul-d c = search rules

mul-result : tie.Need-overflow_mul-result
mul-result c = let p = product c.before.before.before in omega arith

sub-result : tie.Need-overflow_sub-result
sub-result c = search rules

add-result : tie.Need-overflow_add-result
add-result c = let p = product c.before.before.before in omega (arith, c.requires.0.metres)

mul-result-2 : tie.Need-overflow_mul-result-2
mul-result-2 c = search rules

div-result : tie.Need-nonzero_div-result
div-result c = search rules

returns : tie.Need-returns
unfolding speed_in_segments held held_train
returns c = sym (nearest-divided _ _ (omega (arith, c.requires.1)))

pub speed_in_segments_spec : {M : Type 1} → statement M
speed_in_segments_spec =
    tie.close (tie.spec mul-n mul-n-2 mul-d mul-result sub-result add-result mul-result-2 div-result returns)
