-- The bytes of the first r runs are written.
use Prim.Native.Nat.{ℕ, ◌<◌}
use mathlib.Core.Path.{◌≡◌}
use lib.ListN.{get_or}
use lib.Dec.{eqb}
use mir.Val.{bool_byte}
use Rattle.spec.specs.Plan.{runs}
use Rattle.layout.specs.Moves.{held_move}
use Rattle.plan_coding.proofs.encoding.write_move.Given as goal

abbrev pub invariant-loop-r : goal.invariant-loop-r
invariant-loop-r l = (j : ℕ) → j < l.r → get_or l.byte-items j 0 ≡ bool_byte (runs (held_move l.m) (eqb j))
