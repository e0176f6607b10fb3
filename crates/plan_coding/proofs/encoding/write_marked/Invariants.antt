-- The bytes of the first s segments are written.
use Prim.Native.Nat.{ℕ, ◌<◌}
use mathlib.Core.Path.{◌≡◌}
use lib.ListN.{get_or}
use mir.Val.{bool_byte}
use Rattle.plan_rules.specs.Marks.{is_marked}
use Rattle.plan_coding.proofs.encoding.write_marked.Given as goal

abbrev pub invariant-loop-s : goal.invariant-loop-s
invariant-loop-s l = (j : ℕ) → j < l.s → get_or l.byte-items j 0 ≡ bool_byte (is_marked l.marks (get_or l.labels j 0))
