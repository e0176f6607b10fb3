-- The bytes of the first nodes are written.
use Prim.Native.Nat.{ℕ, ◌<◌}
use mathlib.Core.Path.{◌≡◌}
use lib.ListN.{get_or}
use mir.Val.{bool_byte}
use Rattle.spec.specs.Assignment.{assigned}
use Rattle.plan_coding.proofs.decoding.decode_borders.Given as goal

abbrev pub invariant-loop-node : goal.invariant-loop-node
invariant-loop-node l = (j : ℕ) → j < l.node → get_or l.byte-items j 0 ≡ bool_byte (assigned l.values j)
