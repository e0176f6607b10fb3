-- The first i times stand in the output behind what stands ahead of them.
use Rattle.spec.specs.Upgrade.{times_widened}
use Rattle.laws.proofs.Stores.{Stored}
use Rattle.upgrading.proofs.put_payload.Given as goal

abbrev pub invariant-loop-i : goal.invariant-loop-i
invariant-loop-i l = Stored l.initial.new l.initial.end (times_widened l.p l.first l.i) l.new l.end
