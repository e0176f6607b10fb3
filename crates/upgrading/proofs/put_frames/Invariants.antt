-- The frames ahead of `at` are rewritten; what is left of the old book gets less. Assumes nothing.
use Rattle.std.proofs.Common.{◌-◌, length}
use Rattle.upgrading.proofs.Rewriting.{Rewriting}
use Rattle.upgrading.proofs.put_frames.Given as goal

abbrev pub invariant-loop-frame : goal.invariant-loop-frame
invariant-loop-frame l = Rewriting l.old l.fn.new l.at l.to l.new

abbrev pub decreases-loop-frame : goal.decreases-loop-frame
decreases-loop-frame l = length l.old - l.at
