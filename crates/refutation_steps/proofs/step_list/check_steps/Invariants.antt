-- The verdict on the whole file is the verdict on what stands from here on, by the clauses so far; those were added to the slices,
-- which are ready for the next step. Assumes nothing.
use Rattle.std.proofs.Common.{length, ◌-◌}
use Rattle.refutation_steps.proofs.Along.{Along}
use Rattle.refutation_steps.proofs.step_list.check_steps.Given as goal

abbrev pub invariant-loop-at : goal.invariant-loop-at
invariant-loop-at l = Along l.fn.r l.fn.formula l.fn.words l.fn.starts l.fn.values l.fn.trail l.words l.starts l.values l.trail l.filled l.at l.number

abbrev pub decreases-loop-at : goal.decreases-loop-at
decreases-loop-at l = length l.fn.r - l.at
