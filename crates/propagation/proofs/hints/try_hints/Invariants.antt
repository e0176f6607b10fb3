-- The loop over the hints (`Gone`): the step is proved if and only if the hints from number k on prove it from the values now. The loop over
-- a clause's literals (`Scanning`): the clause does what the scan of the literals from `at` on gives, with the open literal that was found.
-- Assumes nothing.
use Rattle.std.proofs.Common.{◌-◌, get_or, length, of_z, w32}
use Rattle.spec.specs.Refutation.{clause_at, clauses_of}
use Rattle.refutation_file.specs.Numbers.{numbers_in}
use Rattle.propagation.specs.Known.{values_in}
use Rattle.propagation.proofs.Scan.{Scanning}
use Rattle.propagation.proofs.HintTurns.{Gone}
use Rattle.propagation.proofs.hints.try_hints.Given as goal

abbrev pub invariant-hints : goal.invariant-hints
invariant-hints l = Gone l.words l.hints l.initial.values l.initial.trail l.first l.values l.trail l.set l.proved l.k

abbrev pub invariant-loop-at : goal.invariant-loop-at
invariant-loop-at l = Scanning l.words (values_in l.values) (length l.values) (clause_at (clauses_of l.words) (get_or (numbers_in l.hints) l.k 0)) l.at (of_z w32 l.unit)

abbrev pub decreases-loop-at : goal.decreases-loop-at
decreases-loop-at l = length l.words - l.at
