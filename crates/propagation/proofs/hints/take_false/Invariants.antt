-- The last i literals are false, every other variable is open, and the trail has theirs and then what it had. Assumes nothing.
use Rattle.std.proofs.Common.{length}
use Rattle.refutation_file.specs.Numbers.{literals_in}
use Rattle.propagation.proofs.Taking.{Taking}
use Rattle.propagation.proofs.hints.take_false.Given as goal

abbrev pub invariant-loop-i : goal.invariant-loop-i
invariant-loop-i l = Taking (literals_in l.list) (length l.initial.values) l.initial.trail l.values l.trail l.i
