-- `printing::fill`: what is read stands within the buffer, and each turn reads more of it.
use Rattle.std.proofs.Common.{◌-◌, ◌≤◌, length}
use Rattle.programs.proofs.printing.fill.Given as goal

abbrev pub invariant-loop-n : goal.invariant-loop-n
invariant-loop-n g l = l.n ≤ length l.buf

abbrev pub decreases-loop-n : goal.decreases-loop-n
decreases-loop-n g l = length l.initial.buf - l.n
