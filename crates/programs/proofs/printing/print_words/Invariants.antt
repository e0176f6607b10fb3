-- `printing::print_words`: the words from `from` on are still to be printed, and each piece takes some.
use Rattle.std.proofs.Common.{◌-◌, ◌≤◌, length}
use Rattle.programs.proofs.printing.print_words.Given as goal

abbrev pub invariant-loop-from : goal.invariant-loop-from
invariant-loop-from l = l.from ≤ length l.words

abbrev pub decreases-loop-from : goal.decreases-loop-from
decreases-loop-from l = length l.words - l.from
