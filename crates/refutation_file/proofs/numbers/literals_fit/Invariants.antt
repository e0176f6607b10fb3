-- All literals fit exactly where those from i on do, above `low`. Assumes nothing.
use Rattle.std.proofs.Common.{◌≡◌, drop}
use Rattle.spec.specs.Refutation.{literals_fit, rises_from}
use Rattle.refutation_file.specs.Numbers.{literals_in}
use Rattle.refutation_file.proofs.numbers.literals_fit.Given as goal

abbrev pub invariant-loop-i : goal.invariant-loop-i
invariant-loop-i l = literals_fit l.variables (literals_in l.list) ≡ rises_from l.variables l.low (drop l.i (literals_in l.list))
