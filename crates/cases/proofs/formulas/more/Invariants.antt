-- `formulas::more`: the checksum stays below its modulus.
use Rattle.std.proofs.Common.{◌<◌}
use Rattle.cases.proofs.formulas.more.Given as goal

abbrev pub invariant-loop-x : goal.invariant-loop-x
invariant-loop-x l = l.sum < 1000000007
