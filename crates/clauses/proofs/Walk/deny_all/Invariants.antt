use Rattle.std.proofs.Common.{◌+◌}
use Rattle.spec.specs.Lists.{range, each, one}
use Rattle.spec.specs.Formula.{not', words_of}
use Rattle.clauses.specs.Walked.{Passes}
use Rattle.clauses.proofs.Walk.deny_all.Given as goal

abbrev pub invariant-loop-k : goal.invariant-loop-k
invariant-loop-k l = Passes (each (range 0 l.k) λ k. words_of (one (one (not' (l.from + k))))) l.fn.self l.self
