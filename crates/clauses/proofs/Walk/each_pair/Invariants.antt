use Rattle.std.proofs.Common.{◌+◌, ◌∷◌}
use Rattle.spec.specs.Lists.{range, each, one}
use Rattle.spec.specs.Formula.{not', words_of}
use Rattle.clauses.specs.Walked.{Passes}
use Rattle.clauses.proofs.Walk.each_pair.Given as goal

abbrev pub invariant-loop-k : goal.invariant-loop-k
invariant-loop-k l = Passes (each (range (l.m + 1) l.k) λ k. words_of (one (not' (l.from + l.m) ∷ one (not' (l.from + k))))) l.fn.self l.self
