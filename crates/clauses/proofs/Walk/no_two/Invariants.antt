use Rattle.std.proofs.Common.{◌+◌, ◌∷◌, map}
use Rattle.spec.specs.Lists.{range, each, one}
use Rattle.spec.specs.Formula.{not', words_of}
use Rattle.clauses.specs.Walked.{Passes}
use Rattle.clauses.proofs.Walk.no_two.Given as goal

abbrev pub invariant-loop-m : goal.invariant-loop-m
invariant-loop-m l = Passes (each (range 0 l.m) λ m. words_of (map (λ k. not' (l.from + m) ∷ one (not' (l.from + k))) (range (m + 1) l.n))) l.fn.self l.self
