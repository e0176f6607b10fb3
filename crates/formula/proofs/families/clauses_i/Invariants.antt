use Rattle.std.proofs.Common.{◌∷◌, ◌+◌}
use Rattle.spec.specs.Lists.{range, each, one}
use Rattle.spec.specs.Formula.{not', words_of}
use Rattle.clauses.specs.Walked.{Passes}
use Rattle.formula.proofs.families.clauses_i.Given as goal

abbrev pub invariant-loop-s : goal.invariant-loop-s
invariant-loop-s l =
    Passes (each (range 0 l.s) λ s. words_of (one (not' (l.lower + s) ∷ one (not' (l.higher + s))))) l.fn.walk l.walk
