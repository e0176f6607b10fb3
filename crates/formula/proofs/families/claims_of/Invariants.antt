use Rattle.std.proofs.Common.{◌+◌, ◌∷◌, map, take}
use Rattle.spec.specs.Lists.{one}
use Rattle.spec.specs.Book.{segment_of}
use Rattle.spec.specs.Formula.{is, not', words_of}
use Rattle.clauses.specs.Walked.{Passes}
use Rattle.formula.proofs.families.claims_of.Given as goal

abbrev pub invariant-loop-d : goal.invariant-loop-d
invariant-loop-d l =
    Passes
    (words_of (map (λ s. not' (l.t.base + l.r) ∷ one (is (l.claims + s))) (map segment_of (take l.d-index l.d-items))))
    l.fn.walk l.walk
