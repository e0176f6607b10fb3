use Rattle.spec.specs.Lists.{range, each, one}
use Rattle.spec.specs.Instance.{instance_of}
use Rattle.spec.specs.Formula.{words_of, clause_e}
use Rattle.spec.specs.Held.{held}
use Rattle.clauses.specs.Walked.{Passes}
use Rattle.formula.proofs.families.clauses_e.Given as goal

abbrev pub invariant-loop-r : goal.invariant-loop-r
invariant-loop-r l =
    Passes (each (range 0 l.r) λ r. words_of (one (clause_e (instance_of (held l.b)) l.t.train l.t.base l.after r)))
    l.fn.walk l.walk
