use Rattle.spec.specs.Lists.{range, each, up_to}
use Rattle.spec.specs.Instance.{instance_of}
use Rattle.spec.specs.Formula.{words_of}
use Rattle.spec.specs.Held.{held}
use Rattle.clauses.specs.Walked.{Passes}
use Rattle.formula.specs.Families.{pairs_behind}
use Rattle.formula.proofs.walk.family_i.Given as goal

abbrev pub invariant-loop-interval : goal.invariant-loop-interval
invariant-loop-interval l =
    Passes (each (range 0 l.interval) λ t. let I = instance_of (held l.t.book) in words_of (each (up_to I.trains) (pairs_behind I t))) l.fn.walk l.walk
