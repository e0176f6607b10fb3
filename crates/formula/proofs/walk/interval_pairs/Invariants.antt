use Rattle.spec.specs.Lists.{range, each}
use Rattle.spec.specs.Instance.{instance_of}
use Rattle.spec.specs.Formula.{words_of}
use Rattle.spec.specs.Held.{held}
use Rattle.clauses.specs.Walked.{Passes}
use Rattle.formula.specs.Families.{pairs_behind}
use Rattle.formula.proofs.walk.interval_pairs.Given as goal

abbrev pub invariant-loop-i : goal.invariant-loop-i
invariant-loop-i l =
    Passes (each (range 0 l.i) λ i. words_of (pairs_behind (instance_of (held l.t.book)) l.interval i)) l.fn.walk l.walk
