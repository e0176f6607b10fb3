use Rattle.std.proofs.Common.{◌++◌}
use Rattle.spec.specs.Lists.{range, each, only, one}
use Rattle.spec.specs.Instance.{instance_of}
use Rattle.spec.specs.Formula.{is, not', words_of}
use Rattle.spec.specs.Held.{held}
use Rattle.clauses.specs.Walked.{Passes}
use Rattle.formula.proofs.families.family_a.Given as goal

abbrev pub invariant-loop-node : goal.invariant-loop-node
invariant-loop-node l =
    let I = instance_of (held l.b) in
    Passes (each (range 0 l.node) λ n. words_of (only (I.denied n) (one (one (not' n))) ++ only (I.forced n) (one (one (is n)))))
    l.fn.walk l.walk
