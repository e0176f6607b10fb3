use Rattle.std.proofs.Common.{◌+◌}
use Rattle.spec.specs.Lists.{range, each, only, one}
use Rattle.spec.specs.Instance.{instance_of}
use Rattle.spec.specs.Formula.{is}
use Rattle.spec.specs.Held.{held}
use Rattle.clauses.specs.Walked.{Passes}
use Rattle.formula.proofs.families.servers.Given as goal

abbrev pub invariant-loop-r : goal.invariant-loop-r
invariant-loop-r l =
    let I = instance_of (held l.b) in
    Passes (each (range 0 l.r) λ r. only (I.serves l.t.train l.fn.number r) (one (is (l.t.base + r)))) l.fn.walk l.walk
