use Rattle.std.proofs.Common.{not, ◌+◌}
use Rattle.spec.specs.Lists.{range, each, only, one}
use Rattle.spec.specs.Instance.{instance_of}
use Rattle.spec.specs.Formula.{not', words_of}
use Rattle.spec.specs.Held.{held}
use Rattle.clauses.specs.Walked.{Passes}
use Rattle.formula.proofs.families.clauses_d.Given as goal

abbrev pub invariant-loop-k : goal.invariant-loop-k
invariant-loop-k l =
    let I = instance_of (held l.b) in
    Passes (each (range 0 l.k) λ k. words_of (only (not (I.given l.t.train k)) (one (one (not' (l.t.base + k)))))) l.fn.walk l.walk
