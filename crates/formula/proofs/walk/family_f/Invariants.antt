use Rattle.spec.specs.Lists.{range, each, up_to}
use Rattle.spec.specs.Instance.{instance_of}
use Rattle.spec.specs.Formula.{words_of}
use Rattle.spec.specs.Held.{held}
use Rattle.clauses.specs.Walked.{Passes}
use Rattle.formula.specs.Families.{call_clauses}
use Rattle.formula.proofs.walk.family_f.Given as goal

abbrev pub invariant-loop-train : goal.invariant-loop-train
invariant-loop-train l =
    Passes (each (range 0 l.train) λ i. let I = instance_of (held l.t.book) in words_of (each (up_to (I.calls i)) (call_clauses I i))) l.fn.walk l.walk
