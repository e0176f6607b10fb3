use Rattle.spec.specs.Lists.{range, each}
use Rattle.spec.specs.Instance.{instance_of}
use Rattle.spec.specs.Formula.{words_of}
use Rattle.spec.specs.Held.{held}
use Rattle.clauses.specs.Walked.{Passes}
use Rattle.formula.specs.Families.{call_clauses}
use Rattle.formula.proofs.walk.train_calls.Given as goal

abbrev pub invariant-loop-number : goal.invariant-loop-number
invariant-loop-number l =
    Passes (each (range 0 l.number) λ c. words_of (call_clauses (instance_of (held l.part.book.now)) l.part.first.train c)) l.fn.walk l.walk
