use Rattle.spec.specs.Lists.{range, each}
use Rattle.spec.specs.Formula.{words_of}
use Rattle.clauses.specs.Walked.{Passes}
use Rattle.formula.specs.Counting.{clauses_at}
use Rattle.formula.proofs.counting.Counting.row.Given as goal

abbrev pub invariant-loop-k : goal.invariant-loop-k
invariant-loop-k l = Passes (each (range 0 l.k) λ k. words_of (clauses_at l.self.counter l.self.first l.self.nodes.now l.j k)) l.fn.walk l.walk
