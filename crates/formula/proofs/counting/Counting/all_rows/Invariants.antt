use Rattle.spec.specs.Lists.{range, each}
use Rattle.spec.specs.Formula.{words_of}
use Rattle.clauses.specs.Walked.{Passes}
use Rattle.formula.specs.Counting.{row_clauses}
use Rattle.formula.proofs.counting.Counting.all_rows.Given as goal

abbrev pub invariant-loop-j : goal.invariant-loop-j
invariant-loop-j l = Passes (each (range 0 l.j) λ j. words_of (row_clauses l.self.counter l.self.first l.self.nodes.now j)) l.fn.walk l.walk
