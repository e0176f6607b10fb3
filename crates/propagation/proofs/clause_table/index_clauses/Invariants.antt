-- The places of the clauses before this word were stored, and the word is in the clause at hand or its 0. Assumes nothing.
use Rattle.spec.specs.Refutation.{clauses_of}
use Rattle.propagation.proofs.Indexing.{Indexing}
use Rattle.propagation.proofs.clause_table.index_clauses.Given as goal

abbrev pub invariant-loop-at : goal.invariant-loop-at
invariant-loop-at l = Indexing (clauses_of l.words) l.initial.starts l.starts l.first l.clause l.at
