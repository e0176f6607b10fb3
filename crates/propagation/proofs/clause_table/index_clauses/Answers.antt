-- Assumes nothing.
use Rattle.std.proofs.Common.{ap, rules, w32, of_z}
use Rattle.propagation.proofs.Indexing.{indexing-start, indexing-closes, indexing-passes, indexing-done, place-room, closed-proper}
use Rattle.propagation.proofs.clause_table.index_clauses.Goals as goal
use Rattle.propagation.proofs.clause_table.index_clauses.Goals.{then-word-eq0, else-word-eq0}

pub loop-at-init : goal.loop-at-init
loop-at-init c = indexing-start _ _ c.requires.1

pub bounds-starts-clause : goal.bounds-starts-clause
bounds-starts-clause c = place-room c.requires.0 c.loop-at.invariant c.loop-at-test.true

pub loop-at-preserved : goal.loop-at-preserved
loop-at-preserved c =
    let closed = c.requires.0 in
    let l = c.loop-at-test.true in
    elim c.if-word-eq0.branch [
      | then-word-eq0 w ↦ rw (w.starts-is, w.first-is, w.clause-is) (indexing-closes closed c.loop-at.invariant (closed-proper _ closed) l (let h = w.if-word-eq0.true in search rules))
      | else-word-eq0 w ↦ rw (w.starts-is, w.first-is, w.clause-is) (indexing-passes closed c.loop-at.invariant l (λ e. w.if-word-eq0.false (ap (of_z w32) e)))
    ]

pub returns : goal.returns
returns c = indexing-done c.requires.0 c.loop-at.invariant c.loop-at-test.false
