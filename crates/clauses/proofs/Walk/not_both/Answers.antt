use Rattle.std.proofs.Common.{arith, ap, not}
use Rattle.clauses.proofs.Laws.{judged-not, not-said, or-false, judged-same, judged-none}
use Rattle.clauses.proofs.Walk.not_both.Goals as goal
use Rattle.clauses.proofs.Walk.not_both.Goals.{then-not-value, else-not-value}

pub clause-requires : goal.clause-requires
clause-requires c = (
  omega arith,
  (
    omega arith,
    rw (not-said _ _ c.requires.0 c.negative.ensures, not-said _ _ c.requires.1 c.negative-2.ensures) (judged-same (elim c.if-not-value.branch [
      | then-not-value w ↦ rw (w.is_true-is, ← c.value.ensures, w.if-not-value.true)
      | else-not-value w ↦ rw (w.is_true-is, ← c.value.ensures, w.if-not-value.false, or-false) (ap not w.value-else-not-value.ensures)
    ]) (judged-not _ (judged-not _ judged-none))),
  ),
)

pub returns : goal.returns
returns c = rw (not-said _ _ c.requires.0 c.negative.ensures, not-said _ _ c.requires.1 c.negative-2.ensures) at c.clause.ensures
