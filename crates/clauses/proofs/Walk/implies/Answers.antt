use Rattle.std.proofs.Common.{arith}
use Rattle.clauses.proofs.Laws.{is_said, judged-is, judged-not, not-said, or-false, judged-same, judged-none}
use Rattle.clauses.proofs.Walk.implies.Goals as goal
use Rattle.clauses.proofs.Walk.implies.Goals.{then-not-value, else-not-value}

pub clause-requires : goal.clause-requires
clause-requires c = (
  omega arith,
  (
    omega arith,
    rw (not-said _ _ c.requires.0 c.negative.ensures, is_said _ _ c.requires.1 c.positive.ensures) (judged-same (elim c.if-not-value.branch [
      | then-not-value w ↦ rw (w.is_true-is, ← c.value.ensures, w.if-not-value.true)
      | else-not-value w ↦ rw (w.is_true-is, ← c.value.ensures, w.if-not-value.false, or-false) w.value-is_true.ensures
    ]) (judged-not _ (judged-is _ judged-none))),
  ),
)

pub returns : goal.returns
returns c = rw (not-said _ _ c.requires.0 c.negative.ensures, is_said _ _ c.requires.1 c.positive.ensures) at c.clause.ensures
