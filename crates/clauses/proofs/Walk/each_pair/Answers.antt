use Rattle.std.proofs.Common.{arith, ap, not, sym}
use Rattle.clauses.proofs.Laws.{passes_same, not-said, or-false, judged-same, judged-not, judged-none}
use Rattle.clauses.proofs.Turns.{turn-none, turn, turned, words-map}
use Rattle.clauses.proofs.Walk.each_pair.Goals as goal
use Rattle.clauses.proofs.Walk.each_pair.Goals.{then-denied, else-denied}

pub loop-k-init : goal.loop-k-init
loop-k-init c = turn-none _ _

pub clause-requires : goal.clause-requires
clause-requires c = (
  omega arith,
  (
    omega arith,
    rw (not-said _ _ (omega arith) c.negative.ensures, not-said _ _ (omega arith) c.negative-in-loop-k.ensures, c.loop-k.invariant.same_values)
        (judged-same (elim c.if-denied.branch [
          | then-denied w ↦ rw (w.is_true-is, ← c.value-denied.ensures, w.if-denied.true)
          | else-denied w ↦ rw (w.is_true-is, ← c.value-denied.ensures, w.if-denied.false, or-false, ← c.loop-k.invariant.same_values) (ap not w.value.ensures)
        ]) (judged-not _ (judged-not _ judged-none))),
  ),
)

pub loop-k-preserved : goal.loop-k-preserved
loop-k-preserved c =
    turn _ _ _ (omega arith) c.loop-k.invariant
    (rw (not-said _ _ (omega arith) c.negative.ensures, not-said _ _ (omega arith) c.negative-in-loop-k.ensures) at c.clause.ensures)

pub returns : goal.returns
returns c = passes_same (sym (words-map _ _)) (turned _ _ _ _ (omega arith) c.loop-k.invariant)
