use Rattle.std.proofs.Common.{arith}
use Rattle.clauses.proofs.Laws.{passes_same}
use Rattle.clauses.proofs.Turns.{turn-none, turn, turned, words_row}
use Rattle.clauses.proofs.Walk.deny_all.Goals as goal

pub loop-k-init : goal.loop-k-init
loop-k-init c = turn-none _ _

pub loop-k-preserved : goal.loop-k-preserved
loop-k-preserved c = turn _ _ _ (omega arith) c.loop-k.invariant c.unit_not.ensures

pub returns : goal.returns
returns c = passes_same (words_row _ _) (turned _ _ _ _ (omega arith) c.loop-k.invariant)
