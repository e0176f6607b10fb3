use Rattle.std.proofs.Common.{arith}
use Rattle.clauses.proofs.Laws.{passes_same}
use Rattle.clauses.proofs.Turns.{turn-none, turn, turned, words-rows}
use Rattle.clauses.proofs.Walk.no_two.Goals as goal

pub loop-m-init : goal.loop-m-init
loop-m-init c = turn-none _ _

pub loop-m-preserved : goal.loop-m-preserved
loop-m-preserved c = turn _ _ _ (omega arith) c.loop-m.invariant c.pairs_of.ensures

pub returns : goal.returns
returns c = passes_same (words-rows _ _) (turned _ _ _ _ (omega arith) c.loop-m.invariant)
