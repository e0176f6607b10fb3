use Rattle.std.proofs.Common.{arith}
use Rattle.spec.specs.Formula.{clauses_i}
use Rattle.clauses.proofs.Laws.{passes_same}
use Rattle.clauses.proofs.Turns.{words_row, turn-none, turn, turned}
use Rattle.formula.proofs.families.clauses_i.Goals as goal

pub loop-s-init : goal.loop-s-init
loop-s-init c = turn-none _ _

pub loop-s-preserved : goal.loop-s-preserved
loop-s-preserved c = turn _ _ _ (omega arith) c.loop-s.invariant c.not_both.ensures

pub returns : goal.returns
unfolding clauses_i
returns c = passes_same (words_row _ _) (turned _ _ _ _ (omega arith) c.loop-s.invariant)
