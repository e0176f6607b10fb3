use Rattle.std.proofs.Common.{arith}
use Rattle.formula.specs.Counting.{row_clauses}
use Rattle.clauses.proofs.Turns.{turn-none, turn}
use Rattle.formula.proofs.Rest.{passes-both, passed-rows}
use Rattle.formula.proofs.counting.Counting.row.Goals as goal

pub loop-k-init : goal.loop-k-init
loop-k-init c = turn-none _ _

pub loop-k-preserved : goal.loop-k-preserved
loop-k-preserved c = turn _ _ _ (omega arith) c.loop-k.invariant (passes-both _ _ c.count_clause.ensures c.carry_clause.ensures)

pub returns : goal.returns
unfolding row_clauses
returns c = passed-rows _ _ (omega arith) _ c.loop-k.invariant
