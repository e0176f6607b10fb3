use Rattle.std.proofs.Common.{arith}
use Rattle.formula.specs.Counting.{counter_clauses}
use Rattle.clauses.proofs.Turns.{turn-none, turn}
use Rattle.formula.proofs.Rest.{passed-rows}
use Rattle.formula.proofs.counting.Counting.all_rows.Goals as goal

pub loop-j-init : goal.loop-j-init
loop-j-init c = turn-none _ _

pub loop-j-preserved : goal.loop-j-preserved
loop-j-preserved c = turn _ _ _ (omega arith) c.loop-j.invariant c.row.ensures

pub returns : goal.returns
unfolding counter_clauses
returns c = passed-rows _ _ (omega arith) _ c.loop-j.invariant
