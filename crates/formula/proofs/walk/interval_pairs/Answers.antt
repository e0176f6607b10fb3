use Rattle.std.proofs.Common.{arith}
use Rattle.tables.proofs.Small.{trains-is}
use Rattle.clauses.proofs.Turns.{turn-none, turn}
use Rattle.formula.proofs.Rest.{passed-rows}
use Rattle.formula.proofs.walk.interval_pairs.Goals as goal

pub loop-i-init : goal.loop-i-init
loop-i-init c = turn-none _ _

pub loop-i-preserved : goal.loop-i-preserved
loop-i-preserved c = turn _ _ _ (omega arith) c.loop-i.invariant c.pairs_behind.ensures

pub returns : goal.returns
returns c =
    let trains = trains-is _ c.args.t.now.runs_ready.counted.passed in
    passed-rows _ _ (omega arith) _ c.loop-i.invariant
