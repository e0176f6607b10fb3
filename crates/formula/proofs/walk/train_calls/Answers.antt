use Rattle.std.proofs.Common.{arith}
use Rattle.spec.specs.Instance.{instance_of, compile}
use Rattle.clauses.proofs.Turns.{turn-none, turn}
use Rattle.formula.proofs.Rest.{passed-rows}
use Rattle.formula.proofs.walk.train_calls.Goals as goal

pub loop-number-init : goal.loop-number-init
loop-number-init c = turn-none _ _

pub loop-number-preserved : goal.loop-number-preserved
loop-number-preserved c = turn _ _ _ (omega arith) c.loop-number.invariant c.call_clause.ensures

pub returns : goal.returns
unfolding instance_of compile
returns c = passed-rows _ _ (omega (arith, c.calls_of-number-end.ensures)) _ c.loop-number.invariant
