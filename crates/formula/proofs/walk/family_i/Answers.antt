use Rattle.std.proofs.Common.{ap, arith}
use Rattle.spec.specs.Instance.{instance_of}
use Rattle.spec.specs.Held.{held}
use Rattle.spec.specs.Formula.{words_of}
use Rattle.tables.proofs.Small.{intervals-is}
use Rattle.formula.proofs.Shapes.{shape-i}
use Rattle.clauses.proofs.Laws.{passes_same}
use Rattle.clauses.proofs.Turns.{turn-none, turn}
use Rattle.formula.proofs.Rest.{passed-rows}
use Rattle.formula.proofs.walk.family_i.Goals as goal

pub loop-interval-init : goal.loop-interval-init
loop-interval-init c = turn-none _ _

pub loop-interval-preserved : goal.loop-interval-preserved
loop-interval-preserved c = turn _ _ _ (omega arith) c.loop-interval.invariant c.interval_pairs.ensures

pub returns : goal.returns
returns c =
    let intervals = intervals-is _ c.args.t.now.runs_ready.counted.passed in
    passes_same (ap words_of (shape-i (instance_of (held c.args.t.now.book)))) (passed-rows _ _ (omega arith) _ c.loop-interval.invariant)
