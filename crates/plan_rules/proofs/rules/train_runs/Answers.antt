use Rattle.std.proofs.Common.{refl, ap₂, ◌∙◌, arith}
use Rattle.laws.proofs.Loops.{all_done}
use Rattle.spec.specs.Instance.{instance_of}
use Rattle.spec.specs.Plan.{plan_of}
use Rattle.spec.specs.Held.{held}
use Rattle.tables.proofs.Small.{intervals-is}
use Rattle.plan_rules.proofs.Loops.{all-fails, next-move, run_step, run-steps}
use Rattle.plan_rules.proofs.Ready.{planned, move_asks, move-own, prior-own}
use Rattle.plan_rules.proofs.rules.train_runs.Goals as goal

pub loop-t-init : goal.loop-t-init
loop-t-init c = record {
  rest = run-steps (instance_of (held c.args.b)) _ c.args.train (intervals-is c.args.b c.requires.0.passed);
  last = refl;
}

pub move_at-m-requires : goal.move_at-m-requires
move_at-m-requires c = move_asks (planned c.requires.0 c.requires.1) c.loop-t.t c.loop-t-test.true

pub goes_on-requires : goal.goes_on-requires
goes_on-requires c =
    let h = planned c.requires.0 c.requires.1 in
    let t = c.loop-t.t in (
      c.requires.0,
      prior-own h c.loop-t.before t (omega (arith, c.loop-t-test.true)) c.loop-t.invariant.last,
      move-own h c.move_at-m.result t c.loop-t-test.true c.move_at-m.ensures,
    )

pub returns-then-not-goes_on : goal.returns-then-not-goes_on
returns-then-not-goes_on c =
    let I = instance_of (held c.args.b) in
    let here = c.goes_on.ensures ∙ ap₂ (run_step I (plan_of I c.args.plan.now) c.args.train) c.loop-t.invariant.last c.move_at-m.ensures in
    all-fails _ c.loop-t.invariant.rest c.loop-t-test.true here c.if-not-goes_on.true

pub loop-t-preserved : goal.loop-t-preserved
loop-t-preserved c =
    let I = instance_of (held c.args.b) in
    let here = c.goes_on.ensures ∙ ap₂ (run_step I (plan_of I c.args.plan.now) c.args.train) c.loop-t.invariant.last c.move_at-m.ensures in
    let next = next-move _ _ c.loop-t.invariant.rest c.loop-t-test.true here c.move_at-m.ensures c.if-not-goes_on.false in
    record { rest = next.0; last = next.1 }

pub returns : goal.returns
returns c = all_done _ c.loop-t.invariant.rest c.loop-t-test.false
