use Rattle.std.proofs.Common.{refl, sym, ap₂, ◌∙◌, arith}
use Rattle.laws.proofs.Loops.{all_done}
use Rattle.spec.specs.Instance.{instance_of}
use Rattle.spec.specs.Plan.{runs}
use Rattle.spec.specs.Held.{held}
use Rattle.tables.proofs.Here.{departs-here, departs-asks}
use Rattle.tables.proofs.Small.{intervals-is}
use Rattle.plan_rules.proofs.Loops.{all-fails, next-move, gone_step, leave-steps}
use Rattle.plan_rules.proofs.Ready.{planned, move_asks, prior-own}
use Rattle.plan_rules.proofs.rules.train_leaves.Goals as goal

pub loop-t-init : goal.loop-t-init
loop-t-init c =
    let b = c.args.b in
    let p = c.requires.0 in
    let i = c.args.train in
    record {
      rest = leave-steps (instance_of (held b)) _ i (sym (departs-here b p.passed i p.known)) (intervals-is b p.passed) (departs-asks b p.passed i p.known).0;
      last = refl;
    }

pub move_at-m-requires : goal.move_at-m-requires
move_at-m-requires c = move_asks (planned c.requires.0 c.requires.1) c.loop-t.t c.loop-t-test.true

pub gone_fits-requires : goal.gone_fits-requires
gone_fits-requires c =
    let h = planned c.requires.0 c.requires.1 in
    (c.requires.0, prior-own h c.loop-t.before c.loop-t.t (omega (arith, c.loop-t-test.true)) c.loop-t.invariant.last, c.goal-to.ensures)

pub returns-then-not-gone_fits : goal.returns-then-not-gone_fits
returns-then-not-gone_fits c =
    let here = c.gone_fits.ensures
    ∙ ap₂ (gone_step (λ x. runs x (λ r. (instance_of (held c.args.b)).leaves c.args.train r)) _ c.loop-t.t) c.loop-t.invariant.last c.move_at-m.ensures in
    all-fails _ c.loop-t.invariant.rest c.loop-t-test.true here c.if-not-gone_fits.true

pub loop-t-preserved : goal.loop-t-preserved
loop-t-preserved c =
    let here = c.gone_fits.ensures
    ∙ ap₂ (gone_step (λ x. runs x (λ r. (instance_of (held c.args.b)).leaves c.args.train r)) _ c.loop-t.t) c.loop-t.invariant.last c.move_at-m.ensures in
    let next = next-move _ _ c.loop-t.invariant.rest c.loop-t-test.true here c.move_at-m.ensures c.if-not-gone_fits.false in
    record { rest = next.0; last = next.1 }

pub returns : goal.returns
returns c = all_done _ c.loop-t.invariant.rest c.loop-t-test.false
