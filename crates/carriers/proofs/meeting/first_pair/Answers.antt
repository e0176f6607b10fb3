use Rattle.std.proofs.Common.{◌≡◌, sym, ap, ◌∙◌, ℕ, ◌-◌, ◌≤◌, ◌<◌, true, false, arith}
use Rattle.laws.proofs.Least.{least-here, least-next, least-end}
use Rattle.laws.proofs.Tests.{true_of, false_of}
use Rattle.demands.proofs.Meetings.{meets-iff, lower-below, higher-above, higher-below, higher-meets}
use Rattle.spec.specs.Lists.{least_from}
use Rattle.spec.specs.Instance.{Instance, instance_of}
use Rattle.spec.specs.Plan.{Plan, plan_of}
use Rattle.spec.specs.Carriers.{meets_higher, lower_train, higher_train}
use Rattle.spec.specs.Held.{held}
use Rattle.tables.proofs.Small.{trains-is}
use Rattle.carriers.proofs.meeting.first_pair.Goals as goal

-- a train meets a higher one exactly where the least of those is a train
module _ (I : Instance) (p : Plan) (t i : ℕ) {n j : ℕ} (trains : I.trains ≡ n) (e : j ≡ higher_train I p t i) where
  found : j < n → meets_higher I p t i ≡ true
  found l =
      let k : higher_train I p t i < I.trains = omega arith in
      true_of _ ((meets-iff I p t i).1 (higher_train I p t i, higher-above I p t i, k, higher-meets I p t i k))

  none_found : n ≤ j → meets_higher I p t i ≡ false
  none_found l = false_of _ (λ h. omega (arith, higher-below I p t i h))

pub loop-lower-init : goal.loop-lower-init
unfolding lower_train
loop-lower-init c =
    let I = instance_of (held c.args.b) in
    let n : I.trains ≡ c.args.b.train_count - 0 = omega (arith, trains-is c.args.b c.requires.0.0.counted.passed) in
    ap (least_from (meets_higher I (plan_of I c.args.plan.now) c.args.interval) 0) n

pub returns-then-higher-b : goal.returns-then-higher-b
returns-then-higher-b c =
    let I = instance_of (held c.args.b) in
    let p = plan_of I c.args.plan.now in
    let trains = trains-is c.args.b c.requires.0.0.counted.passed in
    let meets = found I p c.args.interval c.loop-lower.lower trains c.higher_train-higher.ensures c.if-higher-b.true in (
      sym (c.loop-lower.invariant ∙ least-here _ _ _ c.loop-lower-test.true meets),
      c.higher_train-higher.ensures,
      omega (arith, c.higher_train-higher.ensures, higher-above I p c.args.interval c.loop-lower.lower),
      c.if-higher-b.true,
    )

pub loop-lower-preserved : goal.loop-lower-preserved
loop-lower-preserved c =
    let I = instance_of (held c.args.b) in
    let trains = trains-is c.args.b c.requires.0.0.counted.passed in
    let none = none_found I (plan_of I c.args.plan.now) c.args.interval c.loop-lower.lower trains c.higher_train-higher.ensures c.if-higher-b.false in
    c.loop-lower.invariant ∙ least-next _ _ _ c.loop-lower-test.true none

-- no train would be left, but some meet
pub returns : goal.returns
returns c =
    let I = instance_of (held c.args.b) in
    let least = lower-below I (plan_of I c.args.plan.now) c.args.interval c.requires.2 in
    let end = c.loop-lower.invariant ∙ least-end _ _ _ c.loop-lower-test.false in
    absurd (omega (arith, least, end, c.loop-lower-test.false, trains-is c.args.b c.requires.0.0.counted.passed))
