-- An interval is found where trains meet.
use Rattle.std.proofs.Common.{◌≡◌, ap, ◌∙◌, not, ◌-◌, rules, tests, arith}
use Rattle.spec.specs.Lists.{least_from}
use Rattle.spec.specs.Instance.{instance_of}
use Rattle.spec.specs.Plan.{plan_of, apart_in}
use Rattle.spec.specs.Carriers.{earliest}
use Rattle.spec.specs.Held.{held}
use Rattle.tables.proofs.Small.{intervals-is}
use Rattle.plan_rules.proofs.Chains.{least-of-range}
use Rattle.plan_rules.proofs.apart.earliest_meeting.Goals as goal

pub returns : goal.returns
unfolding earliest
returns c =
    let I = instance_of (held c.args.b) in
    let all : c.args.b.intervals - 0 ≡ I.intervals = omega (arith, intervals-is c.args.b c.requires.0.counted.passed) in
    c.unwrap_or.ensures
    ∙ least-of-range (λ t. not (apart_in I (plan_of I c.args.plan.now) t)) _ _ _ (λ x b q k. (search rules, λ l m. search (rules, tests))) (omega arith) c.find.ensures.ran
    ∙ ap (least_from (λ t. not (apart_in I (plan_of I c.args.plan.now) t)) 0) all
