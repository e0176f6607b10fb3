use Rattle.std.proofs.Common.{rules, ◌∙◌}
use Rattle.spec.specs.Instance.{instance_of}
use Rattle.spec.specs.Plan.{plan_of, runs_on}
use Rattle.spec.specs.Held.{held}
use Rattle.plan_rules.proofs.Broken.{running}
use Rattle.plan_rules.proofs.rules.rule_4.Goals as goal

pub returns : goal.returns
returns c = c.every_train.ensures (runs_on (instance_of (held c.args.b)) (plan_of (instance_of (held c.args.b)) c.args.plan.now)) (λ i l own r h k. search rules) ∙ running _ _
