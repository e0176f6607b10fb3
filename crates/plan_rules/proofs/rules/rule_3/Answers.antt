use Rattle.std.proofs.Common.{rules, ◌∙◌}
use Rattle.spec.specs.Instance.{instance_of}
use Rattle.spec.specs.Plan.{plan_of, leaves_rightly}
use Rattle.spec.specs.Held.{held}
use Rattle.plan_rules.proofs.Broken.{leaving}
use Rattle.plan_rules.proofs.rules.rule_3.Goals as goal

pub returns : goal.returns
returns c = c.every_train.ensures (leaves_rightly (instance_of (held c.args.b)) (plan_of (instance_of (held c.args.b)) c.args.plan.now)) (λ i l own r h k. search rules) ∙ leaving _ _
