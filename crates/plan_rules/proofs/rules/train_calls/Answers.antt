-- The test of a call is that of rule 5.
use Rattle.std.proofs.Common.{rules, refl}
use Rattle.spec.specs.Instance.{instance_of, compile}
use Rattle.spec.specs.Plan.{keeps_calls}
use Rattle.plan_rules.proofs.Chains.{all-below}
use Rattle.plan_rules.proofs.rules.train_calls.Goals as goal

pub returns : goal.returns
unfolding keeps_calls instance_of compile
returns c = all-below _ _ (λ x b q k. (search rules, λ l m. search rules)) refl c.calls_of.ensures.0 c.all.ensures.ran
