-- Case by case.
use native.Mathlib.Omega.{arith}
use Rattle.std.proofs.lemmas.Grind.{common_steps}
use Rattle.spec.specs.Plan.{runs}
use Rattle.plan_coding.proofs.encoding.is_run.Goals as goal

pub returns-in-Run : goal.returns-in-Run
unfolding runs
returns-in-Run c = grind (arith, common_steps)

pub returns-in_default : goal.returns-in_default
unfolding runs
returns-in_default c = grind (arith, common_steps)

pub returns-in_default-2 : goal.returns-in_default-2
unfolding runs
returns-in_default-2 c = grind (arith, common_steps)
