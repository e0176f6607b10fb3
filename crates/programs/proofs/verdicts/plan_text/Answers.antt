-- `verdicts::plan_text`: the line is that of what the check answers.
use Rattle.spec.specs.Entry.{assignment_output}
use Rattle.programs.proofs.verdicts.plan_text.Goals as goal

pub returns : goal.returns
unfolding assignment_output
returns c = (c.tell.ensures _ c.check_plan.ensures.answer, c.check_plan.ensures.output)
