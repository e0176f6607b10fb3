-- `verdicts::unpacking_text`: the line is that of what the unpacking answers.
use Rattle.spec.specs.Entry.{plan_output}
use Rattle.programs.proofs.verdicts.unpacking_text.Goals as goal

pub returns : goal.returns
unfolding plan_output
returns c = (c.tell.ensures _ c.unpack_plan.ensures.answer, c.unpack_plan.ensures.output)
