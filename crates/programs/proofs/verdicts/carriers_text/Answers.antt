-- `verdicts::carriers_text`: the line is that of what the list answers.
use Rattle.spec.specs.Carriers.{carriers_output}
use Rattle.programs.proofs.verdicts.carriers_text.Goals as goal

pub returns : goal.returns
unfolding carriers_output
returns c = (c.tell.ensures _ c.list_carriers.ensures.answer, c.list_carriers.ensures.output)
