-- `verdicts::assignment_text`: the line is that of what the check answers.
use Rattle.programs.proofs.verdicts.assignment_text.Goals as goal

pub returns : goal.returns
returns c = c.tell_plain.ensures _ c.check_assignment.ensures
