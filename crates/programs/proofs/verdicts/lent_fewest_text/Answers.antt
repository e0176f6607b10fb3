-- `verdicts::lent_fewest_text`: its slices are as long as the programs' are, and the line is that of what the check answers.
use Rattle.spec.specs.Programs.{slice_bytes, slice_of, program_lent}
use Rattle.programs.proofs.verdicts.lent_fewest_text.Goals as goal

pub returns : goal.returns
unfolding program_lent slice_of slice_bytes
returns c = c.tell_plain.ensures _ c.check_fewest.ensures.answer
