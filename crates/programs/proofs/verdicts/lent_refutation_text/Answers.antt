-- `verdicts::lent_refutation_text`: its slices are as long as the programs' are.
use Rattle.spec.specs.Programs.{slice_bytes, slice_of, program_lent}
use Rattle.programs.proofs.verdicts.lent_refutation_text.Goals as goal

pub returns : goal.returns
unfolding program_lent slice_of slice_bytes
returns c = c.refutation_text.ensures.0
