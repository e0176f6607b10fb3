-- `verdicts::fewest_text`: 12 where an input is too long, else the line of what the check answers.
use Rattle.std.proofs.Common.{refl}
use Rattle.spec.specs.Lists.{refused}
use Rattle.programs.proofs.FormulaProgram.{is-long, not-long}
use Rattle.programs.proofs.Lines.{tells-same}
use Rattle.programs.proofs.verdicts.fewest_text.Goals as goal

pub returns-then-long : goal.returns-then-long
returns-then-long c = tells-same (is-long _ c.if-long.true) (c.tell.ensures (refused 12 0) refl)

pub returns : goal.returns
returns c = tells-same (not-long _ c.if-long.false) c.lent_fewest_text.ensures
