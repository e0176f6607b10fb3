-- `verdicts::upgrade_text`: 12 where the old book is too long, else what the rewriter answers.
use Rattle.std.proofs.Common.{refl}
use Rattle.spec.specs.Lists.{refused}
use Rattle.spec.specs.Upgrade.{upgrade_output}
use Rattle.programs.proofs.FormulaProgram.{is-long, not-long}
use Rattle.programs.proofs.Lines.{tells-same, output-same, refused-output}
use Rattle.programs.proofs.verdicts.upgrade_text.Goals as goal

pub returns-then-long : goal.returns-then-long
returns-then-long c =
    let q = is-long _ c.if-long.true in
    (tells-same q (c.tell.ensures (refused 12 0) refl), output-same q _ (refused-output c.args.out.now 12 0))

pub returns : goal.returns
unfolding upgrade_output
returns c =
    let q = not-long _ c.if-long.false in
    let e = c.upgrade_book.ensures in
    (tells-same q (c.tell-2.ensures _ e.answer), output-same q _ e.output)
