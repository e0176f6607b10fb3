-- `gentupag::labels::borders_fit` meets its contract: the length, then the bytes. Assumes nothing.
use borrow.Author.Rules.{rules}
use borrow.Author.Tests.{ne_eqb}
use mathlib.Core.Path.{◌∙◌}
use Rattle.gentupag.proofs.Labelled.{fit-long, fit-bits}
use Rattle.gentupag.proofs.labels.borders_fit.Statement.{statement}
use Rattle.gentupag.proofs.labels.borders_fit.Tie as tie

returns : tie.Need-returns-then-borders-b
returns c =
    let s = c.before.before.before.before in
    fit-bits s.args.b s.requires _ c.if-borders-b.true c.all_below.ensures

returns-2 : tie.Need-returns-else-borders-b
returns-2 c = let s = c.before.before.before in ne_eqb _ _ c.if-borders-b.false ∙ fit-long s.args.b s.requires _ c.if-borders-b.false

pub borders_fit_spec : {M : Type 1} → statement M
borders_fit_spec = tie.close (tie.spec (λ c κs. search rules) returns returns-2)
