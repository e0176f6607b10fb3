use Rattle.std.proofs.Common.{◌∙◌, ap, sym}
use borrow.Author.Tests.{eq-eqb, ne_eqb}
use lib.Dec.{eqb}
use Rattle.layout.proofs.Places.{all-bits}
use Rattle.formula.proofs.Judged.{fits-long, fits_bits}
use Rattle.formula.proofs.judging.assignment_fits.Goals as goal

pub returns-then-values-variable_count : goal.returns-then-values-variable_count
returns-then-values-variable_count c =
    fits_bits _ _ (eq-eqb _ _ (c.if-values-variable_count.true ∙ c.variable_count.ensures.0)) (c.all_below.ensures ∙ all-bits _)

pub returns-else-values-variable_count : goal.returns-else-values-variable_count
returns-else-values-variable_count c =
    let e = ne_eqb _ _ c.if-values-variable_count.false in
    e ∙ fits-long _ _ (sym (ap (eqb _) c.variable_count.ensures.0) ∙ e)
