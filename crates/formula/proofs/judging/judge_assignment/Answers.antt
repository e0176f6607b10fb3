use Rattle.std.proofs.Common.{◌∙◌, ap, sym}
use Rattle.spec.specs.Held.{held_cap}
use Rattle.clauses.specs.declared.Tally.{Tally}
use Rattle.clauses.specs.Walked.{totals}
use Rattle.formula.proofs.Totals.{walk-totals}
use Rattle.formula.proofs.Judged.{answer-unfit, answer-false, answer-true}
use Rattle.formula.proofs.judging.judge_assignment.Goals as goal

pub returns-then-not-assignment_fits : goal.returns-then-not-assignment_fits
returns-then-not-assignment_fits c = answer-unfit _ _ (sym c.assignment_fits.ensures ∙ c.if-not-assignment_fits.true)

pub returns-in-Some : goal.returns-in-Some
unfolding totals
returns-in-Some c =
    let walk = walk-totals c.args.t.now.book c.args.t.now.runs_ready.counted.passed (held_cap c.args.cap) c.walk_formula-tally.ensures in
    answer-false _ _ (sym c.assignment_fits.ensures ∙ c.if-not-assignment_fits.false) (sym (ap (λ (w : Tally). w.wrong) walk) ∙ c.in-Some.is)

pub returns : goal.returns
unfolding totals
returns c =
    let walk = walk-totals c.args.t.now.book c.args.t.now.runs_ready.counted.passed (held_cap c.args.cap) c.walk_formula-tally.ensures in
    answer-true _ _ (sym c.assignment_fits.ensures ∙ c.if-not-assignment_fits.false) (sym (ap (λ (w : Tally). w.wrong) walk) ∙ c.in_default.is)
