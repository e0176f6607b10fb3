-- 17 where no step stands, and else each way out is a verdict of the specification's table, by what the tests before it gave.
-- Assumes nothing.
use Rattle.std.proofs.Common.{◌≡◌, refl, sym, ◌∙◌}
use Rattle.std.proofs.lemmas.Result.{err_from_is_err_and}
use mathlib.Core.Logic.{⊎_elim}
use Rattle.model.specs.declared.refusals.Refusal.TheVariants.{CutStep}
use Rattle.refutation_file.proofs.Found.{bad-step}
use Rattle.refutation_steps.proofs.StepFaults.{is-bad}
use Rattle.refutation_steps.proofs.StepAnswers.{given, refused-18, refused-19, few_words, no-entry, words-room, refused-20, step-proved}
use Rattle.refutation_steps.proofs.one_step.check_step.Goals as goal

pub returns-in_err-step-clause-answer : goal.returns-in_err-step-clause-answer
returns-in_err-step-clause-answer c =
    let none = c.in_err-step.ensures.ok_part in
    let value = rw none at c.in_err-step.ensures.value in
    let is : c.in_err-step.field-0.0 ≡ CutStep c.args.number = cc in
    let p = err_from_is_err_and c.from_residual.result c.from_residual.ensures.1 in
    rw (p.1, p.2, is) (is-bad _ _ _ _ _ _ (bad-step _ (sym c.step_at.ensures.found ∙ none)))

pub returns-then-not-literals_fit-clause-answer : goal.returns-then-not-literals_fit-clause-answer
returns-then-not-literals_fit-clause-answer c =
    let g = given c.requires.1 c.step_at.ensures.found c.in_ok-step.ensures.ok_part c.literals_at-literals.ensures c.hints_at-hints.ensures in
    refused-18 _ g c.literals_fit.ensures c.if-not-literals_fit.true

pub returns-then-not-hints_fit-clause-answer : goal.returns-then-not-hints_fit-clause-answer
returns-then-not-hints_fit-clause-answer c =
    let g = given c.requires.1 c.step_at.ensures.found c.in_ok-step.ensures.ok_part c.literals_at-literals.ensures c.hints_at-hints.ensures in
    refused-19 _ g (sym c.literals_fit.ensures ∙ c.if-not-literals_fit.false) c.hints_fit.ensures c.if-not-hints_fit.true

pub returns-then-words-used-clause-answer : goal.returns-then-words-used-clause-answer
returns-then-words-used-clause-answer c =
    let g = given c.requires.1 c.step_at.ensures.found c.in_ok-step.ensures.ok_part c.literals_at-literals.ensures c.hints_at-hints.ensures in
    let fit = sym c.literals_fit.ensures ∙ c.if-not-literals_fit.false in
    let known = sym c.hints_fit.ensures ∙ c.if-not-hints_fit.false in
    ⊎_elim (λ e. few_words _ g fit known e) (λ e. no-entry _ g fit known e.1) c.then-words-used.either

pub returns-then-not-follows_rule-clause-answer : goal.returns-then-not-follows_rule-clause-answer
returns-then-not-follows_rule-clause-answer c =
    let g = given c.requires.1 c.step_at.ensures.found c.in_ok-step.ensures.ok_part c.literals_at-literals.ensures c.hints_at-hints.ensures in
    refused-20 _ g (sym c.literals_fit.ensures ∙ c.if-not-literals_fit.false) (sym c.hints_fit.ensures ∙ c.if-not-hints_fit.false)
    c.if-words-used.false c.if-starts-count.false c.follows_rule.ensures.0 c.if-not-follows_rule.true

pub store_clause-requires : goal.store_clause-requires
store_clause-requires c =
    let g = given c.requires.1 c.step_at.ensures.found c.in_ok-step.ensures.ok_part c.literals_at-literals.ensures c.hints_at-hints.ensures in
    words-room c.args.number g c.if-words-used.false

pub returns : goal.returns
returns c =
    let g = given c.requires.1 c.step_at.ensures.found c.in_ok-step.ensures.ok_part c.literals_at-literals.ensures c.hints_at-hints.ensures in
    let rule = c.follows_rule.ensures in
    let p = step-proved c.args.number g (sym c.literals_fit.ensures ∙ c.if-not-literals_fit.false) (sym c.hints_fit.ensures ∙ c.if-not-hints_fit.false)
    c.if-words-used.false c.if-starts-count.false rule.0 c.if-not-follows_rule.false c.store_clause.ensures refl rule.1
    c.follows_rule.auto.trail rule.2 in
    record { answer = p.0; leaves = p.1 }
