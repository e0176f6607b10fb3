-- The bytes, then the rules in their order. Assumes nothing.
use Rattle.std.proofs.Common.{◌≡◌, sym, ◌∙◌, arith}
use mathlib.Core.Path.{refl}
use Rattle.laws.proofs.Tests.{from-true}
use Rattle.tables.proofs.Small.{nodes-is}
use Rattle.demands.proofs.Moves.{nodes-inside}
use Rattle.sections.proofs.Same.{plan-labelled}
use Rattle.plan_rules.proofs.Answers.{answer-unfit, answer-early, answer-sixth, answer-kept}
use Rattle.plan_rules.proofs.judging.judge_plan.Goals as goal

pub returns-then-not-plan_fits : goal.returns-then-not-plan_fits
returns-then-not-plan_fits c = answer-unfit _ _ (sym c.plan_fits.ensures ∙ c.if-not-plan_fits.true)

pub returns-in-Some : goal.returns-in-Some
returns-in-Some c =
    answer-early _ _ (sym c.plan_fits.ensures ∙ c.if-not-plan_fits.false) c.first_broken.ensures c.in-Some.is

pub label_sections-requires : goal.label_sections-requires
label_sections-requires c =
    let t = c.args.t.now in
    let p = t.runs_ready.counted.passed in
    let fits = from-true (sym c.plan_fits.ensures ∙ c.if-not-plan_fits.false) in
    (p, t.meets_ready, omega (arith, nodes-inside _ _ fits, nodes-is t.book p), refl)

pub rule_6-requires : goal.rule_6-requires
rule_6-requires c =
    let t = c.args.t.now in (
      t.runs_ready,
      from-true (sym c.plan_fits.ensures ∙ c.if-not-plan_fits.false),
      plan-labelled t.book t.runs_ready.counted.passed _ _ refl c.label_sections.ensures,
    )

pub returns-then-not-rule_6 : goal.returns-then-not-rule_6
returns-then-not-rule_6 c =
    answer-sixth _ _ (sym c.plan_fits.ensures ∙ c.if-not-plan_fits.false) c.first_broken.ensures c.in_default.is
    (sym c.rule_6.ensures ∙ c.if-not-rule_6.true)

pub returns : goal.returns
returns c =
    answer-kept _ _ (sym c.plan_fits.ensures ∙ c.if-not-plan_fits.false) c.first_broken.ensures c.in_default.is
    (sym c.rule_6.ensures ∙ c.if-not-rule_6.false)
