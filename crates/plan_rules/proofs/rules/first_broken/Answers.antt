-- The rules in their order. Assumes nothing.
use Rattle.std.proofs.Common.{sym, ◌∙◌}
use Rattle.plan_rules.proofs.Broken.{first-1, first-2, first-3, first-4, first-5, first-none}
use Rattle.plan_rules.proofs.rules.first_broken.Goals as goal

pub returns-then-not-rule_1 : goal.returns-then-not-rule_1
returns-then-not-rule_1 c =
    first-1 _ _ (sym c.rule_1.ensures ∙ c.if-not-rule_1.true)

pub returns-then-not-rule_2 : goal.returns-then-not-rule_2
returns-then-not-rule_2 c =
    first-2 _ _ (sym c.rule_1.ensures ∙ c.if-not-rule_1.false) (sym c.rule_2.ensures ∙ c.if-not-rule_2.true)

pub returns-then-not-rule_3 : goal.returns-then-not-rule_3
returns-then-not-rule_3 c =
    first-3 _ _ (sym c.rule_1.ensures ∙ c.if-not-rule_1.false) (sym c.rule_2.ensures ∙ c.if-not-rule_2.false) (sym c.rule_3.ensures ∙ c.if-not-rule_3.true)

pub returns-then-not-rule_4 : goal.returns-then-not-rule_4
returns-then-not-rule_4 c =
    first-4 _ _ (sym c.rule_1.ensures ∙ c.if-not-rule_1.false) (sym c.rule_2.ensures ∙ c.if-not-rule_2.false) (sym c.rule_3.ensures ∙ c.if-not-rule_3.false) (sym c.rule_4.ensures ∙ c.if-not-rule_4.true)

pub returns-then-not-rule_5 : goal.returns-then-not-rule_5
returns-then-not-rule_5 c =
    first-5 _ _ (sym c.rule_1.ensures ∙ c.if-not-rule_1.false) (sym c.rule_2.ensures ∙ c.if-not-rule_2.false) (sym c.rule_3.ensures ∙ c.if-not-rule_3.false) (sym c.rule_4.ensures ∙ c.if-not-rule_4.false) (sym c.rule_5.ensures ∙ c.if-not-rule_5.true)

pub returns : goal.returns
returns c =
    first-none _ _ (sym c.rule_1.ensures ∙ c.if-not-rule_1.false) (sym c.rule_2.ensures ∙ c.if-not-rule_2.false) (sym c.rule_3.ensures ∙ c.if-not-rule_3.false) (sym c.rule_4.ensures ∙ c.if-not-rule_4.false) (sym c.rule_5.ensures ∙ c.if-not-rule_5.false)
