-- The room, then the judgement. Assumes nothing.
use Rattle.std.proofs.Common.{◌∙◌}
use Rattle.plan_rules.proofs.Answers.{answer-narrow, answer-judged}
use Rattle.plan_rules.proofs.judging.admit_plan.Goals as goal

pub returns-then-room-need : goal.returns-then-room-need
returns-then-room-need c = answer-narrow _ _ _ _ c.if-room-need.true

pub returns : goal.returns
returns c = c.judge_plan.ensures ∙ answer-judged _ _ _ _ c.if-room-need.false
