use Rattle.std.proofs.Common.{sym, ◌∙◌}
use Rattle.clauses.proofs.Laws.{is_said, or-false, judged-same, judged-is, judged-none}
use Rattle.clauses.proofs.Walk.affirm.Goals as goal

pub literal-requires : goal.literal-requires
literal-requires c = rw (is_said _ _ c.requires c.positive.ensures) (judged-same (c.value-is_true.ensures ∙ sym (or-false _)) (judged-is _ judged-none))

pub returns : goal.returns
returns c = rw (is_said _ _ c.requires c.positive.ensures) at c.literal.ensures
