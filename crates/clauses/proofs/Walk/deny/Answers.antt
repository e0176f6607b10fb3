use Rattle.std.proofs.Common.{sym, ap, ◌∙◌, not}
use Rattle.clauses.proofs.Laws.{not-said, or-false, judged-same, judged-not, judged-none}
use Rattle.clauses.proofs.Walk.deny.Goals as goal

pub literal-requires : goal.literal-requires
literal-requires c = rw (not-said _ _ c.requires c.negative.ensures) (judged-same (ap not c.value-is_true.ensures ∙ sym (or-false _)) (judged-not _ judged-none))

pub returns : goal.returns
returns c = rw (not-said _ _ c.requires c.negative.ensures) at c.literal.ensures
