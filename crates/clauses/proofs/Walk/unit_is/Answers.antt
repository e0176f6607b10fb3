use Rattle.std.proofs.Common.{arith, sym, ◌∙◌}
use Rattle.clauses.proofs.Laws.{is_said, judged-is, or-false, judged-same, judged-none}
use Rattle.clauses.proofs.Walk.unit_is.Goals as goal

pub clause-requires : goal.clause-requires
clause-requires c = (omega arith, (omega arith, rw (is_said _ _ c.requires c.positive.ensures) (judged-same (c.value-is_true.ensures ∙ sym (or-false _)) (judged-is _ judged-none))))

pub returns : goal.returns
returns c = rw (is_said _ _ c.requires c.positive.ensures) at c.clause.ensures
