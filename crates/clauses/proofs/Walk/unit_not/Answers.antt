use Rattle.std.proofs.Common.{arith, sym, ap, ◌∙◌, not}
use Rattle.clauses.proofs.Laws.{judged-not, not-said, or-false, judged-same, judged-none}
use Rattle.clauses.proofs.Walk.unit_not.Goals as goal

pub clause-requires : goal.clause-requires
clause-requires c = (omega arith, (omega arith, rw (not-said _ _ c.requires c.negative.ensures) (judged-same (ap not c.value-is_true.ensures ∙ sym (or-false _)) (judged-not _ judged-none))))

pub returns : goal.returns
returns c = rw (not-said _ _ c.requires c.negative.ensures) at c.clause.ensures
