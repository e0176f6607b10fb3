-- The assignment and n, then the refutation, which must be empty. Assumes nothing.
use Rattle.std.proofs.Common.{sym, ◌∙◌}
use Rattle.std.proofs.lemmas.Result.{err_from_is_err_and}
use Rattle.fewest.proofs.Combining.{counts_some, then-empty}
use Rattle.fewest.proofs.fewest_none.Goals as goal

pub returns-in_err-judge_count : goal.returns-in_err-judge_count
returns-in_err-judge_count c lent =
    let p = err_from_is_err_and c.from_residual.result c.from_residual.ensures.1 in
    rw (p.1, p.2) (sym (counts_some _ _ _ lent (sym c.in_err-judge_count.ensures)))

pub returns : goal.returns
returns c lent = c.none_below.ensures ∙ sym (then-empty _ _ _ lent (sym c.in_ok-judge_count.ensures))
