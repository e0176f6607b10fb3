-- The book's refusal, or the judgement for the book that the bytes hold. Assumes nothing.
use Rattle.std.proofs.Common.{sym, ◌∙◌}
use Rattle.std.proofs.lemmas.Result.{err_from_is_err_and}
use Rattle.spec.specs.Held.{held_cap}
use Rattle.spec.specs.Entry.{judge_assignment, check_assignment}
use Rattle.tables.specs.Prepared.{prepared_of}
use Rattle.tables.proofs.Instances.{went-under, stopped-under}
use Rattle.checking.proofs.check_assignment.Goals as goal

pub returns-in_err-book : goal.returns-in_err-book
unfolding check_assignment
returns-in_err-book c =
    let p = err_from_is_err_and c.from_residual.result c.from_residual.ensures.1 in
    rw (p.1, p.2) (sym (stopped-under _ prepared_of c.prepare_chains.ensures.answer c.in_err-book.was (held_cap c.args.cap)
    (λ I. judge_assignment I c.args.values.now)))

pub returns : goal.returns
unfolding check_assignment
returns c =
    c.judge_assignment.ensures
    ∙ went-under _ c.prepare_chains.ensures.answer c.in_ok-book.was (held_cap c.args.cap) (λ I. judge_assignment I c.args.values.now)
