-- The book's refusal, or the verdict by the tables of the book that the bytes hold. Assumes nothing.
use Rattle.std.proofs.Common.{ℕ, sym, ap, ◌∙◌}
use Rattle.std.proofs.lemmas.Result.{err_from_is_err_and}
use Rattle.spec.specs.Instance.{Instance, instance_of}
use Rattle.spec.specs.Held.{held}
use Rattle.spec.specs.Entry.{fewest_for, check_fewest}
use Rattle.tables.specs.Prepared.{prepared_of}
use Rattle.tables.proofs.Instances.{went_on, stopped}
use Rattle.refutations.specs.Lent.{lengths}
use Rattle.fewest.proofs.decide.Goals as goal

pub returns-in_err-book : goal.returns-in_err-book
unfolding check_fewest
returns-in_err-book c =
    let p = err_from_is_err_and c.from_residual.result c.from_residual.ensures.1 in
    rw (p.1, p.2) (sym (stopped _ prepared_of c.prepare_chains.ensures.answer c.in_err-book.was _))

pub returns-then-n-eq0 : goal.returns-then-n-eq0
unfolding check_fewest
returns-then-n-eq0 c =
    let a = c.args in
    let lent = lengths a.words.now a.starts.now a.values.now a.trail.now in
    c.fewest_none.ensures lent
    ∙ ap (λ (n : ℕ). fewest_for (instance_of (held c.in_ok-book.field-0.book)) n a.assignment.now a.refutation.now lent) (sym c.if-n-eq0.true)
    ∙ went_on _ c.prepare_chains.ensures.answer c.in_ok-book.was
    (λ (I : Instance). fewest_for I a.n a.assignment.now a.refutation.now lent)

pub returns : goal.returns
unfolding check_fewest
returns c =
    let a = c.args in
    c.fewest_some.ensures
    ∙ went_on _ c.prepare_chains.ensures.answer c.in_ok-book.was
    (λ (I : Instance). fewest_for I a.n a.assignment.now a.refutation.now (lengths a.words.now a.starts.now a.values.now a.trail.now))
