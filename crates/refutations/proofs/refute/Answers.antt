-- The book's refusal, or the check of the book that the bytes hold. Assumes nothing.
use Rattle.std.proofs.Common.{ap₂, sym, ◌∙◌, ℕ, length}
use Rattle.std.proofs.lemmas.Result.{err_from_is_err_and}
use Rattle.spec.specs.Instance.{Instance, instance_of, under}
use Rattle.spec.specs.Held.{held, held_cap}
use Rattle.spec.specs.Entry.{refuted_for, check_refutation}
use Rattle.tables.specs.Prepared.{prepared_of}
use Rattle.tables.proofs.Instances.{went-under, stopped-under}
use Rattle.refutations.specs.Lent.{lengths}
use Rattle.refutations.proofs.Loaded.{loaded-stands}
use Rattle.refutations.proofs.refute.Goals as goal

pub returns-in_err-book : goal.returns-in_err-book
unfolding check_refutation
returns-in_err-book c =
    let p = err_from_is_err_and c.from_residual.result c.from_residual.ensures.1 in
    rw (p.1, p.2) (sym (stopped-under _ prepared_of c.prepare_chains.ensures.answer c.in_err-book.was (held_cap c.args.cap) _))

pub check_loaded-requires : goal.check_loaded-requires
check_loaded-requires c =
    let e = c.load_formula-formula.ensures in
    (c.in_ok-book.ensures.runs_ready.counted, e.extent, loaded-stands _ c.args.words.now c.args.starts.now e.words e.starts)

pub returns : goal.returns
unfolding check_refutation
returns c =
    let a = c.args in
    c.check_loaded.ensures
    ∙ ap₂ (λ (m n : ℕ). refuted_for (under (held_cap a.cap) (instance_of (held c.in_ok-book.field-0.book))) a.r.now
    (record { words = m; clauses = n; values = length a.values.now; trail = length a.trail.now }))
    c.load_formula-formula.auto.words c.load_formula-formula.auto.starts
    ∙ went-under _ c.prepare_chains.ensures.answer c.in_ok-book.was (held_cap a.cap)
    (λ (I : Instance). refuted_for I a.r.now (lengths a.words.now a.starts.now a.values.now a.trail.now))
