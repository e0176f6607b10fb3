-- The book's refusal, or what is written for the book that the bytes hold.
use mathlib.Core.Path.{ap, ◌∙◌}
use lib.ListN.{length}
use Rattle.std.proofs.lemmas.Result.{err_from_is_err_and}
use Rattle.spec.specs.Answers.{accepted_as}
use Rattle.spec.specs.Instance.{Instance}
use Rattle.spec.specs.Held.{held_cap}
use Rattle.spec.specs.Entry.{written_for, words_after, write_formula, formula_output}
use Rattle.tables.specs.Prepared.{prepared_of}
use Rattle.tables.proofs.Instances.{went-under, stopped-under}
use Rattle.writing.specs.FormulaAnswers.{totals_of}
use Rattle.writing.proofs.Answers.{words-stopped}
use Rattle.writing.proofs.write_formula.Goals as goal

pub returns-in_err-book : goal.returns-in_err-book
unfolding write_formula formula_output
returns-in_err-book c =
    let p = err_from_is_err_and c.from_residual.result c.from_residual.ensures.1 in
    let old = c.args.out.now in
    let onward = λ (I : Instance). written_for I (length old) in
    let h = words-stopped old (stopped-under _ prepared_of c.prepare_chains.ensures.answer c.in_err-book.was (held_cap c.args.cap) onward) in
    record { answer = rw (p.1, p.2) h.0; output = h.1 }

pub returns : goal.returns
unfolding write_formula formula_output
returns c =
    let old = c.args.out.now in
    let k = went-under _ c.prepare_chains.ensures.answer c.in_ok-book.was (held_cap c.args.cap) (λ I. written_for I (length old)) in
    record {
      answer = c.write_by.ensures.answer ∙ ap (accepted_as totals_of) k;
      output = c.write_by.ensures.output ∙ ap (words_after old) k;
    }
