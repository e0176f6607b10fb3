-- The book's refusal, or the labels for the book that the bytes hold.
use lib.ListN.{length}
use Rattle.std.proofs.lemmas.Result.{err_from_is_err_and}
use Rattle.spec.specs.Lists.{Bytes, Verdict}
use Rattle.spec.specs.Instance.{Instance}
use Rattle.spec.specs.Library.{labelled_for, label_sections, labels_output}
use Rattle.reader.proofs.Outputs.{left-stopped, left-same}
use Rattle.tables.specs.Prepared.{prepared_of}
use Rattle.tables.proofs.Instances.{went_on, stopped}
use Rattle.gentupag.proofs.labels.label_book.Goals as goal

pub returns-in_err-p : goal.returns-in_err-p
unfolding label_sections labels_output
returns-in_err-p c =
    let p = err_from_is_err_and c.from_residual.result c.from_residual.ensures.1 in
    let onward = λ (I : Instance). labelled_for I c.args.borders.now (length c.args.out.now) in
    let h = left-stopped c.args.out.now (stopped _ prepared_of c.prepare.ensures.answer c.in_err-p.was onward) in
    record { answer = rw (p.1, p.2) h.0; output = h.1 }

pub returns : goal.returns
unfolding label_sections labels_output
returns c =
    let e = c.label_for.ensures in
    let onward = λ (I : Instance). labelled_for I c.args.borders.now (length c.args.out.now) in
    let h = left-same c.args.out.now (went_on _ c.prepare.ensures.answer c.in_ok-p.was onward) (e.answer, e.output) in
    record { answer = h.0; output = h.1 }
