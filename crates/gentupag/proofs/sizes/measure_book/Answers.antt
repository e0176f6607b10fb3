-- The book's refusal, or the sizes of the book that the bytes hold.
use mathlib.Core.Path.{sym, ap, ◌∙◌}
use Rattle.spec.specs.Lists.{accepted}
use Rattle.spec.specs.Held.{held_cap}
use Rattle.spec.specs.Library.{sizes_of, measure_book}
use Rattle.tables.specs.Prepared.{prepared_of}
use Rattle.tables.proofs.Instances.{went-under, stopped-under}
use Rattle.gentupag.specs.Answers.{sizes_answer}
use Rattle.gentupag.proofs.sizes.measure_book.Goals as goal

pub returns-in-Ok : goal.returns-in-Ok
unfolding measure_book
returns-in-Ok c =
    let cap = held_cap c.args.cap in
    c.measure_by.ensures
    ∙ ap sizes_answer (went-under c.args.book.now c.prepare_chains.ensures.answer c.in-Ok.is cap (λ I. accepted (sizes_of I)))

pub returns-in-Err : goal.returns-in-Err
unfolding measure_book
returns-in-Err c =
    let cap = held_cap c.args.cap in
    let k = stopped-under c.args.book.now prepared_of c.prepare_chains.ensures.answer c.in-Err.is cap (λ I. accepted (sizes_of I)) in
    rw (c.refused_sizes.ensures, c.number.ensures, c.detail.ensures) (ap sizes_answer (sym k))
