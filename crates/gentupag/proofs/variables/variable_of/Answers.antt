-- The book's refusal, or what the variable stands for in the book that the bytes hold.
use mathlib.Core.Path.{sym, ap, ◌∙◌}
use Rattle.spec.specs.Lists.{accepted}
use Rattle.spec.specs.Held.{held_cap}
use Rattle.spec.specs.Library.{meaning_of, ask_variable}
use Rattle.reader.specs.BookAnswers.{read_of}
use Rattle.tables.proofs.Instances.{went-read_under, stopped-under}
use Rattle.gentupag.specs.Answers.{variable_answer}
use Rattle.gentupag.proofs.variables.variable_of.Goals as goal

pub returns-in-Ok : goal.returns-in-Ok
unfolding ask_variable
returns-in-Ok c =
    let cap = held_cap c.args.cap in
    c.variable_by.ensures
    ∙ ap variable_answer (went-read_under c.args.book.now c.prepare_runs.ensures.answer c.in-Ok.is cap (λ I. accepted (meaning_of I c.args.v)))

pub returns-in-Err : goal.returns-in-Err
unfolding ask_variable
returns-in-Err c =
    let cap = held_cap c.args.cap in
    let k = stopped-under c.args.book.now read_of c.prepare_runs.ensures.answer c.in-Err.is cap (λ I. accepted (meaning_of I c.args.v)) in
    rw (c.number.ensures, c.detail.ensures) (ap variable_answer (sym k))
