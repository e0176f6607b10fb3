-- The book's refusal, or the run of the book that the bytes hold.
use Rattle.gentupag.proofs.Shown.{asked-on, asked-stopped}
use Rattle.gentupag.proofs.runs.run_of.Goals as goal

pub returns-in-Ok : goal.returns-in-Ok
returns-in-Ok c = asked-on c.args.book.now c.args.train c.args.run c.prepare_runs.ensures.answer c.in-Ok.is c.run_for.ensures

pub returns-in-Err : goal.returns-in-Err
returns-in-Err c =
    rw (c.without_run.ensures, c.number.ensures, c.detail.ensures)
    (asked-stopped c.args.book.now c.args.train c.args.run c.prepare_runs.ensures.answer c.in-Err.is)
