-- The book's refusal, or the page for the book that the bytes hold.
use lib.ListN.{length}
use Rattle.std.proofs.lemmas.Result.{err_from_is_err_and}
use Rattle.spec.specs.Lists.{Bytes, Verdict}
use Rattle.spec.specs.Instance.{Instance}
use Rattle.spec.specs.Page.{page_for, print_graph, page_output}
use Rattle.reader.proofs.Outputs.{left-stopped, left-same}
use Rattle.tables.specs.Prepared.{prepared_of}
use Rattle.tables.proofs.Instances.{went_on, stopped}
use Rattle.graph.proofs.print_graph.Goals as goal

pub returns-in_err-book : goal.returns-in_err-book
unfolding print_graph page_output
returns-in_err-book c =
    let p = err_from_is_err_and c.from_residual.result c.from_residual.ensures.1 in
    let onward = λ (I : Instance). page_for I c.args.plan.now (length c.args.page.now) in
    let h = left-stopped c.args.page.now (stopped _ prepared_of c.prepare.ensures.answer c.in_err-book.was onward) in
    record { answer = rw (p.1, p.2) h.0; output = h.1 }

pub returns : goal.returns
unfolding print_graph page_output
returns c =
    let e = c.page_by.ensures in
    let onward = λ (I : Instance). page_for I c.args.plan.now (length c.args.page.now) in
    let h = left-same c.args.page.now (went_on _ c.prepare.ensures.answer c.in_ok-book.was onward) (e.answer, e.output) in
    record { answer = h.0; output = h.1 }
