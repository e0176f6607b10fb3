-- The book's refusal, or the list for the book that the bytes hold.
use lib.ListN.{length}
use Rattle.std.proofs.lemmas.Result.{err_from_is_err_and}
use Rattle.spec.specs.Lists.{Bytes, Verdict}
use Rattle.spec.specs.Instance.{Instance}
use Rattle.spec.specs.Carriers.{carriers_for, list_carriers, carriers_output}
use Rattle.reader.proofs.Outputs.{left-stopped, left-same}
use Rattle.tables.specs.Prepared.{prepared_of}
use Rattle.tables.proofs.Instances.{went_on, stopped}
use Rattle.carriers.proofs.list_carriers.Goals as goal

pub returns-in_err-book : goal.returns-in_err-book
unfolding list_carriers carriers_output
returns-in_err-book c =
    let p = err_from_is_err_and c.from_residual.result c.from_residual.ensures.1 in
    let onward = λ (I : Instance). carriers_for I c.args.plan.now (length c.args.out.now) in
    let h = left-stopped c.args.out.now (stopped _ prepared_of c.prepare.ensures.answer c.in_err-book.was onward) in
    record { answer = rw (p.1, p.2) h.0; output = h.1 }

pub returns : goal.returns
unfolding list_carriers carriers_output
returns c =
    let e = c.list_by.ensures in
    let onward = λ (I : Instance). carriers_for I c.args.plan.now (length c.args.out.now) in
    let h = left-same c.args.out.now (went_on _ c.prepare.ensures.answer c.in_ok-book.was onward) (e.answer, e.output) in
    record { answer = h.0; output = h.1 }
