-- The book's refusal, or the unpacking for the book that the bytes hold. Assumes nothing.
use Rattle.std.proofs.Common.{length}
use Rattle.std.proofs.lemmas.Result.{err_from_is_err_and}
use Rattle.spec.specs.Held.{held_cap}
use Rattle.spec.specs.Entry.{unpacked_for, unpack_plan, plan_output}
use Rattle.reader.proofs.Outputs.{left-stopped, left-same}
use Rattle.tables.specs.Prepared.{prepared_of}
use Rattle.tables.proofs.Instances.{went-under, stopped-under}
use Rattle.checking.proofs.unpack_plan.Goals as goal

pub returns-in_err-book : goal.returns-in_err-book
unfolding unpack_plan plan_output
returns-in_err-book c =
    let p = err_from_is_err_and c.from_residual.result c.from_residual.ensures.1 in
    let out = c.args.out.now in
    let h = left-stopped out (stopped-under _ prepared_of c.prepare_chains.ensures.answer c.in_err-book.was (held_cap c.args.cap)
    (λ I. unpacked_for I c.args.values.now (length out))) in
    record { answer = rw (p.1, p.2) h.0; output = h.1 }

pub returns : goal.returns
unfolding unpack_plan plan_output
returns c =
    let e = c.unpack_by.ensures in
    let out = c.args.out.now in
    let h = left-same out (went-under _ c.prepare_chains.ensures.answer c.in_ok-book.was (held_cap c.args.cap)
    (λ I. unpacked_for I c.args.values.now (length out))) (e.answer, e.output) in
    record { answer = h.0; output = h.1 }
