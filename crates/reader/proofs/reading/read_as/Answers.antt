-- Each step decides the file, or leads on; at the End, what is left are the book's own refusals. Assumes nothing.
use Rattle.std.proofs.Common.{◌≤◌, Ok, sym, ap, ◌∙◌, arith}
use Rattle.std.proofs.lemmas.Result.{err_from_is_err_and}
use Rattle.spec.specs.Read.{max_intervals}
use Rattle.spec.specs.Answers.{accepted_as}
use Rattle.frames.specs.declared.Format.{Format as FormatCase}
use Rattle.frames.specs.declared.Format.TheVariants.{Now, Old}
use Rattle.frames.specs.Framed.{format_of}
use Rattle.reader.specs.BookAnswers.{read_of}
use Rattle.reader.proofs.Way.{OnWay, bytes_of, way-start, way-packed, way-reached, way-stop, way_end, way-more, way-finish}
use Rattle.reader.proofs.reading.read_as.Goals as goal

-- no format allows more intervals than the one in force
few-enough : (f : FormatCase) → (format_of f).greatest_t ≤ max_intervals
few-enough Now = omega arith
few-enough Old = omega arith

pub loop-next-init : goal.loop-next-init
loop-next-init c =
    way-start _ c.args.s.now (few-enough c.args.format) (bytes_of c.args.s.now (λ i. omega (arith, c.type_inv.s i))) c.empty_book.ensures

pub step-requires : goal.step-requires
step-requires c = let w = c.loop-next.invariant in (way-packed w, way-reached w, w.inside)

pub returns-in_err-next-clause-answer : goal.returns-in_err-next-clause-answer
returns-in_err-next-clause-answer c =
    let p = err_from_is_err_and c.from_residual.result c.from_residual.ensures.1 in
    rw (p.1, p.2) (ap (accepted_as read_of) (sym (way-stop c.loop-next.invariant c.step.result c.step.ensures c.in_err-next.was)))

pub loop-next-smaller : goal.loop-next-smaller
loop-next-smaller c =
    let h = way-more c.loop-next.invariant c.step.result c.step.ensures (c.in_ok-next.was ∙ ap Ok c.in-Some.is) in
    let inside = h.0.inside in
    omega (arith, h.1)

pub loop-next-preserved : goal.loop-next-preserved
loop-next-preserved c = (way-more c.loop-next.invariant c.step.result c.step.ensures (c.in_ok-next.was ∙ ap Ok c.in-Some.is)).0

pub finish-requires : goal.finish-requires
finish-requires c =
    let f = way-finish c.loop-next.invariant c.step.result c.step.ensures (c.in_ok-next.was ∙ ap Ok c.in_default.is) in (f.0, f.1, f.2, c.requires)

pub returns-clause-answer : goal.returns-clause-answer
returns-clause-answer c =
    c.finish.ensures.answer ∙ ap (accepted_as read_of) (sym (way_end c.loop-next.invariant c.step.result c.step.ensures (c.in_ok-next.was ∙ ap Ok c.in_default.is)))
