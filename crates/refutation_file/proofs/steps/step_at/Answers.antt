-- Each answer is the one that the numbers of the frame at the place decide. Assumes nothing.
use Rattle.std.proofs.Common.{arith, sym, ◌∙◌}
use mathlib.Core.Logic.{⊎_elim}
use Rattle.refutation_file.proofs.Found.{numbered}
use Rattle.refutation_file.proofs.Places.{cut-here, frame-room, bad-here, whole_here}
use Rattle.refutation_file.proofs.steps.step_at.Goals as goal

pub returns-in_err-frame : goal.returns-in_err-frame
returns-in_err-frame c =
    let e = c.from_residual.ensures ∙ cut-here _ (sym c.in_err-frame.ensures.found) in
    record { found = e; refusal = numbered _ e }

pub returns-then-frame-ne-KIND : goal.returns-then-frame-ne-KIND
returns-then-frame-ne-KIND c =
    let e = bad-here c.args.s.now c.args.at c.requires (sym c.in_ok-frame.ensures.found)
    (λ g. ⊎_elim (λ e. e g.0) (λ e. omega arith) c.then-frame-ne-KIND.either) in
    record { found = e; refusal = numbered _ e }

pub pair-literals-requires : goal.pair-literals-requires
pair-literals-requires c = omega (arith, frame-room c.args.s.now c.args.at c.requires (sym c.in_ok-frame.ensures.found))

pub returns-then-frame-literals : goal.returns-then-frame-literals
returns-then-frame-literals c =
    let e = bad-here c.args.s.now c.args.at c.requires (sym c.in_ok-frame.ensures.found) (λ g. omega (arith, c.pair-literals.ensures)) in
    record { found = e; refusal = numbered _ e }

pub returns-then-rest-ne0 : goal.returns-then-rest-ne0
returns-then-rest-ne0 c =
    let e = bad-here c.args.s.now c.args.at c.requires (sym c.in_ok-frame.ensures.found)
    (λ g. c.if-rest-ne0.true (rw c.pair-literals.ensures.0 g.1.2)) in
    record { found = e; refusal = numbered _ e }

pub returns : goal.returns
returns c =
    let e = whole_here c.args.s.now c.args.at c.requires (sym c.in_ok-frame.ensures.found) c.pair-literals.ensures.0
    (c.if-frame-ne-KIND.false, (c.if-frame-lt-LEN.false, omega arith, omega arith)) in
    record { found = e; refusal = numbered _ e }
