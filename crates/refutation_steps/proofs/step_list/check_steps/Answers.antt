-- Each step's verdict takes the loop on, or ends it. Assumes nothing.
use Rattle.std.proofs.Common.{arith, sym, ◌∙◌}
use Rattle.std.proofs.lemmas.Result.{err_from_is_err_and}
use Rattle.refutation_steps.proofs.Along.{sets-out, stopped, next, ended, trailed, went_on, ran_out}
use Rattle.refutation_steps.proofs.step_list.check_steps.Goals as goal

pub loop-at-init : goal.loop-at-init
loop-at-init c = sets-out _ c.requires

pub check_step-requires : goal.check_step-requires
check_step-requires c = let known = c.loop-at.invariant in (known.within, known.ready)

pub returns-in_err-step : goal.returns-in_err-step
returns-in_err-step c =
    let p = err_from_is_err_and c.from_residual.result c.from_residual.ensures.1 in
    let h = stopped c.loop-at.invariant c.loop-at-test.true c.in_err-step.field-0.0 c.in_err-step.ensures.answer c.in_err-step.ensures.leaves in
    record { answer = rw (p.1, p.2) h.0; leaves = h.1 }

pub step_end-at-requires : goal.step_end-at-requires
step_end-at-requires c = omega (arith, next c.loop-at.invariant c.loop-at-test.true c.in_ok-step.ensures.answer)

pub returns-then-at-r : goal.returns-then-at-r
returns-then-at-r c =
    let h = ended c.loop-at.invariant c.loop-at-test.true c.in_ok-step.ensures.answer c.in_ok-step.ensures.leaves c.if-is_empty.true
    (sym c.step_end-at.ensures ∙ c.if-at-r.true) in
    record { answer = h.0; leaves = h.1 }

pub returns-else-at-r : goal.returns-else-at-r
returns-else-at-r c =
    let h = trailed c.loop-at.invariant c.loop-at-test.true c.in_ok-step.ensures.answer c.in_ok-step.ensures.leaves c.if-is_empty.true
    (λ k. c.if-at-r.false (c.step_end-at.ensures ∙ k)) in
    record { answer = h.0; leaves = h.1 }

pub overflow_add-number : goal.overflow_add-number
overflow_add-number c =
    omega (arith, next c.loop-at.invariant c.loop-at-test.true c.in_ok-step.ensures.answer, c.loop-at.invariant.steps)

pub loop-at-smaller : goal.loop-at-smaller
loop-at-smaller c =
    omega (arith, next c.loop-at.invariant c.loop-at-test.true c.in_ok-step.ensures.answer, c.loop-at-test.true, c.step_end-at.ensures)

pub loop-at-preserved : goal.loop-at-preserved
loop-at-preserved c =
    let k = c.check_step.auto in
    went_on c.loop-at.invariant c.loop-at-test.true c.in_ok-step.ensures.answer c.in_ok-step.ensures.leaves c.if-is_empty.false
    c.step_end-at.ensures k.words k.starts k.values k.trail

pub returns : goal.returns
returns c =
    let h = ran_out c.loop-at.invariant c.loop-at-test.false in
    record { answer = h.0; leaves = h.1 }
