use Rattle.std.proofs.Common.{◌∙◌, ap, ap₂, sym, arith, ℕ, ◌+◌}
use Rattle.spec.specs.Lists.{range, each, only}
use Rattle.spec.specs.Instance.{instance_of, in_window}
use Rattle.spec.specs.Formula.{base, servers_f}
use Rattle.spec.specs.Held.{held}
use Rattle.clauses.specs.Walked.{Passes}
use Rattle.clauses.proofs.Laws.{passes_same, passes-nothing, only-true, only-false}
use Rattle.clauses.proofs.Turns.{turn-none, turn, turned}
use Rattle.tables.proofs.Small.{intervals-is}
use Rattle.tables.proofs.Here.{departs-here, departs-asks, window-answer}
use Rattle.formula.specs.Families.{call_runs}
use Rattle.formula.proofs.walk.call_runs.Goals as goal
use Rattle.formula.proofs.walk.call_runs.Goals.{then-in_window, else-in_window}

pub loop-interval-init : goal.loop-interval-init
loop-interval-init c = turn-none _ _

pub loop-interval-preserved : goal.loop-interval-preserved
loop-interval-preserved c =
    let part = c.args.part.now in
    let I = instance_of (held part.book.now) in
    let i = part.first.train in
    let number = c.args.number in
    let t = c.loop-interval.interval in
    let answer = window-answer part.book.now i number c.requires (t + 1) c.in_window.ensures in
    let passed : Passes (only (in_window I i number (t + 1)) (servers_f I i number (base I i t))) c.loop-interval.walk c.if-in_window.walk =
    elim c.if-in_window.branch [
      | then-in_window w ↦ rw w.walk-is (passes_same
          (ap (servers_f I i number) w.base.ensures.0 ∙ sym (only-true _ (sym answer ∙ w.if-in_window.true))) w.servers.ensures)
      | else-in_window w ↦ rw w.walk-is (passes-nothing (only-false _ (sym answer ∙ w.if-in_window.false)))
    ] in
    turn _ _ _ c.loop-interval.auto.interval c.loop-interval.invariant passed

pub returns : goal.returns
unfolding call_runs
returns c =
    let part = c.args.part.now in
    let h = part.block.block in
    let I = instance_of (held part.book.now) in
    let i = part.first.train in
    let departs = departs-asks _ h.passed _ h.known in
    let number = c.args.number in
    passes_same
    (ap₂ (λ (d z : ℕ). each (range d z) λ t. only (in_window I i number (t + 1)) (servers_f I i number (base I i t)))
    (departs-here _ h.passed _ h.known) (sym (intervals-is _ h.passed)))
    (turned _ _ _ _ (omega arith) c.loop-interval.invariant)
