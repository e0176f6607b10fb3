-- The stretch behind the literals is a part of the payload, to its end. Assumes nothing.
use Rattle.std.proofs.Common.{arith, ◌+◌, ◌≡◌}
use native.Mathlib.Nat.{add-sub_cancel_left}
use Rattle.refutation_file.proofs.Places.{step_room, hints-here}
use Rattle.refutation_file.proofs.steps.hints_at.Goals as goal

pub overflow_mul-first : goal.overflow_mul-first
overflow_mul-first c = omega (arith, step_room c.args.s.now c.args.at c.requires.0 c.requires.1)

pub overflow_add-first : goal.overflow_add-first
overflow_add-first c = omega (arith, step_room c.args.s.now c.args.at c.requires.0 c.requires.1)

pub overflow_mul-result : goal.overflow_mul-result
overflow_mul-result c = omega (arith, step_room c.args.s.now c.args.at c.requires.0 c.requires.1)

pub overflow_add-result : goal.overflow_add-result
overflow_add-result c = omega (arith, step_room c.args.s.now c.args.at c.requires.0 c.requires.1)

pub slice_bounds-result-end : goal.slice_bounds-result-end
slice_bounds-result-end c = omega (arith, step_room c.args.s.now c.args.at c.requires.0 c.requires.1)

pub returns : goal.returns
returns c =
    let e : c.cursor.result.end ≡ c.args.at + 4 + 2 = c.cursor.ensures.1 in
    rw (e, add-sub_cancel_left) (hints-here c.args.s.now c.args.at c.requires.0 c.requires.1)
