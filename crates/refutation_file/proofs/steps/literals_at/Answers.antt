-- The stretch behind the literals' count is a part of the payload. Assumes nothing.
use Rattle.std.proofs.Common.{arith, ◌+◌, ◌≡◌}
use native.Mathlib.Nat.{add-sub_cancel_left}
use Rattle.refutation_file.proofs.Places.{step_room, literals-here}
use Rattle.refutation_file.proofs.steps.literals_at.Goals as goal

pub overflow_mul-result : goal.overflow_mul-result
overflow_mul-result c = omega (arith, step_room c.args.s.now c.args.at c.requires.0 c.requires.1)

pub overflow_add-result : goal.overflow_add-result
overflow_add-result c = omega (arith, step_room c.args.s.now c.args.at c.requires.0 c.requires.1)

pub slice_bounds-result-end : goal.slice_bounds-result-end
slice_bounds-result-end c = omega (arith, step_room c.args.s.now c.args.at c.requires.0 c.requires.1)

pub returns : goal.returns
returns c =
    let e : c.cursor-first.result.end ≡ c.args.at + 4 + 2 = c.cursor-first.ensures.1 in
    rw (e, add-sub_cancel_left) (literals-here c.args.s.now c.args.at c.requires.0 c.requires.1)
