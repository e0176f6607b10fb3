-- Assumes nothing.
use Rattle.std.proofs.Common.{arith, sym}
use Rattle.std.proofs.Math.Seq.{length-take-le}
use Rattle.propagation.proofs.Trail.{trail-bound}
use Rattle.propagation.proofs.Opening.{opening-done}
use Rattle.propagation.proofs.hints.undo.Goals as goal

pub slice_bounds-v-items-end : goal.slice_bounds-v-items-end
slice_bounds-v-items-end c = sym (length-take-le c.args.set c.args.trail.now (trail-bound c.requires))

pub returns : goal.returns
returns c =
    let all = length-take-le c.args.set c.args.trail.now (trail-bound c.requires) in
    opening-done c.loop-v.invariant (omega arith)
