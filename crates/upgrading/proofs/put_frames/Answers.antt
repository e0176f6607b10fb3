-- A whole frame is the next of the new book, and where none is left all are written. Assumes nothing.
use Rattle.std.proofs.Common.{◌≡◌, ◌+◌, ◌<◌, ◌≤◌, length, sym, ◌∙◌, arith}
use Rattle.demands.proofs.Upgrading.{upgraded-frames}
use Rattle.reader.proofs.Way.{bytes_of}
use Rattle.reader.proofs.Whole.{whole_room}
use Rattle.upgrading.proofs.Rewriting.{rewriting-none, rewriting-end, kind-small, has-times, room-here, rewriting-next}
use Rattle.upgrading.proofs.put_frames.Goals as goal

pub loop-frame-init : goal.loop-frame-init
loop-frame-init c =
    rewriting-none _ _ (upgraded-frames _ _ (bytes_of c.args.old.now (λ i. omega (arith, c.type_inv.old i))) c.requires.0.1).0

pub frame_at-requires : goal.frame_at-requires
frame_at-requires c = c.loop-frame.invariant.inside

pub overflow_add-start : goal.overflow_add-start
overflow_add-start c =
    let within = whole_room c.args.old.now c.loop-frame.at c.loop-frame.invariant.inside (sym c.frame_at.ensures.found ∙ c.in-Some.is) in
    omega (arith, within)

pub overflow_add-at : goal.overflow_add-at
overflow_add-at c =
    let within = whole_room c.args.old.now c.loop-frame.at c.loop-frame.invariant.inside (sym c.frame_at.ensures.found ∙ c.in-Some.is) in
    omega (arith, within)

pub slice_bounds-put_frame-end : goal.slice_bounds-put_frame-end
slice_bounds-put_frame-end c =
    let within = whole_room c.args.old.now c.loop-frame.at c.loop-frame.invariant.inside (sym c.frame_at.ensures.found ∙ c.in-Some.is) in
    omega (arith, within)

pub put_frame-to-requires : goal.put_frame-to-requires
put_frame-to-requires c =
    let r = c.loop-frame.invariant in
    let whole = sym c.frame_at.ensures.found ∙ c.in-Some.is in
    let within = whole_room c.args.old.now c.loop-frame.at r.inside whole in
    let l : c.loop-frame.at < length c.args.old.now = omega (arith, within) in (
      kind-small r l whole (bytes_of c.args.old.now (λ i. omega (arith, c.type_inv.old i))),
      has-times r l whole,
      room-here r l whole c.requires.1,
    )

pub loop-frame-smaller : goal.loop-frame-smaller
loop-frame-smaller c =
    let within = whole_room c.args.old.now c.loop-frame.at c.loop-frame.invariant.inside (sym c.frame_at.ensures.found ∙ c.in-Some.is) in
    omega (arith, within)

pub loop-frame-preserved : goal.loop-frame-preserved
loop-frame-preserved c =
    let r = c.loop-frame.invariant in
    let whole = sym c.frame_at.ensures.found ∙ c.in-Some.is in
    let within = whole_room c.args.old.now c.loop-frame.at r.inside whole in
    let l : c.loop-frame.at < length c.args.old.now = omega (arith, within) in
    rewriting-next r l whole c.put_frame-to.ensures.0 c.put_frame-to.ensures.1

pub returns : goal.returns
returns c = rewriting-end c.loop-frame.invariant (sym c.frame_at.ensures.found ∙ c.in_default.is)
