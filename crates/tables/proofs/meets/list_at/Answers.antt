-- `meets::list_at` meets its contract: a turn lists what meets one segment; one that does not touch the node meets none. Assumes
-- nothing.
use Rattle.std.proofs.Common.{rules, ◌≡◌, ◌+◌, ◌∙◌, ap, sym, arith, length}
use lib.ListN.{length-take}
use Rattle.spec.specs.Book.{Segment, touches}
use Rattle.spec.specs.Instance.{instance_of}
use Rattle.spec.specs.Held.{held, zero_segment}
use Rattle.network.proofs.Held.{segment-at}
use Rattle.network.proofs.Walks.{length-of-map}
use Rattle.tables.specs.Meets.{meets_of}
use Rattle.tables.proofs.MeetRows.{Listed, listed-none, listed_next, listed_same, listed-all}
use Rattle.tables.proofs.MeetRows.{of_none, firsts-most, meets_at_lem}
use Rattle.tables.proofs.Scans.{taken}
use Rattle.tables.proofs.meets.list_at.Goals as goal
use Rattle.tables.proofs.meets.list_at.Goals.{then-touches, else-touches}

pub loop-s-init : goal.loop-s-init
loop-s-init c = (omega arith, listed-none _ _ _)

pub list_of-end-requires : goal.list_of-end-requires
list_of-end-requires c =
    let here = taken c.args.b.segment_count c.args.b.segments c.loop-s.s zero_segment c.loop-s-test.true in
    (c.requires.0, c.requires.1, here.0, omega (arith, here.0, c.requires.0.segments))

pub loop-s-preserved : goal.loop-s-preserved
loop-s-preserved c =
    let a = c.args in
    let before = c.loop-s in
    let full : length a.b.segments ≡ 64 = search (rules, length-of-map) in
    let here = taken a.b.segment_count a.b.segments before.s zero_segment c.loop-s-test.true in
    let l : Listed (meets_of (instance_of (held a.b)) a.node) a.table.now a.at (before.s + 1) c.if-touches.table c.if-touches.end =
    elim c.if-touches.branch [
      | then-touches w ↦
          listed_next _ _ _ before.invariant.1 (w.end-is ∙ w.list_of-end.ensures.0) (w.table-is ∙ w.list_of-end.ensures.1)
      | else-touches w ↦
          let off = ap (λ (x : Segment). touches x a.node) (segment-at a.b before.s here.0 ∙ sym here.1) ∙ sym c.touches.ensures ∙ w.if-touches.false in
          listed_same _ _ _ before.invariant.1 (of_none (held a.b) a.node before.s off) w.end-is w.table-is
    ] in
    (omega (arith, l.ends, firsts-most a.b c.requires.0 full a.node (before.s + 1)), l)

pub returns : goal.returns
returns c =
    let a = c.args in
    let full : length a.b.segments ≡ 64 = search (rules, length-of-map) in
    let done : c.loop-s.s ≡ a.b.segment_count = omega (arith, length-take a.b.segment_count a.b.segments, c.requires.0.segments) in
    listed-all _ _ _ c.loop-s.invariant.1 done (meets_at_lem a.b c.requires.0 full a.node)
