-- `meets::list_of` meets its contract: a turn lists the pair where it meets. Assumes nothing.
use Rattle.std.proofs.Common.{rules, ◌≡◌, ◌+◌, ◌∙◌, ap, arith, length, set}
use lib.ListN.{length-take}
use Rattle.spec.specs.Lists.{Bytes}
use Rattle.spec.specs.Held.{held, zero_segment}
use Rattle.network.proofs.Held.{share-at}
use Rattle.network.proofs.Walks.{length-of-map}
use Rattle.tables.proofs.MeetRows.{Listed, listed-none, listed_next, listed_same, listed-all, stored-three}
use Rattle.tables.proofs.MeetRows.{pair, pair-listed, pair-none, pairs-most, meets-of}
use Rattle.tables.proofs.Scans.{taken}
use Rattle.tables.proofs.meets.list_of.Goals as goal
use Rattle.tables.proofs.meets.list_of.Goals.{then-meet, else-meet}

pub loop-u-init : goal.loop-u-init
loop-u-init c = (omega arith, omega arith, listed-none _ _ _)

pub loop-u-preserved : goal.loop-u-preserved
loop-u-preserved c =
    let a = c.args in
    let before = c.loop-u in
    let here = taken a.b.segment_count a.b.segments before.u zero_segment c.loop-u-test.true in
    let flag = share-at a.b a.node a.s before.u c.requires.2 here.0 (rw here.1 at c.meet.ensures) in
    let l : Listed (pair (held a.b) a.node a.s) a.table.now a.at (before.u + 1) c.if-meet.table c.if-meet.end =
    elim c.if-meet.branch [
      | then-meet w ↦
          let row = pair-listed (held a.b) a.node a.s before.u flag w.if-meet.true in
          let first = w.store_byte.ensures in
          let second = w.store_byte-then-meet.ensures ∙ ap (λ (t : Bytes). set t (before.end + 1) a.s) first in
          let third = w.store_byte-then-meet-2.ensures ∙ ap (λ (t : Bytes). set t (before.end + 2) before.u) second in
          listed_next _ _ _ before.invariant.2 (rw row w.end-is)
          (rw row (w.table-is ∙ third ∙ stored-three before.table before.end a.node a.s before.u))
      | else-meet w ↦
          listed_same _ _ _ before.invariant.2 (pair-none (held a.b) a.node a.s before.u flag w.if-meet.false) w.end-is w.table-is
    ] in
    (omega (arith, here.0, c.requires.0.segments), omega (arith, l.ends, pairs-most (held a.b) a.node a.s (before.u + 1)), l)

pub returns : goal.returns
returns c =
    let a = c.args in
    let full : length a.b.segments ≡ 64 = search (rules, length-of-map) in
    let done : c.loop-u.u ≡ a.b.segment_count = omega (arith, length-take a.b.segment_count a.b.segments) in
    listed-all _ _ _ c.loop-u.invariant.2 done (meets-of a.b c.requires.0 full a.node a.s)
