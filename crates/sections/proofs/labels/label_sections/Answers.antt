-- `labels::label_sections` meets its contract: a turn joins two sections where the node is no border. Assumes nothing.
use Rattle.std.proofs.Common.{refl, sym, ap, ◌∙◌, arith}
use borrow.Author.Tests.{eq-eqb, ne_eqb}
use Rattle.std.specs.Slice.Iter.{chunks_exact_rest, chunks_exact_size}
use Rattle.spec.specs.Plan.{borders_of}
use Rattle.laws.proofs.Tests.{from-true, from-denied}
use Rattle.sections.proofs.Labelled.{labelled-start, labelled-meets, labelled-border, labelled-open, labelled-end}
use Rattle.sections.proofs.labels.label_sections.Goals as goal

pub loop-meet-init : goal.loop-meet-init
loop-meet-init c =
    let r = c.requires in
    let given = c.into_iter-meet-iterator.ensures.into_iter_gives in
    let chunks = c.chunks_exact-meet-items.ensures in (
      ap chunks_exact_size given ∙ chunks.size,
      labelled-start c.args.b r.0 _ _ _ r.3 c.number_labels.ensures _ (ap chunks_exact_rest given ∙ chunks.rest ∙ r.1),
    )

pub bounds-borders-from : goal.bounds-borders-from
bounds-borders-from c =
    let s = c.in-Some.ensures.steps in
    let met = labelled-meets c.args.b c.requires.0 _ _ _ c.loop-meet.invariant.1 _ _ s.1.0 (s.1.1 ∙ c.loop-meet.invariant.0) in
    omega (arith, met.0, c.requires.2, c.from.ensures)

pub join-requires : goal.join-requires
join-requires c =
    let s = c.in-Some.ensures.steps in
    let k = c.loop-meet.invariant.1 in
    let met = labelled-meets c.args.b c.requires.0 _ _ _ k _ _ s.1.0 (s.1.1 ∙ c.loop-meet.invariant.0) in (
      omega (arith, c.requires.0.packed.counts.segments, k.size),
      omega (arith, met.1, c.from-then-open.ensures),
      omega (arith, met.2, c.from-then-open-2.ensures),
    )

pub loop-meet-preserved-then-open : goal.loop-meet-preserved-then-open
loop-meet-preserved-then-open c =
    let s = c.in-Some.ensures.steps in
    let i = c.loop-meet.invariant in
    let no-border = ap (borders_of c.args.borders.now) (sym c.from.ensures) ∙ ne_eqb _ _ c.if-open.true in (
      s.0 ∙ i.0,
      labelled-open c.args.b c.requires.0 _ _ _ i.1 _ _ s.1.0 (s.1.1 ∙ i.0) (from-denied no-border) _ _ _ c.from-then-open.ensures
          c.from-then-open-2.ensures c.join.ensures,
    )

pub loop-meet-preserved : goal.loop-meet-preserved
loop-meet-preserved c =
    let s = c.in-Some.ensures.steps in
    let i = c.loop-meet.invariant in
    let a-border = ap (borders_of c.args.borders.now) (sym c.from.ensures) ∙ eq-eqb _ _ c.if-open.false in
    (s.0 ∙ i.0, labelled-border c.args.b c.requires.0 _ _ _ i.1 _ _ s.1.0 (s.1.1 ∙ i.0) (from-true a-border) _ refl)

pub returns : goal.returns
returns c =
    let r = c.requires in
    let i = c.loop-meet.invariant in
    labelled-end c.args.b r.0 _ _ _ r.3 c.number_labels.ensures _ _ i.1 (omega (arith, c.in-None.ensures.steps.1.0, i.0))
