-- Each answer is the one of the table of faults, by the tests that led there; and the struct with one more entry is the one of the
-- longer book. Assumes nothing.
use Rattle.std.proofs.Common.{sym, ap, ◌∙◌, arith}
use Rattle.spec.specs.Frames.{segment_kind}
use Rattle.spec.specs.Read.{segment_fits}
use Rattle.spec.specs.Held.{held}
use Rattle.reader.proofs.Packing.{segments-counted, put-segment, refuses, accepts}
use Rattle.reader.proofs.Tables.{segment-full, segment-wrong, segment-fine, segment-read}
use Rattle.reader.proofs.content.add_segment.Goals as goal

pub returns-then-at-ge-MAX_SEGMENTS : goal.returns-then-at-ge-MAX_SEGMENTS
returns-then-at-ge-MAX_SEGMENTS c =
    let n = segments-counted c.requires.0 in
    λ f. refuses f segment_kind _ _ (segment-full _ _ _ (omega arith))

pub returns-then-not-segment_fits : goal.returns-then-not-segment_fits
returns-then-not-segment_fits c =
    let n = segments-counted c.requires.0 in
    let e = ap (segment_fits (held c.args.b)) (segment-read c.args.p.now c.requires.1) in
    λ f. refuses f segment_kind _ _ (segment-wrong _ _ _ (omega arith) (sym e ∙ sym c.segment_fits.ensures ∙ c.if-not-segment_fits.true))

pub returns : goal.returns
returns c =
    let n = segments-counted c.requires.0 in
    let r = segment-read c.args.p.now c.requires.1 in
    let e = ap (segment_fits (held c.args.b)) r in
    λ f. accepts f segment_kind _ _ (segment-fine _ _ _ (omega arith) (sym e ∙ sym c.segment_fits.ensures ∙ c.if-not-segment_fits.false))
    (put-segment _ c.requires.0 f _ _ r (omega arith))
