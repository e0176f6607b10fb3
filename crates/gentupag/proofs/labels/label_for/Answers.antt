-- Room, the borders, then the labels.
use native.Mathlib.Omega.{arith}
use mathlib.Core.Path.{◌≡◌, refl, sym, ap, ◌∙◌}
use mathlib.Core.Bool.{true}
use Prim.Native.Nat.{◌≤◌}
use lib.ListN.{length, replicate}
use Rattle.spec.specs.Read.{max_segments}
use Rattle.spec.specs.Instance.{instance_of}
use Rattle.spec.specs.Plan.{borders_of}
use Rattle.spec.specs.Sections.{section_labels}
use Rattle.spec.specs.Held.{held}
use Rattle.spec.specs.Entry.{overwrite}
use Rattle.spec.specs.Library.{borders_fit}
use Rattle.reader.proofs.Outputs.{left-stopped, left-written}
use Rattle.tables.proofs.Small.{segments-is}
use Rattle.gentupag.proofs.Labelled.{fit-size, length-labels, labels-long, labels-small, first-labels}
use Rattle.gentupag.proofs.Labelled.{labelled-short, labelled-unfit, labelled-done}
use Rattle.gentupag.proofs.labels.label_for.Goals as goal

pub returns-then-out-n : goal.returns-then-out-n
returns-then-out-n c =
    let out = c.args.out.now in
    let h = left-stopped out (labelled-short (instance_of (held c.args.b)) c.args.borders.now (length out)
    (omega (arith, c.if-out-n.true, segments-is c.args.b c.requires.0))) in
    record { answer = h.0; output = h.1 }

pub returns-then-not-borders_fit : goal.returns-then-not-borders_fit
returns-then-not-borders_fit c =
    let out = c.args.out.now in
    let h = left-stopped out (labelled-unfit (instance_of (held c.args.b)) c.args.borders.now (length out)
    (omega (arith, c.if-out-n.false, segments-is c.args.b c.requires.0)) (sym c.borders_fit.ensures ∙ c.if-not-borders_fit.true)) in
    record { answer = h.0; output = h.1 }

pub label_sections-requires : goal.label_sections-requires
label_sections-requires c =
    let fits : borders_fit (instance_of (held c.args.b)) c.args.borders.now ≡ true = sym c.borders_fit.ensures ∙ c.if-not-borders_fit.false in
    (c.requires.0, c.requires.1, omega (arith, fit-size c.args.b c.requires.0 _ fits), refl)

pub write_labels-requires : goal.write_labels-requires
write_labels-requires c =
    let b = c.args.b in
    let p = c.requires.0 in
    let g = c.label_sections.ensures in (
      omega (arith, labels-long b p c.args.borders.now (replicate max_segments 0) refl g, p.packed.counts.segments),
      omega (arith, c.if-out-n.false),
      labels-small b p c.args.borders.now (replicate max_segments 0) refl g,
    )

pub returns : goal.returns
returns c =
    let b = c.args.b in
    let p = c.requires.0 in
    let I = instance_of (held b) in
    let borders = c.args.borders.now in
    let out = c.args.out.now in
    let room : I.segments ≤ length out = omega (arith, c.if-out-n.false, segments-is b p) in
    let done = labelled-done I borders (length out) room (sym c.borders_fit.ensures ∙ c.if-not-borders_fit.false) in
    let first = first-labels b p borders (replicate max_segments 0) refl c.label_sections.ensures in
    let h = left-written out (section_labels I (borders_of borders)) done (sym (length-labels I (borders_of borders) ∙ segments-is b p))
    (c.write_labels.ensures ∙ ap (overwrite out) first) in
    record { answer = h.0; output = h.1 }
