-- Labels of sections under a set of borders: whether bytes are one, the labels in their table, and what is answered. Assumes nothing.
use borrow.Author.Tests.{eq-eqb, ne_eqb, lt-leb, le-leb}
use mathlib.Core.Path.{◌≡◌, sym, ap, ◌∙◌}
use mathlib.Core.Bool.{Bool, true, false}
use Prim.Native.Nat.{ℕ, ◌≤◌, ◌<◌}
use native.Mathlib.Omega.{arith}
use mathlib.Core.List.{List}
use lib.ListN.{length, get_or, take, length-map}
use lib.Seq.{sets, length-sets}
use lib.Dec.{ltb}
use Rattle.model.specs.declared.Book.{Book as BookStruct}
use Rattle.spec.specs.Lists.{Bytes, all, up_to, accepted, refused, and_then}
use Rattle.spec.specs.Instance.{Instance, instance_of}
use Rattle.spec.specs.Sections.{Borders, section_labels}
use Rattle.spec.specs.Held.{held}
use Rattle.spec.specs.Entry.{demand}
use Rattle.spec.specs.Library.{borders_fit, labelled_for}
use Rattle.laws.proofs.Tests.{and-iff, eqb-iff, from-true}
use Rattle.laws.proofs.Parts.{length-up_to}
use Rattle.spec.specs.Plan.{borders_of}
use Rattle.tables.specs.Tables.{Passed}
use Rattle.tables.proofs.Small.{nodes-is, segments-is}
use Rattle.tables.proofs.MeetTables.{take-sets}
use Rattle.layout.proofs.Places.{all-bits}
use Rattle.sections.proofs.Same.{plan-labelled}

-- ---- 15

module _ (b : BookStruct) (p : Passed b) (s : Bytes) where
  pub fit-long : (length s ≡ b.node_count → ⊥) → false ≡ borders_fit (instance_of (held b)) s
  unfolding borders_fit
  fit-long h = rw (nodes-is b p, ne_eqb (length s) b.node_count h)

  pub fit-bits : {test : Bool} → length s ≡ b.node_count → test ≡ all (λ d. ltb d 2) s → test ≡ borders_fit (instance_of (held b)) s
  unfolding borders_fit
  fit-bits h t = rw (nodes-is b p, eq-eqb (length s) b.node_count h) (t ∙ all-bits s)

  -- a set of borders has a byte a node
  pub fit-size : borders_fit (instance_of (held b)) s ≡ true → length s ≡ b.node_count
  unfolding borders_fit
  fit-size e = let fits = simp (and-iff, eqb-iff) at (from-true e) in fits.0 ∙ nodes-is b p

-- ---- the labels in their table

-- a label a segment
pub length-labels : (I : Instance) (border : Borders) → length (section_labels I border) ≡ I.segments
unfolding section_labels
length-labels I border = length-map (up_to I.segments) _ ∙ length-up_to I.segments

module _ (b : BookStruct) (p : Passed b) (borders : Bytes) (old : List ℕ) (room : length old ≡ 64) {labels : List ℕ}
    (e : labels ≡ sets old 0 (section_labels (instance_of (held b)) (borders_of borders))) where
  abbrev found : List ℕ
  found = section_labels (instance_of (held b)) (borders_of borders)

  many : length found ≡ b.segment_count
  many = length-labels (instance_of (held b)) (borders_of borders) ∙ segments-is b p

  pub labels-long : length labels ≡ 64
  labels-long = ap length e ∙ length-sets old 0 found ∙ room

  -- the first of them
  pub first-labels : take b.segment_count labels ≡ found
  first-labels =
      ap (take b.segment_count) e
      ∙ ap (λ (n : ℕ). take n (sets old 0 found)) (sym many)
      ∙ take-sets old found (omega (arith, many, p.packed.counts.segments))

  -- each is a byte
  pub labels-small : (s : ℕ) → s < b.segment_count → get_or labels s 0 < 256
  labels-small s l =
      let below = (plan-labelled b p borders old room e).below s (omega (arith, segments-is b p)) in
      omega (arith, segments-is b p, p.packed.counts.segments)

-- ---- what is answered

module _ (I : Instance) (borders : Bytes) (room : ℕ) where
  -- 12
  pub labelled-short : room < I.segments → labelled_for I borders room ≡ refused 12 0
  unfolding labelled_for demand and_then
  labelled-short h = rw (lt-leb I.segments room h)

  -- 15
  pub labelled-unfit : I.segments ≤ room → borders_fit I borders ≡ false → labelled_for I borders room ≡ refused 15 0
  unfolding labelled_for demand and_then
  labelled-unfit h f = rw (le-leb I.segments room h, f)

  pub labelled-done : I.segments ≤ room → borders_fit I borders ≡ true
      → labelled_for I borders room ≡ accepted (section_labels I (borders_of borders))
  unfolding labelled_for demand and_then
  labelled-done h f = rw (le-leb I.segments room h, f)
