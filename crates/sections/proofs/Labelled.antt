-- A table of labels while the triples of what meets are passed: what each call stores keeps the sections right, and at the end
-- the table has the label of each section. Assumes nothing.
use mathlib.Core.Path.{◌≡◌, refl, sym, ap, ap₂, ◌∙◌, subst}
use mathlib.Core.Bool.{not}
use Prim.Native.Nat.{ℕ, ◌≤◌, ◌<◌}
use native.Mathlib.Omega.{arith}
use mathlib.Core.List.{List, [], ◌∷◌, ◌++◌, map}
use lib.ListN.{length, get_or, drop}
use lib.Seq.{sets}
use lib.Dec.{T}
use Rattle.model.specs.declared.Book.{Book as BookStruct}
use Rattle.spec.specs.Lists.{Bytes, up_to}
use Rattle.spec.specs.Instance.{Instance, instance_of}
use Rattle.spec.specs.Sections.{Borders}
use Rattle.spec.specs.Held.{held}
use Rattle.demands.proofs.Sections.{meet-sym}
use Rattle.tables.specs.Tables.{Passed}
use Rattle.tables.proofs.Small.{nodes-is, segments-is}
use Rattle.tables.specs.Ready.{MeetsReady}
use Rattle.sections.specs.Labels.{joined_label, section_labels}
use Rattle.sections.proofs.Joined.{Joined, joined-start, joined_meets, joined-border, joined-open, joined-least}
use Rattle.sections.proofs.Stored.{Stored, stored, sets_of}
use Rattle.demands.proofs.Labels.{least}

-- the labels of the sections that all triples but the rest make; the table is else as it was
pub record Labelled (b : BookStruct) (border : Borders) (rest : Bytes) (old new : List ℕ) : Type 0 where
  pub size : length new ≡ 64
  pub behind : drop b.segment_count new ≡ drop b.segment_count old
  pub joined : Joined (instance_of (held b)) border rest (λ s. get_or new s 0)

-- a triple, by its bytes
three : (meet : Bytes) → length meet ≡ 3 → meet ≡ get_or meet 0 0 ∷ get_or meet 1 0 ∷ get_or meet 2 0 ∷ []
three [] h = let no' : ⊥ = omega arith in absurd no'
three (n ∷ []) h = let no' : ⊥ = omega arith in absurd no'
three (n ∷ s ∷ []) h = let no' : ⊥ = omega arith in absurd no'
three (n ∷ s ∷ u ∷ []) h = refl
three (n ∷ s ∷ u ∷ v ∷ more) h = let no' : ⊥ = omega arith in absurd no'

module _ (b : BookStruct) (passed : Passed b) (border : Borders) where
  abbrev I : Instance
  I = instance_of (held b)

  abbrev n : ℕ
  n = b.segment_count

  few : n ≤ 64
  few = passed.packed.counts.segments

  -- a segment of the instance is one of the book
  counted : (s : ℕ) → s < I.segments → s < n
  counted s l = omega (arith, segments-is b passed)

  -- each segment has its own number; `first` is the table then
  module _ (old first : List ℕ) (room : length old ≡ 64) (e : first ≡ sets old 0 (map (λ s. s) (up_to n))) where
    numbered : Stored (λ s. s) n old first
    numbered = stored (λ s. s) n old (omega (arith, few)) first e

    pub labelled-start : (meets : Bytes) → MeetsReady b meets → Labelled b border meets first first
    labelled-start meets ready = record {
      size = numbered.size ∙ room;
      behind = refl;
      joined =
          subst (λ (l : Bytes). Joined I border l (λ s. get_or first s 0)) (sym ready)
          (joined-start I border (λ s. get_or first s 0) (λ x l. numbered.at x (counted x l)));
    }

    -- where no triple is left, each label is the section's
    pub labelled-end : (rest : Bytes) (new : List ℕ) → Labelled b border rest first new → length rest ≤ 2
        → new ≡ sets old 0 (section_labels I border)
    unfolding section_labels
    labelled-end rest new k h =
        sets_of (least I border) n old (omega (arith, few)) new record {
          size = k.size ∙ sym room;
          at = λ s l. joined-least I border _ _ k.joined h s (omega (arith, segments-is b passed));
          behind = k.behind ∙ numbered.behind;
        }
        ∙ ap (λ (m : ℕ). sets old 0 (map (least I border) (up_to m))) (sym (segments-is b passed))

  -- the next triple, and those behind it
  module _ {rest : Bytes} (old labels : List ℕ) (k : Labelled b border rest old labels) (meet after : Bytes) (e : rest ≡ meet ++ after)
      (size : length meet ≡ 3) where
    triple : Joined I border (get_or meet 0 0 ∷ get_or meet 1 0 ∷ get_or meet 2 0 ∷ after) (λ s. get_or labels s 0)
    triple =
        subst (λ (l : Bytes). Joined I border l (λ s. get_or labels s 0)) (e ∙ ap (λ (l : Bytes). l ++ after) (three meet size)) k.joined

    pub labelled-meets : (get_or meet 0 0 < b.node_count) × (get_or meet 1 0 < n) × (get_or meet 2 0 < n)
    labelled-meets =
        let m = joined_meets I border (meet-sym (held b)) _ _ _ _ _ triple in
        (omega (arith, nodes-is b passed, m.0), counted _ m.1, counted _ m.2)

    -- at a border the labels stay as they are
    pub labelled-border : T (border (get_or meet 0 0)) → (new : List ℕ) → new ≡ labels → Labelled b border after old new
    labelled-border h new e =
        rw e record {
          size = k.size;
          behind = k.behind;
          joined = joined-border I border (meet-sym (held b)) _ _ _ _ _ triple h;
        }

    -- elsewhere two sections become one
    pub labelled-open : T (not (border (get_or meet 0 0))) → (new : List ℕ) (s u : ℕ)
        → s ≡ get_or meet 1 0 → u ≡ get_or meet 2 0
        → new ≡ sets labels 0 (map (λ x. joined_label (get_or labels s 0) (get_or labels u 0) (get_or labels x 0)) (up_to n))
        → Labelled b border after old new
    labelled-open h new s u es eu e =
        let t = stored _ n labels (omega (arith, few, k.size)) new e in
        record {
          size = t.size ∙ k.size;
          behind = t.behind ∙ k.behind;
          joined =
              joined-open I border (meet-sym (held b)) _ _ _ _ _ triple h (λ x. get_or new x 0)
              (λ x l'.
              t.at x (counted x l') ∙ ap₂ (λ (i j : ℕ). joined_label (get_or labels i 0) (get_or labels j 0) (get_or labels x 0)) es eu);
        }
