-- The labels of sections. A section's label is its least segment (`label-least`), and two segments have the same label exactly where
-- a chain links them (`label_same`). Assumes nothing.
use mathlib.Core.Path.{◌≡◌, sym, subst, ◌∙◌}
use mathlib.Core.Logic.{◌↔◌}
use Prim.Native.Nat.{ℕ, ◌≤◌, ◌<◌}
use native.Mathlib.Omega.{arith}
use lib.ListN.{get_or}
use lib.Dec.{T, eqb}
use Rattle.spec.specs.Lists.{least_from}
use Rattle.spec.specs.Book.{Book}
use Rattle.spec.specs.Instance.{Instance, instance_of}
use Rattle.spec.specs.Sections.{Borders, Chain, together, section_labels}
use Rattle.laws.proofs.Tests.{bool-ext, eqb-iff}
use Rattle.demands.proofs.Sections.{together-refl, together-trans, together-sym, together-chain, meet-sym}
use Rattle.laws.proofs.Least.{least-holds, least_first, least-same}
use Rattle.laws.proofs.Parts.{map_at}

-- the least segment that is together with a segment
abbrev pub least : Instance → Borders → ℕ → ℕ
least I border s = least_from (together I border s) 0 I.segments

module _ (I : Instance) (border : Borders) where
  -- no segment that is together with s is smaller
  pub least-le : (s t : ℕ) → t < I.segments → T (together I border s t) → least I border s ≤ t
  least-le s t l h = least_first (together I border s) 0 I.segments t (omega arith) (omega arith) h

  pub least-below : (s : ℕ) → s < I.segments → least I border s < I.segments
  least-below s l = omega (arith, least-le s s l (together-refl I border s))

  pub least-together : (s : ℕ) → s < I.segments → T (together I border s (least I border s))
  least-together s l = least-holds (together I border s) 0 I.segments (omega (arith, least-below s l))

  module _ (both : (n s t : ℕ) → T (I.meet n s t) → T (I.meet n t s)) where
    pub least_iff : (s t : ℕ) → s < I.segments → t < I.segments → eqb (least I border s) (least I border t) ≡ together I border s t
    least_iff s t l k = bool-ext _ _ (λ h. to ((eqb-iff (least I border s) (least I border t)).0 h))
        (λ h. (eqb-iff (least I border s) (least I border t)).1 (back h))
      where
        to : least I border s ≡ least I border t → T (together I border s t)
        to e =
            let h = subst (λ (x : ℕ). T (together I border s x)) e (least-together s l) in
            together-trans I border s (least I border t) t (least-below t k) h
            (together-sym I border both t (least I border t) (least-together t k))

        back : T (together I border s t) → least I border s ≡ least I border t
        back h =
            least-same (together I border s) (together I border t) 0 I.segments
            (λ p _ _. bool-ext _ _ (together-trans I border t s p l (together-sym I border both s t h)) (together-trans I border s t p k h))

-- ---- the labels that are written

module _ (b : Book) (border : Borders) where
  abbrev I : Instance
  I = instance_of b

  abbrev label : ℕ → ℕ
  label s = get_or (section_labels I border) s 0

  label_at : (s : ℕ) → s < I.segments → label s ≡ least I border s
  unfolding section_labels
  label_at s l = map_at (least I border) I.segments s 0 l

  -- the section's label is one of its segments, and none of them is smaller
  pub label-least : (s : ℕ) → s < I.segments
      → Chain I border s (label s) × ((t : ℕ) → t < I.segments → Chain I border s t → label s ≤ t)
  label-least s l =
      let e = label_at s l in (
        subst (Chain I border s) (sym e)
            ((together-chain I border s (least I border s) l (least-below I border s l)).0 (least-together I border s l)),
        λ t k c. rw e (least-le I border s t k ((together-chain I border s t l k).1 c)),
      )

  -- the same label is the same section
  pub label_same : (s t : ℕ) → s < I.segments → t < I.segments → (label s ≡ label t) ↔ Chain I border s t
  label_same s t l k =
      let e = least_iff I border (meet-sym b) s t l k in
      let chain = together-chain I border s t l k in (
        λ h. chain.0 (subst T e ((eqb-iff (least I border s) (least I border t)).1 (sym (label_at s l) ∙ h ∙ label_at t k))),
        λ c. label_at s l ∙ (eqb-iff (least I border s) (least I border t)).0 (subst T (sym e) (chain.1 c)) ∙ sym (label_at t k),
      )
