-- Sections that grow as the triples of what meets are passed: a label is never greater than its segment, and is together with it;
-- each pair that meets without a border has one label, or is still to come. Where none is left, each label is the least segment
-- of its section. Assumes nothing.
use mathlib.Core.Path.{◌≡◌, refl, sym, ap, ap₂, ◌∙◌, subst}
use mathlib.Core.Logic.{◌⊎◌, inl, inr, ⊎_elim}
use mathlib.Core.Bool.{Bool, not, ◌&&◌}
use Prim.Native.Nat.{ℕ, ◌≤◌, ◌<◌, min, max}
use native.Mathlib.Omega.{arith}
use mathlib.Core.List.{List, ◌∷◌, map}
use lib.ListN.{length, get_or}
use lib.Dec.{T, eqb, eqb_refl, ltb}
use Rattle.spec.specs.Lists.{Bytes, up_to, all, any}
use Rattle.spec.specs.Instance.{Instance}
use Rattle.spec.specs.Sections.{Borders, Chain, here, link, neighbours, together}
use Rattle.laws.proofs.Tests.{and-iff, or-iff, not_iff, implies-iff, eqb-iff, ltb_iff, all-up_to, any-up_to}
use Rattle.laws.proofs.Tests.{decide, true_of, denied-of, le-or-lt}
use Rattle.laws.proofs.Rows.{all_cons, any-cons, any-nil, all-each, any-each, all-only, any-only, all_one, any-one}
use Rattle.demands.proofs.Sections.{neighbours-iff, together-refl, together-trans, together-step, together-sym, together-chain}
use Rattle.tables.specs.Meets.{meet_table}
use Rattle.tables.proofs.Triples.{triples, triples-next, triples-end, triples-meet}
use Rattle.sections.specs.Labels.{merged_label, joined_label}
use Rattle.demands.proofs.Labels.{least, least-le, least-below, least-together}

-- ---- labels of two sections that become one

module _ (one other x : ℕ) where
  abbrev greater : Bool
  greater = eqb x (max one other)

  -- no label but the greater one changes
  joined-cases : (joined_label one other x ≡ x) ⊎ ((x ≡ max one other) × (joined_label one other x ≡ min one other))
  unfolding joined_label merged_label
  joined-cases =
      decide greater
      (λ t. inr ((eqb-iff x (max one other)).0 t, rw (true_of greater t)))
      (λ t. inl (rw (denied-of greater t)))

  -- nothing changes where the two are one
  pub joined_same : one ≡ other → joined_label one other x ≡ x
  joined_same e = ⊎_elim (λ h. h) (λ h. omega arith) joined-cases

  -- either of the two becomes the smaller one
  joined-both : (x ≡ one) ⊎ (x ≡ other) → joined_label one other x ≡ min one other
  unfolding joined_label merged_label
  joined-both h =
      decide greater
      (λ t. rw (true_of greater t))
      (λ t. rw (denied-of greater t) (smaller (λ e. (not_iff greater).0 t ((eqb-iff x (max one other)).1 e)) h))
    where
      smaller : (x ≡ max one other → ⊥) → (x ≡ one) ⊎ (x ≡ other) → x ≡ min one other
      smaller no' (inl e) =
          ⊎_elim (λ l. omega arith) (λ l. let top : x ≡ max one other = omega arith in absurd (no' top)) (le-or-lt one other)
      smaller no' (inr e) =
          ⊎_elim (λ l. let top : x ≡ max one other = omega arith in absurd (no' top)) (λ l. omega arith) (le-or-lt one other)

-- a table where the greater label was merged into the smaller one
pub merged-joined : (one other from to : ℕ) → from ≡ max one other → to ≡ min one other → (labels : List ℕ) (n : ℕ)
    → map (λ x. merged_label from to (get_or labels x 0)) (up_to n) ≡ map (λ x. joined_label one other (get_or labels x 0)) (up_to n)
unfolding joined_label
merged-joined one other from to e f labels n = ap₂ (λ (a z : ℕ). map (λ x. merged_label a z (get_or labels x 0)) (up_to n)) e f

-- ---- what is known while triples are left

-- a node and two segments that meet there, as a statement and as a test
abbrev pub Meets : Instance → ℕ → ℕ → ℕ → Type 0
Meets I n s u = (n < I.nodes) × (s < I.segments) × (u < I.segments) × T (I.meet n s u)

abbrev meets_test : Instance → ℕ → ℕ → ℕ → Bool
meets_test I n s u = ltb n I.nodes && (ltb s I.segments && (ltb u I.segments && I.meet n s u))

-- two triples are the same
abbrev same_test : ℕ → ℕ → ℕ → ℕ → ℕ → ℕ → Bool
same_test n s u m t v = eqb n m && (eqb s t && eqb u v)

pub record Joined (I : Instance) (border : Borders) (rest : Bytes) (f : ℕ → ℕ) : Type 0 where
  pub below : (s : ℕ) → s < I.segments → f s ≤ s
  pub own : (s : ℕ) → s < I.segments → T (together I border s (f s))
  -- each triple that is left is one of segments that meet
  pub sound : T (all (λ t. t) (triples (meets_test I) rest))
  pub linked : (n s u : ℕ) → Meets I n s u → T (not (border n)) → (f s ≡ f u) ⊎ T (any (λ t. t) (triples (same_test n s u) rest))

module _ (I : Instance) (border : Borders) where
  -- at the start each segment is its own section
  pub joined-start : (f : ℕ → ℕ) → ((s : ℕ) → s < I.segments → f s ≡ s) → Joined I border (meet_table I) f
  joined-start f h = record {
    below = λ s l. omega (arith, h s l);
    own = λ s l. rw (h s l) (together-refl I border s);
    sound =
        rw triples-meet
        (simp (all-each, all-only, all_one, all-up_to, implies-iff, and-iff, ltb_iff) (λ n a s b u c m. (a, (b, (c, m)))));
    linked = λ n s u k _.
        inr (rw triples-meet
        (simp (any-each, any-only, any-one, any-up_to, and-iff)
        (n, k.0, (s, k.1, (u, k.2, (k.3, (eqb_refl n, (eqb_refl s, eqb_refl u))))))));
  }

  module _ (both : (n s t : ℕ) → T (I.meet n s t) → T (I.meet n t s)) where
    -- the next triple
    module _ (n s u : ℕ) (rest : Bytes) (f : ℕ → ℕ) (j : Joined I border (n ∷ s ∷ u ∷ rest) f) where
      pub joined_meets : Meets I n s u
      joined_meets =
          let p = (simp (triples-next, all_cons, and-iff, ltb_iff) at j.sound).0 in
          (p.0, p.1.0, p.1.1.0, p.1.1.1)

      behind : T (all (λ t. t) (triples (meets_test I) rest))
      behind = (simp (triples-next, all_cons, and-iff) at j.sound).1

      -- a pair that meets has one label, is this one, or is still to come
      next : (m t v : ℕ) → Meets I m t v → T (not (border m))
          → (f t ≡ f v) ⊎ (((m ≡ n) × (t ≡ s) × (v ≡ u)) ⊎ T (any (λ t. t) (triples (same_test m t v) rest)))
      next m t v k o =
          ⊎_elim inl
          (λ h.
          inr (⊎_elim (λ e. let p = simp (and-iff, eqb-iff) at e in inl (p.0, p.1.0, p.1.1)) inr
          ((or-iff (same_test m t v n s u) _).0 (simp (triples-next, any-cons) at h))))
          (j.linked m t v k o)

      -- at a border nothing is joined
      pub joined-border : T (border n) → Joined I border rest f
      joined-border h = record {
        below = j.below;
        own = j.own;
        sound = behind;
        linked = λ m t v k o.
            ⊎_elim inl
            (⊎_elim (λ e. absurd ((not_iff (border m)).0 o (subst (λ (i : ℕ). T (border i)) (sym e.0) h))) inr)
            (next m t v k o);
      }

      -- elsewhere the two sections become one
      module _ (open' : T (not (border n))) (g : ℕ → ℕ) (e : (x : ℕ) → x < I.segments → g x ≡ joined_label (f s) (f u) (f x)) where
        abbrev Together : ℕ → ℕ → Type 0
        Together x y = T (together I border x y)

        across : Together (f s) (f u)
        across =
            let k = joined_meets in
            let met = (neighbours-iff I border s u).1 (n, k.0, open', k.3) in
            together-trans I border (f s) u (f u) k.2
            (together-step I border (f s) s u k.1 (together-sym I border both s (f s) (j.own s k.1)) met)
            (j.own u k.2)

        -- from the greater label to the smaller
        down : (x : ℕ) → Together x (max (f s) (f u)) → Together x (min (f s) (f u))
        down x h =
            let k = joined_meets in
            let low = j.below s k.1 in
            let low' = j.below u k.2 in
            ⊎_elim
            (λ l.
            let top : max (f s) (f u) ≡ f u = omega arith in
            let bottom : min (f s) (f u) ≡ f s = omega arith in
            rw bottom (together-trans I border x (f u) (f s) (omega arith) (rw top at h) (together-sym I border both (f s) (f u) across)))
            (λ l.
            let top : max (f s) (f u) ≡ f s = omega arith in
            let bottom : min (f s) (f u) ≡ f u = omega arith in
            rw bottom (together-trans I border x (f s) (f u) (omega arith) (rw top at h) across))
            (le-or-lt (f s) (f u))

        one_label : (t v : ℕ) → t < I.segments → v < I.segments → t ≡ s → v ≡ u → g t ≡ g v
        one_label t v a c es eu =
            e t a ∙ joined-both (f s) (f u) (f t) (inl (ap f es)) ∙ sym (e v c ∙ joined-both (f s) (f u) (f v) (inr (ap f eu)))

        pub joined-open : Joined I border rest g
        joined-open = record {
          below = λ x l.
              ⊎_elim (λ h. omega (arith, e x l, j.below x l)) (λ h. omega (arith, e x l, j.below x l)) (joined-cases (f s) (f u) (f x));
          own = λ x l.
              rw (e x l)
              (⊎_elim
              (λ h. rw h (j.own x l))
              (λ h. rw h.1 (down x (rw h.0 at (j.own x l))))
              (joined-cases (f s) (f u) (f x)));
          sound = behind;
          linked = λ m t v k o.
              ⊎_elim
              (λ h. inl (e t k.1 ∙ ap (joined_label (f s) (f u)) h ∙ sym (e v k.2)))
              (⊎_elim (λ h. inl (one_label t v k.1 k.2 h.1 h.2)) inr)
              (next m t v k o);
        }

  -- ---- at the end

  module _ (rest : Bytes) (f : ℕ → ℕ) (j : Joined I border rest f) (few : length rest ≤ 2) where
    neighbours-same : (s u : ℕ) → s < I.segments → u < I.segments → T (neighbours I border s u) → f s ≡ f u
    neighbours-same s u l k h =
        let r = (neighbours-iff I border s u).0 h in
        ⊎_elim (λ e. e) (λ w. absurd (simp (triples-end (same_test r.0 s u) rest few, any-nil) at w))
        (j.linked r.0 s u (r.1, l, k, r.3) r.2)

    chain_same : {s t : ℕ} → Chain I border s t → f s ≡ f t
    chain_same here = refl
    chain_same (link {s} {t} {u} lt lu nb c) = chain_same c ∙ neighbours-same t u lt lu nb

    -- a label is the least segment of the section
    pub joined-least : (s : ℕ) → s < I.segments → f s ≡ least I border s
    joined-least s l =
        let below = least-below I border s l in
        let same = chain_same ((together-chain I border s (least I border s) l below).0 (least-together I border s l)) in
        omega (arith, j.below s l, j.below (least I border s) below, least-le I border s (f s) (omega (arith, j.below s l)) (j.own s l))
