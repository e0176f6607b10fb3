-- Sections as the text has them, by a chain, and as they are computed, by Warshall's algorithm, are the same; and being
-- together is an equivalence. Assumes nothing.
use mathlib.Core.Path.{◌≡◌, refl, sym, subst}
use mathlib.Core.Logic.{◌↔◌, ◌⊎◌, inl, inr}
use mathlib.Core.Bool.{not, ◌&&◌}
use Prim.Native.Nat.{ℕ, zero, suc, ◌≤◌, ◌<◌}
use native.Mathlib.Omega.{arith}
use native.Mathlib.Decide.{dec_lt}
use lib.Dec.{T, eqb}
use Rattle.spec.specs.Book.{Book, segment_at, share_node}
use Rattle.spec.specs.Instance.{Instance, compile, instance_of}
use Rattle.spec.specs.Sections.{Borders, Chain, here, link, neighbours, together_below, together}
use Rattle.laws.proofs.Tests.{and-iff, or-iff, any-up_to, eqb-iff, eqb-sym}

-- two segments are neighbours where they meet at a node that is no border
pub neighbours-iff : (I : Instance) (border : Borders) (s t : ℕ)
    → T (neighbours I border s t) ↔ ((n : ℕ) × (n < I.nodes) × T (not (border n)) × T (I.meet n s t))
unfolding neighbours
neighbours-iff I border s t = (
  λ h. let r = (any-up_to (λ n. not (border n) && I.meet n s t) I.nodes).0 h in
      let p = (and-iff (not (border r.0)) (I.meet r.0 s t)).0 r.2 in (r.0, r.1, p.0, p.1),
  λ r. (any-up_to (λ n. not (border n) && I.meet n s t) I.nodes).1
      (r.0, r.1, (and-iff (not (border r.0)) (I.meet r.0 s t)).1 (r.2, r.3)),
)

module _ (I : Instance) (border : Borders) where
  -- together by segments below k, as a statement
  abbrev Below : ℕ → ℕ → ℕ → Type 0
  Below k s t = T (together_below I border k s t)

  -- ---- one round of the computation

  below-zero : (s t : ℕ) → Below zero s t ↔ ((s ≡ t) ⊎ T (neighbours I border s t))
  unfolding together_below
  below-zero s t = (
    λ h. elim ((or-iff (eqb s t) (neighbours I border s t)).0 h) [ inl e ↦ inl ((eqb-iff s t).0 e) | inr nb ↦ inr nb ],
    λ h. (or-iff (eqb s t) (neighbours I border s t)).1 (elim h [ inl e ↦ inl ((eqb-iff s t).1 e) | inr nb ↦ inr nb ]),
  )

  -- either without segment k or through it
  below_suc : (k s t : ℕ) → Below (suc k) s t ↔ (Below k s t ⊎ (Below k s k × Below k k t))
  unfolding together_below
  below_suc k s t =
      let through = together_below I border k s k && together_below I border k k t in
      let both = and-iff (together_below I border k s k) (together_below I border k k t) in
      let either = or-iff (together_below I border k s t) through in (
        λ h. elim (either.0 h) [ inl x ↦ inl x | inr y ↦ inr (both.0 y) ],
        λ h. either.1 (elim h [ inl x ↦ inl x | inr y ↦ inr (both.1 y) ]),
      )

  -- ---- from the computation to a chain

  chain-trans : {s t u : ℕ} → Chain I border s t → Chain I border t u → Chain I border s u
  chain-trans c here = c
  chain-trans c (link lt lu nb d) = link lt lu nb (chain-trans c d)

  below_chain : (k s t : ℕ) → k ≤ I.segments → s < I.segments → t < I.segments → Below k s t → Chain I border s t
  below_chain zero s t hk hs ht h =
      elim ((below-zero s t).0 h) [
        | inl e ↦ subst (λ (u : ℕ). Chain I border s u) e here
        | inr nb ↦ link hs ht nb here
      ]
  below_chain (suc k) s t hk hs ht h =
      elim ((below_suc k s t).0 h) [
        | inl x ↦ below_chain k s t (omega arith) hs ht x
        | inr y ↦ chain-trans (below_chain k s k (omega arith) hs hk y.0) (below_chain k k t (omega arith) hk ht y.1)
      ]

  -- ---- from a chain to the computation

  -- what holds in the first round holds in every round
  below-first : (k s t : ℕ) → Below zero s t → Below k s t
  below-first zero s t h = h
  below-first (suc k) s t h = (below_suc k s t).1 (inl (below-first k s t h))

  below-refl : (k s : ℕ) → Below k s s
  below-refl k s = below-first k s s ((below-zero s s).1 (inl refl))

  -- to segment k, and from it, there is no need to go through it
  below-to : (k s : ℕ) → Below (suc k) s k → Below k s k
  below-to k s h = elim ((below_suc k s k).0 h) [ inl x ↦ x | inr y ↦ y.0 ]

  below-from : (k t : ℕ) → Below (suc k) k t → Below k k t
  below-from k t h = elim ((below_suc k k t).0 h) [ inl x ↦ x | inr y ↦ y.1 ]

  -- two that are together with a segment below k are together by segments below k
  below-trans : (k s j t : ℕ) → j < k → Below k s j → Below k j t → Below k s t
  below-trans zero s j t l g h = let no' : ⊥ = omega arith in absurd no'
  below-trans (suc k) s j t l g h =
      (below_suc k s t).1 (elim (dec_lt j k) [
        | yes l' ↦ lower (λ a c. below-trans k a j c l') ((below_suc k s j).0 g) ((below_suc k j t).0 h)
        | no n ↦ (let e : j ≡ k = omega arith in
            inr (below-to k s (subst (λ (i : ℕ). Below (suc k) s i) e g), below-from k t (subst (λ (i : ℕ). Below (suc k) i t) e h)))
      ])
    where
      lower : ((a c : ℕ) → Below k a j → Below k j c → Below k a c)
          → Below k s j ⊎ (Below k s k × Below k k j) → Below k j t ⊎ (Below k j k × Below k k t) → Below k s t ⊎ (Below k s k × Below k k t)
      lower join (inl x) (inl y) = inl (join s t x y)
      lower join (inl x) (inr y) = inr (join s k x y.0, y.1)
      lower join (inr x) (inl y) = inr (x.0, join k t x.1 y)
      lower join (inr x) (inr y) = inr (x.0, y.1)

  -- ---- the section rule's laws

  pub together-refl : (s : ℕ) → T (together I border s s)
  unfolding together
  together-refl s = below-refl I.segments s

  pub together-trans : (s t u : ℕ) → t < I.segments → T (together I border s t) → T (together I border t u) → T (together I border s u)
  unfolding together
  together-trans s t u l g h = below-trans I.segments s t u l g h

  pub together-neighbours : (s t : ℕ) → T (neighbours I border s t) → T (together I border s t)
  unfolding together
  together-neighbours s t h = below-first I.segments s t ((below-zero s t).1 (inr h))

  -- one more link
  pub together-step : (s t u : ℕ) → t < I.segments → T (together I border s t) → T (neighbours I border t u) → T (together I border s u)
  together-step s t u l g h = together-trans s t u l g (together-neighbours t u h)

  pub chain-together : {s t : ℕ} → Chain I border s t → T (together I border s t)
  chain-together (here {s}) = together-refl s
  chain-together (link {s} {t} {u} lt lu nb c) = together-step s t u lt (chain-together c) nb

  pub together-chain : (s t : ℕ) → s < I.segments → t < I.segments → T (together I border s t) ↔ Chain I border s t
  unfolding together
  together-chain s t hs ht = (below_chain I.segments s t (omega arith) hs ht, chain-together)

  -- ---- both ways, where two segments meet both ways

  module _ (meets : (n s t : ℕ) → T (I.meet n s t) → T (I.meet n t s)) where
    pub neighbours-sym : (s t : ℕ) → T (neighbours I border s t) → T (neighbours I border t s)
    neighbours-sym s t h =
        let r = (neighbours-iff I border s t).0 h in (neighbours-iff I border t s).1 (r.0, r.1, r.2, meets r.0 s t r.3)

    below-sym : (k s t : ℕ) → Below k s t → Below k t s
    below-sym zero s t h =
        (below-zero t s).1 (elim ((below-zero s t).0 h) [ inl e ↦ inl (sym e) | inr nb ↦ inr (neighbours-sym s t nb) ])
    below-sym (suc k) s t h =
        (below_suc k t s).1
        (elim ((below_suc k s t).0 h) [ inl x ↦ inl (below-sym k s t x) | inr y ↦ inr (below-sym k k t y.1, below-sym k s k y.0) ])

    pub together-sym : (s t : ℕ) → T (together I border s t) → T (together I border t s)
    unfolding together
    together-sym s t h = below-sym I.segments s t h

-- the segments of a book meet both ways
pub share_node-sym : (b : Book) (n s t : ℕ) → T (share_node b n s t) → T (share_node b n t s)
unfolding share_node
share_node-sym b n s t h =
    let p = simp and-iff at h in
    rw (eqb-sym t s, eqb-sym (segment_at b t).ttd (segment_at b s).ttd) (simp and-iff ((p.0.0, p.1), p.0.1))

pub meet-sym : (b : Book) (n s t : ℕ) → T ((instance_of b).meet n s t) → T ((instance_of b).meet n t s)
unfolding instance_of compile
meet-sym b n s t h = share_node-sym b n s t h
