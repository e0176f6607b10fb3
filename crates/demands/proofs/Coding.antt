-- When a valuation codes a plan: their borders and moves say the same, wherever the book has a node, a train and an interval.
-- A valuation that satisfies B and C codes the plan that it decodes to. Assumes nothing.
use mathlib.Core.Path.{◌≡◌, refl, ap, ◌∙◌, subst}
use mathlib.Core.Logic.{◌⊎◌, inl, inr}
use mathlib.Core.Bool.{Bool, true, false}
use mathlib.Core.Option.{none, some}
use Prim.Native.Nat.{ℕ, ◌+◌, ◌≤◌, ◌<◌}
use native.Mathlib.Omega.{arith}
use mathlib.Core.List.Memᴰ
use mathlib.Core.List.{List, [], ◌∷◌, Memᴰ}
use lib.Dec.{T, eqb}
use Rattle.laws.proofs.Tests.{eqb-iff, ltb_iff, up_to-mem, le-or-lt, from-true, from_false, false_of, bool-ext}
use Rattle.spec.specs.Lists.{up_to}
use Rattle.spec.specs.Instance.{Instance}
use Rattle.spec.specs.Plan.{Plan, Move, run, is_gone, runs, is_move}
use Rattle.spec.specs.Formula.{run_var, gone_var, family_b, family_c}
use Rattle.spec.specs.Assignment.{satisfies, first_run, chosen, decoded}
pub use Rattle.demands.specs.Claims.{Codes}
use Rattle.demands.proofs.Meaning.{means_b, means_c}

-- Two plans are the same wherever the book has a node, a train and an interval.
pub record Agree (I : Instance) (p q : Plan) : Type 0 where
  pub borders : (n : ℕ) → n < I.nodes → p.border n ≡ q.border n
  pub moves : (i : ℕ) → i < I.trains → (t : ℕ) → t < I.intervals → p.move i t ≡ q.move i t

pub codes-agree : {I : Instance} {α : ℕ → Bool} {p q : Plan} → Codes I α p → Agree I p q → Codes I α q
codes-agree {I} {α} {p} {q} k e = record {
  borders = λ n l. k.borders n l ∙ e.borders n l;
  moves = λ i l t h. subst (λ (m : Move). T (is_move I i m)) (e.moves i l t h) (k.moves i l t h);
  runs_same = λ i l t h r b. k.runs_same i l t h r b ∙ ap (λ (m : Move). runs m (eqb r)) (e.moves i l t h);
  gone_same = λ i l t h. k.gone_same i l t h ∙ ap is_gone (e.moves i l t h);
}

-- ---- the run that decoding finds

-- What a search in a row comes to: an element that passes, or none does.
Search : (ℕ → Bool) → List ℕ → Type 0
Search f rs =
    ((r : ℕ) × (first_run f rs ≡ some r) × T (f r) × Memᴰ r rs) ⊎ ((first_run f rs ≡ none) × ((r : ℕ) → Memᴰ r rs → T (f r) → ⊥))

search-cons : (f : ℕ → Bool) (q : ℕ) (rs : List ℕ) (b : Bool) → f q ≡ b → Search f rs → Search f (q ∷ rs)
unfolding Search first_run
search-cons f q rs true e s = inl (q, rw (e, first_run) refl, from-true e, Memᴰ.head refl)
search-cons f q rs false e (inl s) = inl (s.0, rw (e, first_run) s.1, s.2, Memᴰ.tail s.3)
search-cons f q rs false e (inr s) = inr (rw (e, first_run) s.0, none_of)
  where
    none_of : (r : ℕ) → Memᴰ r (q ∷ rs) → T (f r) → ⊥
    none_of r (Memᴰ.head k) h = from_false e (subst (λ (x : ℕ). T (f x)) k h)
    none_of r (Memᴰ.tail m) h = s.1 r m h

searched : (f : ℕ → Bool) (rs : List ℕ) → Search f rs
unfolding Search first_run
searched f [] = inr (refl, λ r m. absurd (Memᴰ.not-nil m))
searched f (q ∷ rs) = search-cons f q rs (f q) refl (searched f rs)

-- ---- one move at most

-- no two moves of a train in an interval are true
pub Single : Instance → (ℕ → Bool) → ℕ → ℕ → Type 0
Single I α i t = (m n : ℕ) → m < I.runs i + 1 → n < I.runs i + 1 → T (α (run_var I i t m)) → T (α (run_var I i t n)) → m ≡ n

-- before the departure B rules out every move
no_move : (I : Instance) (α : ℕ → Bool) → T (satisfies α (family_b I)) → (i : ℕ) → i < I.trains → (t : ℕ) → t < I.departure i
    → (m : ℕ) → m < I.runs i + 1 → T (α (run_var I i t m)) → ⊥
unfolding run_var gone_var
no_move I α h_b i l t early m hm a =
    elim (le-or-lt (I.runs i) m) [
      | inl last ↦ (let e : I.runs i ≡ m = omega arith in ((means_b I α).0 h_b i l t early).1 (rw e a))
      | inr is_run ↦ ((means_b I α).0 h_b i l t early).0 m is_run a
    ]

-- from the departure on C rules out two
single : (I : Instance) (α : ℕ → Bool) → T (satisfies α (family_b I)) → T (satisfies α (family_c I))
    → (i : ℕ) → i < I.trains → (t : ℕ) → t < I.intervals → Single I α i t
unfolding Single
single I α h_b h_c i l t h m n hm hn a b =
    elim (le-or-lt (I.departure i) t) [
      | inl late ↦ pairs ((means_c I α).0 h_c i l t late h).1
      | inr early ↦ absurd (no_move I α h_b i l t early m hm a)
    ]
  where
    pairs : ((m : ℕ) → m < I.runs i + 1 → (n : ℕ) → m + 1 ≤ n → n < I.runs i + 1 → T (α (run_var I i t m)) → T (α (run_var I i t n)) → ⊥)
        → m ≡ n
    pairs no-two =
        elim (le-or-lt (m + 1) n) [
          | inl before ↦ absurd (no-two m hm n before hn a b)
          | inr after ↦ elim (le-or-lt (n + 1) m)
              [ inl before ↦ absurd (no-two n hn m before hm b a) | inr equal ↦ omega arith ]
        ]

-- ---- a valuation codes what it decodes to

module _ (I : Instance) (α : ℕ → Bool) (i t : ℕ) (one-move : Single I α i t) where
  -- the move that is decoded
  abbrev the_move : Move
  the_move = (decoded I α).move i t

  Coded : Move → Type 0
  Coded m = T (is_move I i m) × ((r : ℕ) → r < I.runs i → α (run_var I i t r) ≡ runs m (eqb r)) × (α (gone_var I i t) ≡ is_gone m)

  -- a run was found: it alone is true
  coded-run : (q : ℕ) → T (α (run_var I i t q)) → q < I.runs i → Coded (run q)
  unfolding Coded is_move runs is_gone Single run_var gone_var
  coded-run q a l = (
    (ltb_iff q (I.runs i)).1 l,
    (λ r k. bool-ext (α (run_var I i t r)) (eqb r q)
        (λ b. (eqb-iff r q).1 (one-move r q (omega arith) (omega arith) b a))
        (λ e. rw ((eqb-iff r q).0 e) a)),
    false_of (α (gone_var I i t)) (λ b. let e = one-move q (I.runs i) (omega arith) (omega arith) a b in omega arith),
  )

  -- none was found: gone decides
  coded_none : ((r : ℕ) → Memᴰ r (up_to (I.runs i)) → T (α (run_var I i t r)) → ⊥) → (g : Bool) → α (gone_var I i t) ≡ g
      → Coded (chosen none g)
  unfolding Coded is_move runs is_gone chosen
  coded_none none_of true e = (tt, (λ r k. false_of (α (run_var I i t r)) (none_of r ((up_to-mem (I.runs i) r).1 k))), e)
  coded_none none_of false e = (tt, (λ r k. false_of (α (run_var I i t r)) (none_of r ((up_to-mem (I.runs i) r).1 k))), e)

  coded : Coded the_move
  unfolding decoded Search chosen
  coded =
      elim (searched (λ r. α (run_var I i t r)) (up_to (I.runs i))) [
        | inl s ↦ (rw s.1 (coded-run s.0 s.2 ((up_to-mem (I.runs i) s.0).0 s.3)))
        | inr s ↦ (rw s.0 (coded_none s.1 (α (gone_var I i t)) refl))
      ]

-- a valuation that satisfies B and C codes the plan that it decodes to
pub codes-decoded : (I : Instance) (α : ℕ → Bool) → T (satisfies α (family_b I)) → T (satisfies α (family_c I)) → Codes I α (decoded I α)
unfolding Coded decoded
codes-decoded I α h_b h_c =
    record {
      borders = λ n l. refl;
      moves = λ i l t h. (coded I α i t (single I α h_b h_c i l t h)).0;
      runs_same = λ i l t h. (coded I α i t (single I α h_b h_c i l t h)).1;
      gone_same = λ i l t h. (coded I α i t (single I α h_b h_c i l t h)).2;
    }
