-- Counting up to a bound, as the cap's clauses do: whatever meets them has no more set than the bound, and the count itself meets them
-- where no more are set. Assumes nothing.
use mathlib.Core.Path.{◌≡◌, sym, ap, ◌∙◌, subst}
use mathlib.Core.Logic.{inl, inr}
use mathlib.Core.Bool.{Bool}
use Prim.Native.Nat.{ℕ, zero, suc, ◌+◌, ◌-◌, ◌≤◌, ◌<◌}
use native.Mathlib.Omega.{arith}
use lib.ListN.{length, length-append}
use lib.Dec.{T, ltb}
use Rattle.laws.proofs.Tests.{decide, le-or-lt, ltb_iff, true_of, false_of}
use Rattle.laws.proofs.Picks.{pick-taken, pick-left, pick-most}
use Rattle.laws.proofs.Parts.{length-up_to}
use Rattle.spec.specs.Lists.{one, pick, up_to}

module _ (f : ℕ → Bool) where
  -- how many of the first n pass
  abbrev pub passing : ℕ → ℕ
  passing n = length (pick f (up_to n))

  pub passing-one : (n : ℕ) → T (f n) → passing (n + 1) ≡ passing n + 1
  passing-one n h = ap length (pick-taken f n (true_of (f n) h)) ∙ length-append (pick f (up_to n)) (one n)

  pub passing-none : (n : ℕ) → (T (f n) → ⊥) → passing (n + 1) ≡ passing n
  passing-none n h = ap length (pick-left f n (false_of (f n) h))

  pub passing-most : (n : ℕ) → passing n ≤ n
  passing-most n = let m = pick-most f (up_to n) in omega (arith, m, length-up_to n)

  pub passing-grows : (i n : ℕ) → i ≤ n → passing i ≤ passing n
  passing-grows i zero l = subst (λ (x : ℕ). passing x ≤ passing 0) (sym z) (omega arith)
    where
      z : i ≡ 0
      z = omega (arith, l)
  passing-grows i (suc n) l = elim (le-or-lt i n) [
    | inl h ↦ (let r = passing-grows i n h in let s = step n in omega (arith, r, s))
    | inr h ↦ (let e : i ≡ suc n = omega (arith, l, h) in subst (λ (x : ℕ). passing x ≤ passing (suc n)) (sym e) (omega arith))
  ]
    where
      step : (n : ℕ) → passing n ≤ passing (suc n)
      step n =
          let next : n + 1 ≡ suc n = omega arith in
          subst (λ (x : ℕ). passing n ≤ passing x) next (decide (f n)
          (λ h. omega (arith, passing-one n h))
          (λ h. omega (arith, passing-none n (lib.Dec.T_not (f n) h))))

  module _ (most spare : ℕ) (y : ℕ → ℕ → Bool) where
    -- what the clauses say of the counter's variables: y j k is that more than j of the first j + k + 1 pass
    pub record Counts : Type 0 where
      -- one more is counted, and at the bound no more may pass
      pub more : (j : ℕ) → j ≤ most → (k : ℕ) → k < spare → T (f (j + k)) → (0 < j → T (y (j - 1) k)) → (j < most) × T (y j k)
      -- what is counted stays counted
      pub stays : (j : ℕ) → j < most → (k : ℕ) → 0 < k → k < spare → T (y j (k - 1)) → T (y j k)

    module _ (c : Counts) where
      -- up to a place no more pass than the bound; and as long as fewer than `spare` did not pass, they have been counted
      record Counted (i : ℕ) : Type 0 where
        few : passing i ≤ most
        counted : 0 < passing i → i - passing i < spare → T (y (passing i - 1) (i - passing i))

      counted-one : (i : ℕ) → i < most + spare → Counted i → T (f i) → Counted (i + 1)
      counted-one i l h t = elim (le-or-lt spare (i - passing i)) [
        | inl late ↦ (let w = h.few in record { few = omega (arith, e, l, late, w, b₀); counted = λ a b. absurd (omega (arith, e, b, late, b₀)) })
        | inr early ↦ (
            let at : passing i + (i - passing i) ≡ i = omega (arith, b₀) in
            let m = c.more (passing i) h.few (i - passing i) early (subst (λ (n : ℕ). T (f n)) (sym at) t) (λ a. h.counted a early) in
            let here : passing i ≡ passing (i + 1) - 1 = omega (arith, e) in
            let there : i - passing i ≡ i + 1 - passing (i + 1) = omega (arith, e, b₀) in
            record {
              few = omega (arith, e, m.0);
              counted = λ a b. subst (λ (k : ℕ). T (y (passing (i + 1) - 1) k)) there (subst (λ (j : ℕ). T (y j (i - passing i))) here m.1);
            }
            )
      ]
        where
          e : passing (i + 1) ≡ passing i + 1
          e = passing-one i t

          b₀ : passing i ≤ i
          b₀ = passing-most i

      counted_none : (i : ℕ) → Counted i → (T (f i) → ⊥) → Counted (i + 1)
      counted_none i h t = record {
        few = omega (arith, e, h.few);
        counted = λ a b.
            let a₀ : 0 < passing i = omega (arith, a, e) in
            let b₁ : i - passing i < spare = omega (arith, b, e, b₀) in
            let low : passing i - 1 < most = omega (arith, a₀, h.few) in
            let there : i + 1 - passing i - 1 ≡ i - passing i = omega (arith, b₀) in
            let s = c.stays (passing i - 1) low (i + 1 - passing i) (omega (arith, b₀)) (omega (arith, b, e))
            (subst (λ (k : ℕ). T (y (passing i - 1) k)) (sym there) (h.counted a₀ b₁)) in
            subst (λ (n : ℕ). T (y (n - 1) (i + 1 - n))) (sym e) s;
      }
        where
          e : passing (i + 1) ≡ passing i
          e = passing-none i t

          b₀ : passing i ≤ i
          b₀ = passing-most i

      counted : (i : ℕ) → i ≤ most + spare → Counted i
      counted zero l = let z = passing-most 0 in record { few = omega (arith, z); counted = λ a b. absurd (omega (arith, a, z)) }
      counted (suc i) l =
          let h = counted i (omega (arith, l)) in
          let next : i + 1 ≡ suc i = omega arith in
          subst Counted next (decide (f i) (counted-one i (omega (arith, l)) h) (λ t. counted_none i h (lib.Dec.T_not (f i) t)))

      -- Whatever meets the clauses has no more set than the bound.
      pub counts-few : passing (most + spare) ≤ most
      counts-few = (counted (most + spare) (omega arith)).few

  -- Where no more pass than the bound, the count itself meets the clauses.
  pub count-counts : (most spare : ℕ) → passing (most + spare) ≤ most → Counts most spare (λ j k. ltb j (passing (j + k + 1)))
  count-counts most spare few = record {
    more = λ j l k h t below.
        let e = passing-one (j + k) t in
        let grown = passing-grows (j + k + 1) (most + spare) (omega (arith, l, h)) in
        let before : j ≤ passing (j + k) = elim (le-or-lt j 0) [
          | inl z ↦ omega (arith, z)
          | inr p ↦ (
              let here : j - 1 + k + 1 ≡ j + k = omega (arith, p) in
              let b = (ltb_iff (j - 1) _).0 (subst (λ (n : ℕ). T (ltb (j - 1) (passing n))) here (below p)) in
              omega (arith, b, p)
              )
        ] in
        (omega (arith, e, grown, few, before), (ltb_iff j _).1 (omega (arith, e, before)));
    stays = λ j l k p h t.
        let here : j + (k - 1) + 1 ≡ j + k = omega (arith, p) in
        let b = (ltb_iff j _).0 (subst (λ (n : ℕ). T (ltb j (passing n))) here t) in
        let grown = passing-grows (j + k) (j + k + 1) (omega arith) in
        (ltb_iff j _).1 (omega (arith, b, grown));
  }
