-- The least number that passes a test: step by step, where it lies, that it passes, that none before it does, and that it is the
-- same for tests that agree. Assumes nothing.
use mathlib.Core.Path.{◌≡◌, refl, ap, ◌∙◌, subst}
use mathlib.Core.Logic.{⊎_elim}
use mathlib.Core.Bool.{Bool, true, false}
use Prim.Native.Nat.{ℕ, zero, suc, ◌+◌, ◌-◌, ◌≤◌, ◌<◌}
use native.Mathlib.Omega.{arith}
use lib.Dec.{T}
use Rattle.laws.proofs.Tests.{from-true, from_false, le-or-lt}
use Rattle.spec.specs.Lists.{least_from}

-- the rest of a search in case of this test, from a on
abbrev searched : (ℕ → Bool) → ℕ → ℕ → Bool → ℕ
searched f a n b = elim b [ true ↦ a | false ↦ least_from f (suc a) n ]

module _ (f : ℕ → Bool) where
  -- a search among the numbers from a up to n
  module _ (a n : ℕ) where
    least_step : a < n → least_from f a (n - a) ≡ searched f a (n - (a + 1)) (f a)
    unfolding least_from
    least_step l = let k : n - a ≡ suc (n - (a + 1)) = omega arith in ap (least_from f a) k

    pub least-here : a < n → f a ≡ true → least_from f a (n - a) ≡ a
    least-here l e = least_step l ∙ simp e

    pub least-next : a < n → f a ≡ false → least_from f a (n - a) ≡ least_from f (a + 1) (n - (a + 1))
    least-next l e =
        let k : suc a ≡ a + 1 = omega arith in
        least_step l ∙ ap (searched f a (n - (a + 1))) e ∙ ap (λ (x : ℕ). least_from f x (n - (a + 1))) k

    pub least-end : n ≤ a → least_from f a (n - a) ≡ a
    unfolding least_from
    least-end l = let k : n - a ≡ 0 = omega arith in ap (least_from f a) k

  -- what is found is one of the numbers, or the one behind them
  pub least-from : (a n : ℕ) → (a ≤ least_from f a n) × (least_from f a n ≤ a + n)
  unfolding least_from
  least-from a zero = (omega arith, omega arith)
  least-from a (suc n) = go (f a) (least-from (suc a) n)
    where
      go : (b : Bool) → (suc a ≤ least_from f (suc a) n) × (least_from f (suc a) n ≤ suc a + n)
          → (a ≤ searched f a n b) × (searched f a n b ≤ a + suc n)
      go true rest = (omega arith, omega arith)
      go false rest = (omega arith, omega arith)

  -- it passes
  pub least-holds : (a n : ℕ) → least_from f a n < a + n → T (f (least_from f a n))
  unfolding least_from
  least-holds a zero h = let no' : ⊥ = omega arith in absurd no'
  least-holds a (suc n) h = go (f a) refl h (least-holds (suc a) n)
    where
      go : (b : Bool) → f a ≡ b → searched f a n b < a + suc n → (least_from f (suc a) n < suc a + n → T (f (least_from f (suc a) n)))
          → T (f (searched f a n b))
      go true e k rest = from-true e
      go false e k rest = rest (omega arith)

  -- and none that passes comes before it
  pub least_first : (a n k : ℕ) → a ≤ k → k < a + n → T (f k) → least_from f a n ≤ k
  unfolding least_from
  least_first a zero k l h t = let no' : ⊥ = omega arith in absurd no'
  least_first a (suc n) k l h t = go (f a) refl (λ m. least_first (suc a) n k m (omega arith) t)
    where
      later : f a ≡ false → suc a ≤ k
      later e =
          ⊎_elim
          (λ m. let same : k ≡ a = omega arith in absurd (from_false e (subst (λ (x : ℕ). T (f x)) same t)))
          (λ m. m)
          (le-or-lt k a)

      go : (b : Bool) → f a ≡ b → (suc a ≤ k → least_from f (suc a) n ≤ k) → searched f a n b ≤ k
      go true e rest = l
      go false e rest = rest (later e)

-- tests that agree find the same
pub least-same : (f g : ℕ → Bool) (a n : ℕ) → ((p : ℕ) → a ≤ p → p < a + n → f p ≡ g p) → least_from f a n ≡ least_from g a n
unfolding least_from
least-same f g a zero h = refl
least-same f g a (suc n) h =
    let here : f a ≡ g a = h a (omega arith) (omega arith) in
    let rest : least_from f (suc a) n ≡ least_from g (suc a) n
    = least-same f g (suc a) n (λ p l k. h p (omega arith) (omega arith)) in
    ap (searched f a n) here ∙ ap (λ (r : ℕ). elim (g a) [ true ↦ a | false ↦ r ]) rest
