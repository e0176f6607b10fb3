-- The first run whose variable is 1, and the number of what is chosen. Assumes nothing.
use mathlib.Core.Path.{◌≡◌, refl, sym, ap}
use mathlib.Core.Logic.{⊎_elim}
use mathlib.Core.Bool.{Bool, true, false}
use mathlib.Core.Option.{none, some}
use Prim.Native.Nat.{ℕ, zero, suc, ◌+◌, ◌≤◌, ◌<◌}
use native.Mathlib.Omega.{arith}
use Rattle.spec.specs.Lists.{up_to, count}
use Rattle.spec.specs.Plan.{move_code}
use Rattle.spec.specs.Assignment.{first_run, chosen}
use Rattle.laws.proofs.Tests.{le-or-lt}

module _ (f : ℕ → Bool) where
  -- among n runs from a on
  found_from : (a n r : ℕ) → a ≤ r → r < a + n → f r ≡ true → ((k : ℕ) → a ≤ k → k < r → f k ≡ false)
      → first_run f (count a n) ≡ some r
  unfolding first_run count
  found_from a zero r l h e before = let no' : ⊥ = omega arith in absurd no'
  found_from a (suc n) r l h e before =
      ⊎_elim
      (λ m. let same : r ≡ a = omega arith in let here : f a ≡ true = rw same at e in rw here (ap some (sym same)))
      (λ m. rw (before a (omega arith) m) (found_from (suc a) n r (omega arith) (omega arith) e (λ k j i. before k (omega arith) i)))
      (le-or-lt r a)

  none_from : (a n : ℕ) → ((k : ℕ) → a ≤ k → k < a + n → f k ≡ false) → first_run f (count a n) ≡ none
  unfolding first_run count
  none_from a zero h = refl
  none_from a (suc n) h = rw (h a (omega arith) (omega arith)) (none_from (suc a) n (λ k l m. h k (omega arith) (omega arith)))

  module _ (n : ℕ) where
    pub run-code : (r : ℕ) (g : Bool) → (r < n) × (f r ≡ true) × ((k : ℕ) → k < r → f k ≡ false)
        → r ≡ move_code (chosen (first_run f (up_to n)) g)
    unfolding up_to move_code chosen
    run-code r g h = rw (found_from 0 n r (omega arith) (omega (arith, h.0)) h.1 (λ k l m. h.2 k m)) refl

    -- the code where no run's variable is 1, by gone's
    module _ (h : (k : ℕ) → k < n → f k ≡ false) where
      no_run : first_run f (up_to n) ≡ none
      unfolding up_to
      no_run = none_from 0 n (λ k l m. h k (omega arith))

      pub gone-code : {g : Bool} → g ≡ true → 65535 ≡ move_code (chosen (first_run f (up_to n)) g)
      unfolding move_code chosen
      gone-code t = rw (no_run, t) refl

      pub absent-code : {g : Bool} → g ≡ false → 65534 ≡ move_code (chosen (first_run f (up_to n)) g)
      unfolding move_code chosen
      absent-code t = rw (no_run, t) refl
