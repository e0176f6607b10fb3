-- Loops that test the numbers of a range one by one: `whole` is the answer for all of them, and the loop's invariant that it is the
-- answer for those from k on. Assumes nothing.
use mathlib.Core.Path.{◌≡◌, sym, ap, ◌∙◌}
use mathlib.Core.Bool.{Bool, true, false, ◌&&◌, ◌||◌}
use Prim.Native.Nat.{ℕ, suc, ◌+◌, ◌-◌, ◌≤◌, ◌<◌}
use native.Mathlib.Numerals.{add-one}
use native.Mathlib.Omega.{arith}
use Rattle.spec.specs.Lists.{all, any, up_to, range, count}

module _ (f : ℕ → Bool) where
  -- before the first turn
  pub all_start : (n : ℕ) → all f (up_to n) ≡ all f (range 0 n)
  unfolding up_to range
  all_start n = let e : n ≡ n - 0 = omega arith in ap (λ (k : ℕ). all f (count 0 k)) e

  pub any-start : (n : ℕ) → any f (up_to n) ≡ any f (range 0 n)
  unfolding up_to range
  any-start n = let e : n ≡ n - 0 = omega arith in ap (λ (k : ℕ). any f (count 0 k)) e

  module _ {n k : ℕ} where
    all-next : k < n → all f (range k n) ≡ (f k && all f (range (k + 1) n))
    unfolding all range count
    all-next l =
        let e : n - k ≡ suc (n - (k + 1)) = omega arith in
        ap (λ (j : ℕ). all f (count k j)) e ∙ ap (λ (j : ℕ). f k && all f (count j (n - (k + 1)))) (sym (add-one k))

    any_next : k < n → any f (range k n) ≡ (f k || any f (range (k + 1) n))
    unfolding any range count
    any_next l =
        let e : n - k ≡ suc (n - (k + 1)) = omega arith in
        ap (λ (j : ℕ). any f (count k j)) e ∙ ap (λ (j : ℕ). f k || any f (count j (n - (k + 1)))) (sym (add-one k))

  module _ {n k : ℕ} {whole : Bool} where
    -- a turn that leaves the answer open
    pub all-turn : whole ≡ all f (range k n) → k < n → f k ≡ true → whole ≡ all f (range (k + 1) n)
    all-turn h l e = h ∙ all-next l ∙ ap (λ (t : Bool). t && all f (range (k + 1) n)) e

    pub any-turn : whole ≡ any f (range k n) → k < n → f k ≡ false → whole ≡ any f (range (k + 1) n)
    any-turn h l e = h ∙ any_next l ∙ ap (λ (t : Bool). t || any f (range (k + 1) n)) e

    -- a turn that settles it
    pub all-broken : whole ≡ all f (range k n) → k < n → f k ≡ false → false ≡ whole
    all-broken h l e = sym (h ∙ all-next l ∙ ap (λ (t : Bool). t && all f (range (k + 1) n)) e)

    pub any_found : whole ≡ any f (range k n) → k < n → f k ≡ true → true ≡ whole
    any_found h l e = sym (h ∙ any_next l ∙ ap (λ (t : Bool). t || any f (range (k + 1) n)) e)

    -- after the last turn
    pub all_done : whole ≡ all f (range k n) → n ≤ k → true ≡ whole
    unfolding all range count
    all_done h l = let e : n - k ≡ 0 = omega arith in sym (h ∙ ap (λ (j : ℕ). all f (count k j)) e)

    pub any-done : whole ≡ any f (range k n) → n ≤ k → false ≡ whole
    unfolding any range count
    any-done h l = let e : n - k ≡ 0 = omega arith in sym (h ∙ ap (λ (j : ℕ). any f (count k j)) e)
