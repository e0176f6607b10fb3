-- What is left of a range behind a place, one number at a time: a test over it. Assumes nothing.
use mathlib.Core.Path.{◌≡◌, sym, ap, ◌∙◌}
use mathlib.Core.Bool.{Bool, false, ◌||◌}
use Prim.Native.Nat.{ℕ, suc, ◌+◌, ◌-◌, ◌≤◌, ◌<◌}
use native.Mathlib.Numerals.{add-one}
use native.Mathlib.Omega.{arith}
use Rattle.spec.specs.Lists.{any, up_to, range, count}

-- a test over the numbers from i up to n
module _ (f : ℕ → Bool) (n i : ℕ) where
  pub any-range-next : i < n → any f (range i n) ≡ (f i || any f (range (i + 1) n))
  unfolding any range count
  any-range-next l =
      let e : n - i ≡ suc (n - (i + 1)) = omega arith in
      ap (λ (k : ℕ). any f (count i k)) e ∙ ap (λ (k : ℕ). f i || any f (count k (n - (i + 1)))) (sym (add-one i))

  pub any-range-end : n ≤ i → any f (range i n) ≡ false
  unfolding any range count
  any-range-end l = let e : n - i ≡ 0 = omega arith in ap (λ (k : ℕ). any f (count i k)) e

pub any-range-all : (f : ℕ → Bool) (n : ℕ) → any f (up_to n) ≡ any f (range 0 n)
unfolding up_to range
any-range-all f n = let e : n ≡ n - 0 = omega arith in ap (λ (k : ℕ). any f (count 0 k)) e
