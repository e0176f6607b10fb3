-- Rounding to the nearest whole number, an exact half going down: the number is within a half of n / d, and not a half above it
-- (`nearest-halves`); one division finds it (`nearest-divided`). Assumes nothing.
use mathlib.Core.Path.{◌≡◌, refl, sym}
use mathlib.Core.Bool.{Bool, true, false, cond}
use Prim.Native.Nat.{ℕ, suc, ◌+◌, ◌*◌, ◌-◌, ◌/◌, ◌%◌, ◌≤◌, ◌<◌}
use native.Mathlib.Nat.{suc-mul, add-mul, mul_left_comm, mul-le-mul_right, div-add-mod', mod-lt, div-eq_of_lt-le}
use native.Mathlib.Omega.{arith}
use lib.Dec.{ltb, ltb→lt, nltb→le}
use Rattle.spec.specs.Numbers.{nearest}
use Rattle.laws.proofs.Tests.{from-true, from-denied}

-- a multiple of d that is above another one is d above it at least
pub multiples : (d : ℕ) {j k : ℕ} → j < k → j * d + d ≤ k * d
multiples d {j} {k} l = let m : suc j * d ≤ k * d = mul-le-mul_right d l in omega (arith, suc-mul j d)

-- k is less than n / d and a half, and at least n / d less a half; said of k × d and n, and doubled
pub record Halves (n d k : ℕ) : Type 0 where
  pub above : 2 * (k * d) < 2 * n + d
  pub below : 2 * n ≤ 2 * (k * d) + d

module _ (n d : ℕ) (some' : 1 ≤ d) where
  pub nearest-halves : Halves n d (nearest n d)
  unfolding nearest
  nearest-halves = go (ltb d (2 * (n % d))) refl
    where
      go : (more : Bool) → ltb d (2 * (n % d)) ≡ more → Halves n d (cond more (n / d + 1) (n / d))
      go true e =
          let up = add-mul (n / d) 1 d in
          let over = ltb→lt d (2 * (n % d)) (from-true e) in
          let rest = div-add-mod' n d in
          let less = mod-lt n {m = d} some' in
          record { above = omega arith; below = omega arith }
      go false e =
          let rest = div-add-mod' n d in
          let not_over = nltb→le d (2 * (n % d)) (from-denied e) in
          record { above = omega arith; below = omega arith }

  -- n / d less a half, rounded up
  pub nearest-divided : nearest n d ≡ (2 * n + (d - 1)) / (2 * d)
  nearest-divided =
      let h = nearest-halves in
      let twice = mul_left_comm (nearest n d) 2 d in
      let more = add-mul (nearest n d) 1 (2 * d) in
      sym (div-eq_of_lt-le (2 * d) (omega (arith, h.above)) (omega (arith, h.below)))
