-- Literals as the machine holds them: what a number of four bytes stands for, and a literal without its sign. Assumes nothing.
use mathlib.Core.Path.{◌≡◌, refl, sym, ap, ap₂, ◌∙◌, subst}
use mathlib.Core.Bool.{true, false}
use Prim.Native.Nat.{ℕ, zero, suc, ◌-◌, ◌^◌, ◌≤◌, ◌<◌}
use native.Mathlib.Omega.{arith}
use lib.Dec.{T, ltb, ltb→lt, nltb→le}
use lib.IntN.{ℤ, pos, negsuc, nat_abs, neg_ℤ, pred_ℤ, ◌-ℤ◌, +ℤ_idl, -ℤ_one}
use lib.Signed.{mag, lt_z, non_neg}
use mir.Syntax.{w32, w64}
use mir.Val.{Fits, SFits, to_z, of_z}
use mir.Facts.{to_z_pos, to_z-of_z}
use Rattle.laws.proofs.Numbers.{signed_low as low, signed_high as high}
use Rattle.spec.specs.Numbers.{signed}
use Rattle.spec.specs.Refutation.{variable_of}
use Rattle.laws.proofs.Tests.{not_iff, from-true, from_false}

-- ---- a number of four bytes

-- of the lower half
pub signed_low : (n : ℕ) → n < 2147483648 → signed 4 n ≡ pos n
signed_low n h = low 4 n (omega arith)

-- and of the upper
pub signed_high : (n : ℕ) → 2147483648 ≤ n → n < 4294967296 → signed 4 n ≡ negsuc (4294967295 - n)
signed_high n h k = let e : 256 ^ 4 - suc n ≡ 4294967295 - n = omega arith in high 4 n (omega arith) ∙ ap negsuc e

-- -m is no larger than m, and 1 less is the number that m stands for in the upper half
size : (m : ℕ) → mag (neg_ℤ (pos m)) ≤ m
size zero = omega arith
size (suc m) = omega arith

one_less : (m : ℕ) → pred_ℤ (neg_ℤ (pos m)) ≡ negsuc m
one_less zero = refl
one_less (suc m) = refl

-- the machine takes -m and then 1 from it, and each has room
module _ (m : ℕ) (h : m < 2147483648) where
  opposite : pos 0 -ℤ to_z w32 m ≡ neg_ℤ (pos m)
  opposite = ap (λ (z : ℤ). pos 0 -ℤ z) (to_z_pos w32 h) ∙ +ℤ_idl (neg_ℤ (pos m))

  pub opposite-fits : SFits w32 (pos 0 -ℤ to_z w32 m)
  opposite-fits = subst (SFits w32) (sym opposite) (record { sfits = omega (arith, size m) })

  below : to_z w32 (of_z w32 (pos 0 -ℤ to_z w32 m)) -ℤ pos 1 ≡ negsuc m
  below = ap (λ (z : ℤ). z -ℤ pos 1) (to_z-of_z opposite-fits ∙ opposite) ∙ -ℤ_one (neg_ℤ (pos m)) ∙ one_less m

  pub below-fits : SFits w32 (to_z w32 (of_z w32 (pos 0 -ℤ to_z w32 m)) -ℤ pos 1)
  below-fits = subst (SFits w32) (sym below) (record { sfits = h })

  pub below-read : to_z w32 (of_z w32 (to_z w32 (of_z w32 (pos 0 -ℤ to_z w32 m)) -ℤ pos 1)) ≡ negsuc m
  below-read = to_z-of_z below-fits ∙ below

-- ---- a literal without its sign

-- a number below 0 is negated, and any other is its variable
minus : (z : ℤ) → T (lt_z z (pos 0)) → pos 0 -ℤ z ≡ pos (variable_of z)
unfolding variable_of
minus (pos n) h = let no : ⊥ = omega (arith, ltb→lt n 0 h) in absurd no
minus (negsuc k) h = +ℤ_idl (pos (suc k))

not-below : (z : ℤ) → lt_z z (pos 0) ≡ false → z ≡ pos (variable_of z)
unfolding variable_of
not-below (pos n) e = refl
not-below (negsuc k) e = absurd (from_false e tt)

-- a number that is not below 0 is cast to 64 bits
pub read-cast : (z : ℤ) (n : ℕ) → z ≡ pos n → n < 2147483648 → T (non_neg z) × Fits w64 (nat_abs z)
read-cast z n e h = subst (λ (y : ℤ). T (non_neg y) × Fits w64 (nat_abs y)) (sym e) (tt, record { fits = omega arith })

-- the same of a literal that is read back from its bits
module _ (z : ℤ) (h : SFits w32 z) where
  pub above-read : lt_z (to_z w32 (of_z w32 z)) (pos 0) ≡ false → to_z w32 (of_z w32 z) ≡ pos (variable_of z)
  above-read e = to_z-of_z h ∙ not-below z (ap (λ (y : ℤ). lt_z y (pos 0)) (sym (to_z-of_z h)) ∙ e)

  module _ (few : variable_of z < 2147483648) (t : lt_z (to_z w32 (of_z w32 z)) (pos 0) ≡ true) where
    negated : pos 0 -ℤ to_z w32 (of_z w32 z) ≡ pos (variable_of z)
    negated =
        ap (λ (y : ℤ). pos 0 -ℤ y) (to_z-of_z h)
        ∙ minus z (from-true (ap (λ (y : ℤ). lt_z y (pos 0)) (sym (to_z-of_z h)) ∙ t))

    pub negated_fits : SFits w32 (pos 0 -ℤ to_z w32 (of_z w32 z))
    negated_fits = subst (SFits w32) (sym negated) (record { sfits = few })

    pub negated-read : to_z w32 (of_z w32 (pos 0 -ℤ to_z w32 (of_z w32 z))) ≡ pos (variable_of z)
    negated-read = to_z-of_z negated_fits ∙ negated

-- ---- the range of a literal

-- a literal above m, or below -m, is of a variable above m; any other is not
over : (m : ℕ) (z : ℤ) → T (lt_z (pos m) z) → m < variable_of z
unfolding variable_of
over m (pos n) t = ltb→lt m n t
over m (negsuc k) t = absurd t

under : (m : ℕ) (z : ℤ) → T (lt_z z (neg_ℤ (pos m))) → m < variable_of z
unfolding variable_of
under zero (pos n) t = let no : ⊥ = omega (arith, ltb→lt n 0 t) in absurd no
under zero (negsuc k) t = omega arith
under (suc m) (pos n) t = absurd t
under (suc m) (negsuc k) t = omega (arith, ltb→lt m k t)

within : (m : ℕ) (z : ℤ) → lt_z (pos m) z ≡ false → lt_z z (neg_ℤ (pos m)) ≡ false → variable_of z ≤ m
unfolding variable_of
within m (pos n) p q = nltb→le m n ((not_iff (ltb m n)).1 (from_false p))
within zero (negsuc k) p q = absurd (from_false q tt)
within (suc m) (negsuc k) p q = let l = nltb→le m k ((not_iff (ltb m k)).1 (from_false q)) in omega arith

-- the same of a literal and of a bound that are read back from their bits
module _ (z : ℤ) (h : SFits w32 z) (m : ℕ) (few : m < 2147483648) where
  over-read : lt_z (to_z w32 m) (to_z w32 (of_z w32 z)) ≡ lt_z (pos m) z
  over-read = ap₂ lt_z (to_z_pos w32 few) (to_z-of_z h)

  under-read : lt_z (to_z w32 (of_z w32 z)) (to_z w32 (of_z w32 (pos 0 -ℤ to_z w32 m))) ≡ lt_z z (neg_ℤ (pos m))
  under-read = ap₂ lt_z (to_z-of_z h) (to_z-of_z (opposite-fits m few) ∙ opposite m few)

  pub above-range : lt_z (to_z w32 m) (to_z w32 (of_z w32 z)) ≡ true → m < variable_of z
  above-range t = over m z (from-true (sym over-read ∙ t))

  pub below-range : lt_z (to_z w32 (of_z w32 z)) (to_z w32 (of_z w32 (pos 0 -ℤ to_z w32 m))) ≡ true → m < variable_of z
  below-range t = under m z (from-true (sym under-read ∙ t))

  pub in-range : lt_z (to_z w32 m) (to_z w32 (of_z w32 z)) ≡ false
      → lt_z (to_z w32 (of_z w32 z)) (to_z w32 (of_z w32 (pos 0 -ℤ to_z w32 m))) ≡ false → variable_of z ≤ m
  in-range p q = within m z (sym over-read ∙ p) (sym under-read ∙ q)
