-- A literal's sign, as the machine tests it and takes it off: what is read back from the bits of an `i32` is the number itself, and
-- in 64 bits its negation has room. Assumes nothing.
use mathlib.Core.Path.{◌≡◌, sym, ap, ◌∙◌, subst}
use mathlib.Core.Bool.{true, false}
use native.Mathlib.Nat.{zero-add}
use native.Mathlib.Omega.{arith}
use lib.Dec.{T, ltb→lt}
use lib.IntN.{ℤ, pos, negsuc, nat_abs, ◌-ℤ◌}
use lib.Signed.{lt_z, non_neg, nat_abs-le}
use mir.Syntax.{w32, w64}
use mir.Val.{SFits, to_z, of_z}
use mir.Facts.{sfits_widen, to_z-of_z}
use Rattle.laws.proofs.Tests.{from-true, from_false}

minus : (z : ℤ) → T (lt_z z (pos 0)) → pos 0 -ℤ z ≡ pos (nat_abs z)
minus (pos n) h = let no : ⊥ = omega (arith, ltb→lt n 0 h) in absurd no
minus (negsuc k) h = ap pos (zero-add _)

pub above : (z : ℤ) → lt_z z (pos 0) ≡ false → T (non_neg z)
above (pos n) e = tt
above (negsuc k) e = absurd (from_false e tt)

module _ (z : ℤ) (h : SFits w32 z) where
  pub bits-zero : of_z w32 z ≡ 0 → z ≡ pos 0
  bits-zero e = sym (to_z-of_z h) ∙ ap (to_z w32) e

  pub not-below : lt_z (to_z w32 (of_z w32 z)) (pos 0) ≡ false → T (non_neg z)
  not-below e = above z (ap (λ (y : ℤ). lt_z y (pos 0)) (sym (to_z-of_z h)) ∙ e)

  pub wide : SFits w64 (to_z w32 (of_z w32 z))
  wide = subst (SFits w64) (sym (to_z-of_z h)) (sfits_widen tt h)

  module _ (t : lt_z (to_z w32 (of_z w32 z)) (pos 0) ≡ true) where
    -- the number is below 0
    pub below : T (lt_z z (pos 0))
    below = from-true (ap (λ (y : ℤ). lt_z y (pos 0)) (sym (to_z-of_z h)) ∙ t)

    negated : pos 0 -ℤ to_z w64 (of_z w64 (to_z w32 (of_z w32 z))) ≡ pos (nat_abs z)
    negated = ap (λ (y : ℤ). pos 0 -ℤ y) (to_z-of_z wide ∙ to_z-of_z h) ∙ minus z below

    pub fits : SFits w64 (pos 0 -ℤ to_z w64 (of_z w64 (to_z w32 (of_z w32 z))))
    fits = subst (SFits w64) (sym negated) (record { sfits = omega (arith, nat_abs-le z h.sfits) })

    pub unsigned : to_z w64 (of_z w64 (pos 0 -ℤ to_z w64 (of_z w64 (to_z w32 (of_z w32 z))))) ≡ pos (nat_abs z)
    unsigned = to_z-of_z fits ∙ negated
