-- A literal's sign, as the machine tests it, and what it makes of a byte: the bytes that make a literal true or false, and its truth
-- by the byte of its variable. Assumes nothing.
use mathlib.Core.Path.{◌≡◌, refl, sym, ap, ap₂, ◌∙◌}
use mathlib.Core.Bool.{Bool, false, cond}
use Prim.Native.Nat.{ℕ, zero, suc, ◌-◌, ◌≤◌}
use native.Mathlib.Omega.{arith}
use mathlib.Core.List.{List}
use lib.ListN.{get_or, set}
use lib.IntN.{ℤ, pos, negsuc}
use lib.Signed.{lt_z}
use mir.Syntax.{w32}
use mir.Val.{SFits, to_z, of_z}
use mir.Facts.{to_z-of_z}
use borrow.Author.Tests.{le-ltb}
use Rattle.spec.specs.Lists.{Bytes}
use Rattle.spec.specs.Formula.{Literal}
use Rattle.spec.specs.Assignment.{Value, no', deny, truth}
use Rattle.spec.specs.Refutation.{variable_of}
use Rattle.propagation.specs.Known.{value_in, values_in, true_byte, false_byte}

-- the sign of what is read back from the bits is the sign of the literal
pub sign_of : {l : Literal} {b : Bool} → SFits w32 l → lt_z (to_z w32 (of_z w32 l)) (pos 0) ≡ b → lt_z l (pos 0) ≡ b
sign_of h e = ap (λ (z : ℤ). lt_z z (pos 0)) (sym (to_z-of_z h)) ∙ e

-- and its variable that of the literal
pub variable-read : (l : Literal) {v : ℕ} → SFits w32 l → v ≡ variable_of (to_z w32 (of_z w32 l)) → v ≡ variable_of l
variable-read l h e = e ∙ ap variable_of (to_z-of_z h)

above : (n : ℕ) → lt_z (pos n) (pos 0) ≡ false
above n = le-ltb n 0 (omega arith)

-- a byte that is one of two by the sign
by_sign : (below above' : ℕ) (l : Literal) {x : ℕ} {b : Bool} → SFits w32 l → lt_z (to_z w32 (of_z w32 l)) (pos 0) ≡ b
    → x ≡ cond b below above' → x ≡ cond (lt_z l (pos 0)) below above'
by_sign below above' l h e f = f ∙ ap (λ (t : Bool). cond t below above') (sym (sign_of h e))

-- the bytes that make a literal true and false
pub true-byte : (l : Literal) {x : ℕ} {b : Bool} → SFits w32 l → lt_z (to_z w32 (of_z w32 l)) (pos 0) ≡ b → x ≡ cond b 2 1 → x ≡ true_byte l
unfolding true_byte
true-byte (pos n) h e f = by_sign 2 1 (pos n) h e f ∙ ap (λ (t : Bool). cond t 2 1) (above n)
true-byte (negsuc n) h e f = by_sign 2 1 (negsuc n) h e f

pub false-byte : (l : Literal) {x : ℕ} {b : Bool} → SFits w32 l → lt_z (to_z w32 (of_z w32 l)) (pos 0) ≡ b → x ≡ cond b 1 2 → x ≡ false_byte l
unfolding false_byte
false-byte (pos n) h e f = by_sign 1 2 (pos n) h e f ∙ ap (λ (t : Bool). cond t 1 2) (above n)
false-byte (negsuc n) h e f = by_sign 1 2 (negsuc n) h e f

-- the byte and the trail, at the place of the variable
pub made : (values trail : List ℕ) (n : ℕ) {v u x y : ℕ} → v ≡ u → x ≡ y
    → (set values (v - 1) x ≡ set values (u - 1) y) × (set trail n (v - 1) ≡ set trail n (u - 1))
made values trail n e f = (ap₂ (λ (k b : ℕ). set values (k - 1) b) e f, ap (λ (k : ℕ). set trail n (k - 1)) e)

-- the truth of a literal, by the byte of its variable
pub truth-by : (values : Bytes) (l : Literal) (b : Bool) (x : Value) → 1 ≤ variable_of l → lt_z l (pos 0) ≡ b
    → value_in (get_or values (variable_of l - 1) 0) ≡ x → truth (values_in values) l ≡ cond b (deny x) x
unfolding truth values_in variable_of
truth-by values (pos zero) b x one e h = absurd (omega arith)
truth-by values (pos (suc v)) b x one e h =
    let p : v ≡ suc v - 1 = omega arith in
    ap (λ (u : ℕ). value_in (get_or values u 0)) p ∙ h ∙ ap (λ (t : Bool). cond t (deny x) x) (sym (above (suc v)) ∙ e)
truth-by values (negsuc v) b x one e h =
    let p : v ≡ suc v - 1 = omega arith in
    ap deny (ap (λ (u : ℕ). value_in (get_or values u 0)) p ∙ h) ∙ ap (λ (t : Bool). cond t (deny x) x) e

-- what a byte says
pub byte-false : (n : ℕ) → (n ≡ 0 → ⊥) → (n ≡ 1 → ⊥) → value_in n ≡ no'
unfolding value_in
byte-false zero a b = absurd (a refl)
byte-false (suc zero) a b = absurd (b refl)
byte-false (suc (suc n)) a b = refl
