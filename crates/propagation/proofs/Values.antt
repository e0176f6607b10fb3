-- What is known of the variables where one entry of the slice is set: one literal more is true, or false. Where each entry is 0,
-- all variables are open. Assumes nothing.
use mathlib.Core.Path.{◌≡◌, refl, ap, fun_ext}
use mathlib.Core.Bool.{cond}
use Prim.Native.Nat.{ℕ, zero, suc, ◌-◌, ◌≤◌, ◌<◌}
use native.Mathlib.Omega.{arith}
use mathlib.Core.List.{[]}
use lib.ListN.{length, get_or, set}
use lib.Seq.{get_or-set_same, get_or-set_other}
use lib.IntN.{pos, negsuc}
use lib.Dec.{eqb, eqb→eq}
use Rattle.spec.specs.Lists.{Bytes}
use Rattle.spec.specs.Formula.{Literal}
use Rattle.spec.specs.Assignment.{open'}
use Rattle.spec.specs.Refutation.{variable_of, make_true, make_false, refuting}
use Rattle.spec.specs.Entry.{zeroed}
use Rattle.laws.proofs.Tests.{eqb-iff, decide, true_of, denied-of, not_iff}
use Rattle.propagation.specs.Known.{value_in, values_in, true_byte, false_byte}

-- an entry that is set, and the others as they were
put : (values : Bytes) (v b u : ℕ) → v < length values → values_in (set values v b) u ≡ cond (eqb u v) (value_in b) (values_in values u)
unfolding values_in
put values v b u h = decide (eqb u v)
    (λ t. rw (true_of (eqb u v) t, eqb→eq u v t) (ap value_in (get_or-set_same values v b 0 h)))
    (λ t. rw (denied-of (eqb u v) t)
    (ap value_in (get_or-set_other values v u b 0 (λ e. (not_iff (eqb u v)).0 t ((eqb-iff u v).1 e)))))

-- one literal more is true
pub made-true : (values : Bytes) (l : Literal) → 1 ≤ variable_of l → variable_of l ≤ length values
    → values_in (set values (variable_of l - 1) (true_byte l)) ≡ make_true (values_in values) l
unfolding variable_of true_byte make_true value_in
made-true values (pos zero) one fits = absurd (omega arith)
made-true values (pos (suc v)) one fits = fun_ext λ u. let e : suc v - 1 ≡ v = omega arith in rw e (put values v 1 u fits)
made-true values (negsuc v) one fits = fun_ext λ u. let e : suc v - 1 ≡ v = omega arith in rw e (put values v 2 u fits)

-- one literal more is false
pub made-false : (values : Bytes) (l : Literal) → 1 ≤ variable_of l → variable_of l ≤ length values
    → values_in (set values (variable_of l - 1) (false_byte l)) ≡ make_false (values_in values) l
unfolding variable_of false_byte make_false value_in
made-false values (pos zero) one fits = absurd (omega arith)
made-false values (pos (suc v)) one fits = fun_ext λ u. let e : suc v - 1 ≡ v = omega arith in rw e (put values v 2 u fits)
made-false values (negsuc v) one fits = fun_ext λ u. let e : suc v - 1 ≡ v = omega arith in rw e (put values v 1 u fits)

-- each entry of a row of zeros is 0, and so all variables are open
pub get_or-zeroed : (n v : ℕ) → get_or {A = ℕ} (zeroed 0 n) v 0 ≡ 0
unfolding zeroed
get_or-zeroed zero v = refl
get_or-zeroed (suc n) zero = refl
get_or-zeroed (suc n) (suc v) = get_or-zeroed n v

pub all-open : (n : ℕ) → values_in (zeroed 0 n) ≡ refuting []
unfolding values_in refuting value_in
all-open n = fun_ext λ v. ap value_in (get_or-zeroed n v)

-- a byte of which nothing is known
pub zero-byte : (b : ℕ) → value_in b ≡ open' → b ≡ 0
unfolding value_in
zero-byte zero e = refl
zero-byte (suc zero) e = let z : ◌≡◌ {A = ℕ} 0 1 = cc in absurd (omega arith)
zero-byte (suc (suc b)) e = let z : ◌≡◌ {A = ℕ} 0 1 = cc in absurd (omega arith)
