-- Numbers in digits. Of a number without a bound on its digits: one below ten, else those of the tenth and a last one; no more than
-- its size allows. Of a number in so many bytes, zeros or blanks ahead of it: its width, and that the number comes back. Assumes nothing.
use mathlib.Core.Path.{◌≡◌, refl, sym, ap, ◌∙◌}
use mathlib.Core.Logic.{⊎_elim}
use mathlib.Core.Bool.{Bool, true, false}
use Prim.Native.Nat.{ℕ, zero, suc, ◌+◌, ◌*◌, ◌-◌, ◌/◌, ◌%◌, ◌^◌, ◌≤◌, ◌<◌}
use native.Mathlib.Nat.{pow-zero, pow-suc}
use native.Mathlib.Omega.{arith}
use mathlib.Core.List.{[], ◌∷◌, ◌++◌}
use lib.ListN.{length, replicate, length-append, length-replicate}
use borrow.Author.Tests.{lt-ltb, le-ltb}
use Rattle.spec.specs.Lists.{Bytes, one}
use Rattle.spec.specs.Numbers.{digits, decimal, in_digits, aligned}
use Rattle.laws.proofs.Tests.{le-or-lt}
use Rattle.laws.proofs.Parts.{front_same, head-same}

-- ---- as many digits as a number has

-- with digits to spare: one, or those of the tenth and a last one
digits-one : (k n : ℕ) → n < 10 → digits (suc k) n ≡ one (48 + n)
unfolding digits
digits-one k n h =
    ap (λ (b : Bool). elim b [ true ↦ one (48 + n) | false ↦ digits k (n / 10) ++ one (48 + n % 10) ]) (lt-ltb n 10 h)

digits_more : (k n : ℕ) → 10 ≤ n → digits (suc k) n ≡ digits k (n / 10) ++ one (48 + n % 10)
unfolding digits
digits_more k n h =
    ap (λ (b : Bool). elim b [ true ↦ one (48 + n) | false ↦ digits k (n / 10) ++ one (48 + n % 10) ]) (le-ltb n 10 h)

-- however many there are to spare, they are the same
digits_same : (k j n : ℕ) → n < k → n < j → digits k n ≡ digits j n
digits_same zero j n h g = let no : ⊥ = omega arith in absurd no
digits_same (suc k) zero n h g = let no : ⊥ = omega arith in absurd no
digits_same (suc k) (suc j) n h g =
    ⊎_elim
    (λ l. rw (digits_more k n l, digits_more j n l, digits_same k j (n / 10) (omega arith) (omega arith)))
    (λ l. digits-one k n l ∙ sym (digits-one j n l))
    (le-or-lt 10 n)

pub decimal-one : (n : ℕ) → n < 10 → decimal n ≡ one (48 + n)
unfolding decimal
decimal-one n h = digits-one n n h

pub decimal-more : (n : ℕ) → 10 ≤ n → decimal n ≡ decimal (n / 10) ++ one (48 + n % 10)
unfolding decimal
decimal-more n h =
    digits_more n n h
    ∙ ap (λ (s : Bytes). s ++ one (48 + n % 10)) (digits_same n (suc (n / 10)) (n / 10) (omega arith) (omega arith))

-- no more digits than the power of ten that the number is below
pub decimal-most : (k n : ℕ) → n < 10 ^ suc k → length (decimal n) ≤ suc k
decimal-most zero n h = omega (arith, ap length (decimal-one n (omega arith)))
decimal-most (suc k) n h =
    ⊎_elim
    (λ l. omega (
      arith,
      ap length (decimal-more n l),
      length-append (decimal (n / 10)) (one (48 + n % 10)),
      decimal-most k (n / 10) (omega arith),
    ))
    (λ l. omega (arith, ap length (decimal-one n l)))
    (le-or-lt 10 n)

-- a machine word's
pub decimal-twenty : (n : ℕ) → n < 2 ^ 64 → length (decimal n) ≤ 20
decimal-twenty n h = decimal-most 19 n (omega arith)

-- ---- w digits, zeros ahead

pub length-in_digits : (w n : ℕ) → length (in_digits w n) ≡ w
unfolding in_digits
length-in_digits zero n = refl
length-in_digits (suc w) n = omega (arith, length-append (in_digits w (n / 10)) (one (48 + n % 10)), length-in_digits w (n / 10))

-- a number of so many digits comes back from them
pub in_digits-back : (w n m : ℕ) → n < 10 ^ w → m < 10 ^ w → in_digits w n ≡ in_digits w m → n ≡ m
unfolding in_digits
in_digits-back zero n m h k e = omega (arith, pow-zero 10)
in_digits-back (suc w) n m h k e =
    let s = front_same (in_digits w (n / 10)) (in_digits w (m / 10)) (length-in_digits w (n / 10) ∙ sym (length-in_digits w (m / 10))) e in
    let p = pow-suc 10 w in
    let q = in_digits-back w (n / 10) (m / 10) (omega arith) (omega arith) s.0 in
    let r = (head-same s.1).0 in
    omega arith

-- ---- w bytes, blanks ahead

pub length-aligned : (w n : ℕ) → n < 10 ^ suc w → length (aligned (suc w) n) ≡ suc w
unfolding aligned
length-aligned w n h =
    omega (
      arith,
      decimal-most w n h,
      length-append (replicate (suc w - length (decimal n)) 32) (decimal n),
      length-replicate {A = ℕ} (suc w - length (decimal n)) 32,
    )

-- what a text of blanks and digits says behind a number
value_from : ℕ → Bytes → ℕ
value_from v [] = v
value_from v (x ∷ xs) = value_from (v * 10 + (x - 48)) xs

value-append : (v : ℕ) (xs ys : Bytes) → value_from v (xs ++ ys) ≡ value_from (value_from v xs) ys
unfolding value_from
value-append v [] ys = refl
value-append v (x ∷ xs) ys = value-append (v * 10 + (x - 48)) xs ys

value-blanks : (k : ℕ) → value_from 0 (replicate k 32) ≡ 0
unfolding value_from
value-blanks zero = refl
value-blanks (suc k) = value-blanks k

-- the number that its digits say; the bound counts down
value-decimal : (most n : ℕ) → n < most → value_from 0 (decimal n) ≡ n
unfolding value_from
value-decimal zero n h = absurd (omega arith)
value-decimal (suc most) n h =
    ⊎_elim
    (λ l.
    ap (value_from 0) (decimal-more n l)
    ∙ value-append 0 (decimal (n / 10)) (one (48 + n % 10))
    ∙ ap (λ (v : ℕ). v * 10 + (48 + n % 10 - 48)) (value-decimal most (n / 10) (omega arith))
    ∙ omega arith)
    (λ l. ap (value_from 0) (decimal-one n l) ∙ omega arith)
    (le-or-lt 10 n)

value-aligned : (w n : ℕ) → value_from 0 (aligned w n) ≡ n
unfolding aligned
value-aligned w n =
    value-append 0 (replicate (w - length (decimal n)) 32) (decimal n)
    ∙ ap (λ (v : ℕ). value_from v (decimal n)) (value-blanks (w - length (decimal n)))
    ∙ value-decimal (suc n) n (omega arith)

-- a number comes back from its bytes, however many they are
pub aligned-back : (w u n m : ℕ) → aligned w n ≡ aligned u m → n ≡ m
aligned-back w u n m e = sym (value-aligned w n) ∙ ap (value_from 0) e ∙ value-aligned u m

-- ---- aligned in three bytes, by the number's size
