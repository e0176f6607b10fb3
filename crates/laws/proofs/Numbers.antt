-- Little-endian numbers of any width: writing and reading undo one another, a field is read where it was written, and the
-- same for two's complement. Assumes nothing.
use mathlib.Core.Path.{◌≡◌, refl, sym, ap, ◌∙◌, subst}
use Prim.Native.Nat.{ℕ, zero, suc, ◌+◌, ◌*◌, ◌-◌, ◌/◌, ◌%◌, ◌^◌, ◌≤◌, ◌<◌}
use native.Mathlib.Nat.{pow-succ'}
use native.Mathlib.Omega.{arith}
use native.Mathlib.Numerals.{add-one}
use mathlib.Core.List.{[], ◌∷◌, ◌++◌, append-nil}
use lib.ListN.{length, get_or, take, drop, length-drop}
use lib.Seq.{take_at, drop-append-add, length-take-le, drop-cons, drop-drop}
use lib.IntN.{ℤ, pos, negsuc}
use lib.Signed.{mag}
use lib.Dec.{T, ltb, ltb→lt, lt→ltb, nltb→le}
use lib.Arith.{le→nltb}
use Rattle.spec.specs.Lists.{Bytes, all}
pub use Rattle.spec.specs.Lists.{bytes}
use Rattle.spec.specs.Numbers.{little_endian, number, field, signed, unsigned}
use Rattle.laws.proofs.Tests.{and-iff, decide, true_of, denied-of}

-- ---- lists of bytes

-- the first of them, and the others
pub bytes-cons : (x : ℕ) (xs : Bytes) → T (bytes (x ∷ xs)) → (x < 256) × T (bytes xs)
unfolding all
bytes-cons x xs h = let p = (and-iff (ltb x 256) (bytes xs)).0 h in (ltb→lt x 256 p.0, p.1)

pub bytes_take : (n : ℕ) (xs : Bytes) → T (bytes xs) → T (bytes (take n xs))
unfolding all
bytes_take zero xs h = tt
bytes_take (suc n) [] h = tt
bytes_take (suc n) (x ∷ xs) h =
    let p = (and-iff (ltb x 256) (bytes xs)).0 h in (and-iff (ltb x 256) (bytes (take n xs))).1 (p.0, bytes_take n xs p.1)

pub bytes_drop : (n : ℕ) (xs : Bytes) → T (bytes xs) → T (bytes (drop n xs))
unfolding all
bytes_drop zero xs h = h
bytes_drop (suc n) [] h = h
bytes_drop (suc n) (x ∷ xs) h = bytes_drop n xs (bytes-cons x xs h).1

-- ---- writing and reading

-- w bytes, each a byte
pub length-little_endian : (w n : ℕ) → length (little_endian w n) ≡ w
unfolding little_endian
length-little_endian zero n = refl
length-little_endian (suc w) n = ap suc (length-little_endian w (n / 256))

pub little_endian-bytes : (w n : ℕ) → T (bytes (little_endian w n))
unfolding little_endian all
little_endian-bytes zero n = tt
little_endian-bytes (suc w) n =
    (and-iff (ltb (n % 256) 256) (bytes (little_endian w (n / 256)))).1 (lt→ltb (n % 256) 256 (omega arith), little_endian-bytes w (n / 256))

-- what is written comes back
pub number-little_endian : (w n : ℕ) → n < 256 ^ w → number (little_endian w n) ≡ n
unfolding little_endian number
number-little_endian zero n h = omega arith
number-little_endian (suc w) n h = rw (number-little_endian w (n / 256) (omega arith)) (omega arith)

-- bytes stand for a number of their width, which is written as these bytes
pub number_lt : (xs : Bytes) → T (bytes xs) → number xs < 256 ^ length xs
unfolding number
number_lt [] h = omega arith
number_lt (x ∷ xs) h = let p = bytes-cons x xs h in let r = number_lt xs p.1 in rw (pow-succ' 256 (length xs)) (omega arith)

pub little_endian-number : (xs : Bytes) → T (bytes xs) → little_endian (length xs) (number xs) ≡ xs
unfolding little_endian number
little_endian-number [] h = refl
little_endian-number (x ∷ xs) h =
    let p = bytes-cons x xs h in
    let m : (x + 256 * number xs) % 256 ≡ x = omega arith in
    let d : (x + 256 * number xs) / 256 ≡ number xs = omega arith in
    rw (m, d, little_endian-number xs p.1)

-- ---- fields

-- a field that was written at the start
pub field-written : (w n : ℕ) (rest : Bytes) → n < 256 ^ w → field (little_endian w n ++ rest) 0 w ≡ n
unfolding field
field-written w n rest h = rw (take_at (little_endian w n) rest w (length-little_endian w n)) (number-little_endian w n h)

-- a field behind what stands in front
pub field-behind : (front s : Bytes) (at w : ℕ) → field (front ++ s) (length front + at) w ≡ field s at w
unfolding field
field-behind front s at w = rw drop-append-add

-- a number that stands alone
pub field-alone : (w n : ℕ) → n < 256 ^ w → field (little_endian w n) 0 w ≡ n
field-alone w n h = let e = field-written w n [] h in rw append-nil at e

-- what stands behind a number that was written
pub field_past : (w n : ℕ) (s : Bytes) (at from v : ℕ) → from ≡ w + at → field (little_endian w n ++ s) from v ≡ field s at v
field_past w n s at from v e =
    ap (λ (k : ℕ). field (little_endian w n ++ s) k v) (e ∙ ap (λ (k : ℕ). k + at) (sym (length-little_endian w n)))
    ∙ field-behind (little_endian w n) s at v

pub drop_past : (w n : ℕ) (s : Bytes) (at from : ℕ) → from ≡ w + at → drop from (little_endian w n ++ s) ≡ drop at s
drop_past w n s at from e =
    ap (λ (k : ℕ). drop k (little_endian w n ++ s)) (e ∙ ap (λ (k : ℕ). k + at) (sym (length-little_endian w n)))
    ∙ drop-append-add (little_endian w n) s at

-- the bytes of a field that is there
module _ (s : Bytes) (at w : ℕ) (b : T (bytes s)) (fits : at + w ≤ length s) where
  length_part : length (take w (drop at s)) ≡ w
  length_part = length-take-le w (drop at s) (rw length-drop (omega arith))

  bytes-part : T (bytes (take w (drop at s)))
  bytes-part = bytes_take w (drop at s) (bytes_drop at s b)

  pub little_endian-field : little_endian w (field s at w) ≡ take w (drop at s)
  unfolding field
  little_endian-field =
      subst (λ (k : ℕ). little_endian k (number (take w (drop at s))) ≡ take w (drop at s)) length_part (little_endian-number (take w (drop at s)) bytes-part)

  pub field_lt : field s at w < 256 ^ w
  unfolding field
  field_lt = subst (λ (k : ℕ). number (take w (drop at s)) < 256 ^ k) length_part (number_lt (take w (drop at s)) bytes-part)

-- ---- two's complement

-- the sign, by the test that decides it
pub signed_low : (w n : ℕ) → n * 2 < 256 ^ w → signed w n ≡ pos n
unfolding signed
signed_low w n h = rw (true_of (ltb (n * 2) (256 ^ w)) (lt→ltb (n * 2) (256 ^ w) h), signed)

pub signed_high : (w n : ℕ) → 256 ^ w ≤ n * 2 → signed w n ≡ negsuc (256 ^ w - suc n)
unfolding signed
signed_high w n h = rw (denied-of (ltb (n * 2) (256 ^ w)) (le→nltb (n * 2) (256 ^ w) h), signed)

-- a power of 256 is even
even-pow : (w : ℕ) → 0 < w → 256 ^ w ≡ 2 * (128 * 256 ^ (w - 1))
even-pow zero h = let no' : ⊥ = omega arith in absurd no'
even-pow (suc w) h = let e : suc w - 1 ≡ w = omega arith in rw e (omega arith)

-- a signed number that fits w bytes is written in them, and comes back
pub unsigned-lt : (w : ℕ) (z : ℤ) → mag z * 2 < 256 ^ w → unsigned w z < 256 ^ w
unfolding unsigned
unsigned-lt w (pos n) h = omega arith
unsigned-lt w (negsuc n) h = omega arith

pub signed-unsigned : (w : ℕ) (z : ℤ) → 0 < w → mag z * 2 < 256 ^ w → signed w (unsigned w z) ≡ z
unfolding unsigned
signed-unsigned w (pos n) l h = signed_low w n h
signed-unsigned w (negsuc n) l h =
    let e = even-pow w l in
    let back : 256 ^ w - suc (256 ^ w - suc n) ≡ n = omega arith in
    signed_high w (256 ^ w - suc n) (omega arith) ∙ ap negsuc back

-- a number of w bytes stands for one that fits them, and that one is written as the number
module _ (w n : ℕ) (l : n < 256 ^ w) where
  pub mag-signed : mag (signed w n) * 2 < 256 ^ w
  mag-signed =
      decide (ltb (n * 2) (256 ^ w))
      (λ t. let h = ltb→lt (n * 2) (256 ^ w) t in rw (signed_low w n h) h)
      (λ t. let h = nltb→le (n * 2) (256 ^ w) t in rw (signed_high w n h) (omega arith))

  pub unsigned_signed : unsigned w (signed w n) ≡ n
  unfolding unsigned
  unsigned_signed =
      decide (ltb (n * 2) (256 ^ w))
      (λ t. rw (signed_low w n (ltb→lt (n * 2) (256 ^ w) t)))
      (λ t. rw (signed_high w n (nltb→le (n * 2) (256 ^ w) t)) (omega arith))

-- ---- a field, byte by byte

pub field-none : (s : Bytes) (at : ℕ) → field s at 0 ≡ 0
unfolding field number
field-none s at = refl

pub field_next : (s : Bytes) (at w : ℕ) → at < length s → field s at (suc w) ≡ get_or s at 0 + 256 * field s (suc at) w
unfolding field number
field_next s at w h = rw (drop-cons s at 0 h) refl

-- a field of what stands behind a place
pub field-drop : (s : Bytes) (n at w : ℕ) → field (drop n s) at w ≡ field s (n + at) w
unfolding field
field-drop s n at w = ap (λ (l : Bytes). number (take w l)) (drop-drop at n s)

-- one byte, and two
pub field-one : (s : Bytes) (at : ℕ) → at < length s → field s at 1 ≡ get_or s at 0
field-one s at h = omega (arith, field_next s at 0 h, field-none s (suc at))

pub field-two : (s : Bytes) (at : ℕ) → at + 1 < length s → field s at 2 ≡ get_or s at 0 + 256 * get_or s (at + 1) 0
field-two s at h =
    field_next s at 1 (omega arith)
    ∙ ap (λ (x : ℕ). get_or s at 0 + 256 * x) (ap (λ (n : ℕ). field s n 1) (sym (add-one at)) ∙ field-one s (at + 1) h)
