-- Lists of four-byte numbers: how many there are, which field each one is, and what a test over those that are left becomes after
-- one of them. Assumes nothing.
use mathlib.Core.Path.{◌≡◌, refl, ap, ◌∙◌}
use mathlib.Core.Bool.{true, ◌&&◌}
use Prim.Native.Nat.{ℕ, suc, ◌+◌, ◌*◌, ◌≤◌, ◌<◌}
use native.Mathlib.Numerals.{add-one}
use native.Mathlib.Omega.{arith}
use lib.ListN.{length, get_or, drop, length-map, drop_of_length-le, get_or-map}
use lib.Seq.{drop-cons}
use lib.IntN.{ℤ, pos}
use lib.Dec.{ltb, leb}
use Rattle.spec.specs.Frames.{number_width}
use Rattle.spec.specs.Lists.{Bytes, up_to}
use Rattle.spec.specs.Numbers.{field, signed}
use Rattle.spec.specs.Formula.{Clause}
use Rattle.spec.specs.Refutation.{variable_of, rises_from}
use Rattle.laws.proofs.Numbers.{field_next, field-two}
use Rattle.laws.proofs.Parts.{length-up_to, map_at}
use Rattle.refutation_file.specs.Numbers.{number_count, numbers_in, literals_in}

-- a field of four bytes is two of two
pub field-four : (s : Bytes) (at : ℕ) → at + 4 ≤ length s → field s at 4 ≡ field s at 2 + 65536 * field s (at + 2) 2
field-four s at h =
    let one_on : at + 1 ≡ suc at = omega arith in
    let two-on : at + 2 ≡ suc (suc at) = omega arith in
    let all_but_one = field_next s (suc at) 2 (omega arith) in
    rw (field_next s at 3 (omega arith), all_but_one, field-two s at (omega arith), one_on, two-on) (omega arith)

-- how many numbers and literals there are
pub numbers-length : (list : Bytes) → length (numbers_in list) ≡ number_count list
unfolding numbers_in
numbers-length list = length-map (up_to (number_count list)) (λ i. field list (number_width * i) number_width) ∙ length-up_to (number_count list)

pub literals-length : (list : Bytes) → length (literals_in list) ≡ number_count list
unfolding literals_in
literals-length list = length-map (numbers_in list) (signed number_width) ∙ numbers-length list

-- a number is a field
pub number_of : (list : Bytes) (i : ℕ) → i < number_count list → get_or (numbers_in list) i 0 ≡ field list (number_width * i) number_width
unfolding numbers_in
number_of list i h = map_at (λ i. field list (number_width * i) number_width) (number_count list) i 0 h

-- and a literal is what a number stands for
pub literal-of : (list : Bytes) (i : ℕ) → get_or (literals_in list) i (pos 0) ≡ signed number_width (get_or (numbers_in list) i 0)
unfolding literals_in signed
literal-of list i = get_or-map (signed number_width) (numbers_in list) i 0

-- the literals that are left: one, and those behind it
module _ (vars low i : ℕ) (ls : Clause) where
  pub rises_next : (l : ℤ) → l ≡ get_or ls i (pos 0) → i < length ls
      → rises_from vars low (drop i ls)
      ≡ (ltb low (variable_of l) && leb (variable_of l) vars && rises_from vars (variable_of l) (drop (i + 1) ls))
  unfolding rises_from
  rises_next l e h = rw (add-one, drop-cons ls i (pos 0), e) refl

  pub rises-end : length ls ≤ i → rises_from vars low (drop i ls) ≡ true
  unfolding rises_from
  rises-end h = ap (rises_from vars low) (drop_of_length-le ls h)
