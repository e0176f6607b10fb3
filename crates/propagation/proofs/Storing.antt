-- A row that is stored in a slice from a place on, element by element: where the loop starts, its next store, and what it leaves.
-- Assumes nothing.
use mathlib.Core.Path.{◌≡◌, refl, sym, ap, ap₂, ◌∙◌}
use Prim.Native.Nat.{ℕ, ◌+◌, ◌≤◌, ◌<◌}
use native.Mathlib.Nat.{zero-add}
use native.Mathlib.Numerals.{add-one}
use native.Mathlib.Omega.{arith}
use mathlib.Core.List.{List, ◌++◌}
use lib.ListN.{length, get_or, take, drop, set, length-set, length-replicate}
use lib.Seq.{sets, sets-eq, paste, paste-zero, paste-suc, take_all}
use Rattle.spec.specs.Entry.{zeroed}

module _ {ℓ} {A : Type ℓ} where
  -- the first i elements of a row were stored in `old` from `at` on, which gives `new`
  pub record Stored (old : List A) (at : ℕ) (row new : List A) (i : ℕ) : Type ℓ where
    pub most : i ≤ length row
    pub fits : at + length row ≤ length old
    pub size : length new ≡ length old
    pub elements : new ≡ paste old at row i

  -- before the first store
  pub stored-start : (old : List A) (at : ℕ) (row : List A) → at + length row ≤ length old → Stored old at row old 0
  stored-start old at row h = record { most = omega arith; fits = h; size = refl; elements = paste-zero old at row }

  module _ {old row new : List A} {at i : ℕ} where
    -- the next element is stored
    pub stored_next : {x : A} (d : A) → Stored old at row new i → i < length row → x ≡ get_or row i d
        → Stored old at row (set new (at + i) x) (i + 1)
    stored_next {x} d s l e = record {
      most = omega arith;
      fits = s.fits;
      size = length-set new (at + i) x ∙ s.size;
      elements =
          ap₂ (λ (n : List A) (y : A). set n (at + i) y) s.elements e
          ∙ paste-suc old at row i d (omega (arith, s.fits)) l
          ∙ ap (paste old at row) (sym (add-one i));
    }

    -- after the last
    pub stored-done : Stored old at row new i → length row ≤ i → new ≡ sets old at row
    stored-done s h =
        let e : i ≡ length row = omega (arith, s.most) in
        s.elements
        ∙ ap (paste old at row) e
        ∙ ap (λ (r : List A). take at old ++ r ++ drop (at + length row) old) (take_all (length row) row (omega arith))
        ∙ sym (sets-eq row old at s.fits)

  -- the next element of a row that is stored from the front on
  pub stored-front : {old row new : List A} {i : ℕ} {x : A} (d : A) → Stored old 0 row new i → i < length row → x ≡ get_or row i d
      → Stored old 0 row (set new i x) (i + 1)
  stored-front {i = i} d s l e = rw zero-add at (stored_next d s l e)

-- as many zeroes as asked for
pub length-zeroed {ℓ} : {A : Type ℓ} (z : A) (n : ℕ) → length (zeroed z n) ≡ n
unfolding zeroed
length-zeroed z n = length-replicate n z
