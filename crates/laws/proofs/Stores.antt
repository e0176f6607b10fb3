-- Stores in a row: what they leave in a list, and bytes that are stored in a buffer from a place on, behind bytes that were.
-- Assumes nothing.
use mathlib.Core.Path.{◌≡◌, refl, sym, ap, ap₂, ◌∙◌}
use Prim.Native.Nat.{ℕ, zero, suc, ◌+◌, ◌≤◌, ◌<◌}
use native.Mathlib.Nat.{zero-add, add-zero, add-suc, suc-add}
use native.Mathlib.Omega.{arith}
use mathlib.Core.List.{List, [], ◌∷◌, ◌++◌}
use lib.ListN.{length, get_or, drop, set, length-append, length-set}
use lib.Seq.{sets, sets-eq, length-sets, get_or-set_same, get_or-set_other}
use Rattle.spec.specs.Lists.{Bytes, one}
use Rattle.spec.specs.Entry.{overwrite}

module _ {ℓ} {A : Type ℓ} where
  pub sets-append : (l : List A) (i : ℕ) (us vs : List A) → sets l i (us ++ vs) ≡ sets (sets l i us) (i + length us) vs
  sets-append l i [] vs = simp add-zero
  sets-append l i (u ∷ us) vs = sets-append (set l i u) (suc i) us vs ∙ simp (add-suc, suc-add)

  -- what lies before them is as it was
  pub get_or-sets-below : (l : List A) (i : ℕ) (vs : List A) (k : ℕ) (d : A) → k < i → get_or (sets l i vs) k d ≡ get_or l k d
  get_or-sets-below l i [] k d h = refl
  get_or-sets-below l i (v ∷ vs) k d h =
      get_or-sets-below (set l i v) (suc i) vs k d (omega arith) ∙ get_or-set_other l i k v d (omega arith)

  -- what they stored is there
  pub get_or-sets-in : (l : List A) (i : ℕ) (vs : List A) (j : ℕ) (d : A) → j < length vs → i + length vs ≤ length l
      → get_or (sets l i vs) (i + j) d ≡ get_or vs j d
  get_or-sets-in l i [] j d h k = let no' : ⊥ = omega arith in absurd no'
  get_or-sets-in l i (v ∷ vs) zero d h k =
      simp add-zero (get_or-sets-below (set l i v) (suc i) vs i d (omega arith) ∙ get_or-set_same l i v d (omega arith))
  get_or-sets-in l i (v ∷ vs) (suc j) d h k =
      simp (add-suc, ← suc-add) (get_or-sets-in (set l i v) (suc i) vs j d (omega arith) (rw length-set (omega arith)))

-- from the start on
pub stored-first : (old new : Bytes) → length new ≤ length old → sets old 0 new ≡ overwrite old new
unfolding overwrite
stored-first old new h = sets-eq new old 0 (omega arith) ∙ ap (λ (n : ℕ). new ++ drop n old) (zero-add (length new))

-- ---- bytes in a buffer

-- the text stands in the buffer from `at` on, and ends there
pub record Stored (old : Bytes) (at : ℕ) (text buf : Bytes) (end : ℕ) : Type 0 where
  pub ends : end ≡ at + length text
  pub bytes : buf ≡ sets old at text

pub stored-none : (old : Bytes) (at : ℕ) → Stored old at [] old at
stored-none old at = record { ends = sym (add-zero at); bytes = refl }

-- what a callee ensures
pub stored : (old : Bytes) (at : ℕ) (text : Bytes) {buf : Bytes} {end : ℕ} → end ≡ at + length text → buf ≡ sets old at text
    → Stored old at text buf end
stored old at text e s = record { ends = e; bytes = s }

module _ {old : Bytes} {at : ℕ} {text buf : Bytes} {end : ℕ} (s : Stored old at text buf end) where
  pub stored-behind : {more after : Bytes} {next : ℕ} → Stored buf end more after next → Stored old at (text ++ more) after next
  stored-behind {more} k = record {
    ends = omega (arith, k.ends, s.ends, length-append text more);
    bytes =
        k.bytes
        ∙ ap₂ (λ (b : Bytes) (n : ℕ). sets b n more) s.bytes s.ends
        ∙ sym (sets-append old at text more);
  }

  -- one byte more
  pub stored-byte : (x : ℕ) {after : Bytes} → after ≡ set buf end x → Stored old at (text ++ one x) after (end + 1)
  stored-byte x e = stored-behind (record { ends = refl; bytes = e })

  -- the text under another name
  pub stored_same : {whole : Bytes} → text ≡ whole → Stored old at whole buf end
  stored_same e = record { ends = s.ends ∙ ap (λ (t : Bytes). at + length t) e; bytes = s.bytes ∙ ap (sets old at) e }

  -- the buffer and the place under other names
  pub stored-now : {after : Bytes} {next : ℕ} → next ≡ end → after ≡ buf → Stored old at text after next
  stored-now n b = record { ends = n ∙ s.ends; bytes = b ∙ s.bytes }

  pub stored-length : length buf ≡ length old
  stored-length = ap length s.bytes ∙ length-sets old at text
