-- A buffer that is filled with words' text, a word at a time while the longest would fit. Assumes nothing.
use mathlib.Core.Path.{◌≡◌, refl, ap, ◌∙◌}
use mathlib.Core.Bool.{Bool, true, false}
use mathlib.Core.Logic.{◌⊎◌, inl, inr}
use Prim.Native.Nat.{ℕ, suc, ◌+◌, ◌-◌, ◌≤◌, ◌<◌}
use native.Mathlib.Nat.{zero-add}
use native.Mathlib.Numerals.{add-one}
use native.Mathlib.Omega.{arith}
use mathlib.Core.List.{List, [], ◌∷◌, ◌++◌, append-nil}
use lib.ListN.{length, get_or, take, drop, length-drop, drop_of_length-le}
use lib.Seq.{sets, take-suc, drop-cons, get_or-drop}
use lib.IntN.{ℤ}
use borrow.Author.Tests.{lt-leb, le-leb}
use Rattle.spec.specs.Lists.{Bytes, one, each}
use Rattle.laws.proofs.Parts.{each_append}
use Rattle.programs.specs.Text.{word_text, words_text, taken}
use Rattle.laws.proofs.Stores.{Stored, stored-none, stored-behind, stored_same}

-- ---- how many words are taken

pub taken_none : (room : ℕ) (ls : List ℤ) → room < 24 → taken room ls ≡ 0
unfolding taken
taken_none room [] h = refl
taken_none room (l ∷ ls) h =
    ap (λ (b : Bool). elim b [ true ↦ suc (taken (room - length (word_text l)) ls) | false ↦ 0 ]) (lt-leb 24 room h)

pub taken_next : (room : ℕ) (l : ℤ) (ls : List ℤ) → 24 ≤ room → taken room (l ∷ ls) ≡ suc (taken (room - length (word_text l)) ls)
unfolding taken
taken_next room l ls h =
    ap (λ (b : Bool). elim b [ true ↦ suc (taken (room - length (word_text l)) ls) | false ↦ 0 ]) (le-leb 24 room h)

-- ---- the text of one word more

words-next : (ls : List ℤ) (k : ℕ) (d : ℤ) → k < length ls → words_text (take (suc k) ls) ≡ words_text (take k ls) ++ word_text (get_or ls k d)
unfolding words_text each
words-next ls k d h =
    ap (λ (xs : List ℤ). each xs word_text) (take-suc ls k d h)
    ∙ each_append (take k ls) (one (get_or ls k d)) word_text
    ∙ ap (λ (s : Bytes). each (take k ls) word_text ++ s) (append-nil (word_text (get_or ls k d)))

-- ---- a buffer under way

-- the words from `from` up to `next` stand in the buffer, and those that are still taken of the others go into the room that is left
pub record Filled (old : Bytes) (words : List ℤ) (from : ℕ) (buf : Bytes) (next len : ℕ) : Type 0 where
  pub after : from ≤ next
  pub within : next ≤ length words
  pub room : len ≤ length old
  pub text : Stored old 0 (words_text (take (next - from) (drop from words))) buf len
  pub rest : taken (length old) (drop from words) ≡ next - from + taken (length old - len) (drop next words)

pub filled_none : (old : Bytes) (words : List ℤ) (from : ℕ) → from ≤ length words → Filled old words from old from 0
unfolding words_text each
filled_none old words from h =
    let e : from - from ≡ 0 = omega arith in
    let r : length old - 0 ≡ length old = omega arith in
    record {
      after = omega arith;
      within = h;
      room = omega arith;
      text = rw e (stored-none old 0);
      rest = rw (e, r) (omega arith);
    }

module _ {old : Bytes} {words : List ℤ} {from : ℕ} {buf : Bytes} {next len : ℕ} (f : Filled old words from buf next len) where
  -- the next word is the first of those left
  word_next : (d : ℤ) → next < length words
      → words_text (take (next - from) (drop from words)) ++ word_text (get_or words next d)
      ≡ words_text (take (next + 1 - from) (drop from words))
  word_next d more =
      let e : next + 1 - from ≡ suc (next - from) = omega (arith, f.after) in
      let k : next - from < length (drop from words) = rw length-drop (omega (arith, f.after)) in
      let back : from + (next - from) ≡ next = omega (arith, f.after) in
      rw (e, words-next (drop from words) (next - from) d k, get_or-drop, back)

  rest-next : (d : ℤ) {end : ℕ} → next < length words → 24 ≤ length old - len → end ≡ len + length (word_text (get_or words next d))
      → taken (length old - len) (drop next words) ≡ suc (taken (length old - end) (drop (next + 1) words))
  rest-next d {end} more fits e =
      let less : length old - len - length (word_text (get_or words next d)) ≡ length old - end = omega arith in
      rw (drop-cons words next d more, taken_next (length old - len) (get_or words next d) (drop (suc next) words) fits, less, add-one)

  -- a turn: one word more
  pub filled_next : (d : ℤ) {after : Bytes} {end : ℕ} → next < length words → 24 ≤ length old - len
      → Stored buf len (word_text (get_or words next d)) after end → end ≤ len + 24 → Filled old words from after (next + 1) end
  filled_next d {after} {end} more fits s most = record {
    after = omega (arith, f.after);
    within = omega arith;
    room = omega arith;
    text = stored_same (stored-behind f.text s) (word_next d more);
    rest = omega (arith, f.after, f.rest, rest-next d more fits s.ends);
  }

  -- no word is left, or the longest would not fit
  module _ (h : (length words ≤ next) ⊎ (length old - len < 24)) where
    counted : next - from ≡ taken (length old) (drop from words)
    unfolding taken
    counted = omega (arith, f.rest, none h)
      where
        none : (length words ≤ next) ⊎ (length old - len < 24) → taken (length old - len) (drop next words) ≡ 0
        none (inl k) = ap (taken (length old - len)) (drop_of_length-le words k)
        none (inr k) = taken_none (length old - len) (drop next words) k

    pub filled-end : (next ≡ from + taken (length old) (drop from words))
        × (len ≡ length (words_text (take (taken (length old) (drop from words)) (drop from words))))
        × (len ≤ length old)
        × (buf ≡ sets old 0 (words_text (take (taken (length old) (drop from words)) (drop from words))))
    filled-end =
        let s = stored_same f.text (ap (λ (k : ℕ). words_text (take k (drop from words))) counted) in
        (omega (arith, counted, f.after), s.ends ∙ zero-add _, f.room, s.bytes)
