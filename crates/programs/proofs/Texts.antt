-- The line and the words that are printed are together the specification's text: of a book that is too long (`long-text`), of a
-- refusal (`refusal-text`), and of a formula that was written (`formula-text`). Assumes nothing.
use mathlib.Core.Path.{◌≡◌, refl, sym, ap, ap₂, ◌∙◌, subst}
use mathlib.Core.Bool.{Bool, true, false}
use mathlib.Core.Option.{Option}
use Prim.Native.Nat.{ℕ, zero, suc, ◌+◌, ◌≤◌, ◌<◌}
use native.Mathlib.Nat.{zero-add}
use native.Mathlib.Omega.{arith}
use mathlib.Core.List.{List, [], ◌∷◌, ◌++◌, append-nil}
use lib.ListN.{length, take, drop, length-drop}
use lib.IntN.{ℤ}
use lib.Dec.{T, leb}
use lib.Seq.{sets, length-sets, sets-eq, take-append_seam}
use Rattle.spec.specs.Lists.{Bytes, Verdict, accepted, refused, and_then, each}
use Rattle.spec.specs.Book.{Book}
use Rattle.spec.specs.Read.{read_book}
use Rattle.spec.specs.Instance.{Instance, instance_of, under}
use Rattle.spec.specs.Formula.{formula, variables, words_of, dimacs_text}
use Rattle.spec.specs.Entry.{Written, demand, read_under, formula_written, written_for, write_formula, words_after, formula_text, formula_output, overwrite, written}
use Rattle.spec.specs.Programs.{unless_long, printed, refusal_line}
use Rattle.laws.proofs.Tests.{leb-iff}
use Rattle.demands.proofs.Entries.{then-accepted, then-goes, demand-iff, instance-read, read-instance, read_under_lem}
use Rattle.demands.proofs.Reading.{read-well-formed}
use Rattle.demands.proofs.Wellformed.{sound, sound-under}
use Rattle.demands.proofs.Words.{formula-in-range, range-proper, proper}
use Rattle.programs.specs.Text.{words_text, taken, header_text}
use Rattle.programs.proofs.Text.{text-words, taken-some, taken-le}
use Rattle.programs.proofs.FormulaProgram.{is-long, not-long}

-- ---- the line

-- text that was stored at the front of a line stands there
module _ (old text : Bytes) (full : length old ≡ 64) {n : ℕ} (e : n ≡ length text) (few : n ≤ 60) {new : Bytes}
    (s : new ≡ sets old 0 text) where
  front : new ≡ text ++ drop (length text) old
  front = s ∙ sets-eq text old 0 (omega (arith, full, e, few)) ∙ ap (λ (k : ℕ). text ++ drop k old) (zero-add (length text))

  pub line-front : take n new ≡ text
  line-front = ap₂ (λ (k : ℕ) (l : Bytes). take k l) e front ∙ take-append_seam text (drop (length text) old)

-- ---- a piece of the words

-- the buffer that it is put into stays as long as it was
pub piece-long : (buf : Bytes) (ls : List ℤ) {new : Bytes} {n : ℕ} → new ≡ sets buf 0 (words_text (take (taken (length buf) ls) ls))
    → length buf ≡ n → length new ≡ n
piece-long buf ls e h = ap length e ∙ length-sets buf 0 (words_text (take (taken (length buf) ls) ls)) ∙ h

-- ---- a book that is too long, and the words of one that is not

pub long-text : {long : Bool} (v : Verdict Bytes) → long ≡ true → refusal_line 12 0 ++ words_text [] ≡ printed (λ t. t) (unless_long long v)
unfolding printed words_text each
long-text v h = append-nil (refusal_line 12 0) ∙ ap (λ (u : Verdict Bytes). printed (λ (t : Bytes). t) u) (sym (is-long v h))

pub long-words : {long : Bool} (old : List ℤ) (v : Verdict Written) → long ≡ true → old ≡ words_after old (unless_long long v)
unfolding words_after and_then written overwrite
long-words old v h = ap (words_after old) (sym (is-long v h))

pub output-words : {long : Bool} (cap : Option ℕ) (s : Bytes) (old : List ℤ) → long ≡ false
    → formula_output cap s old ≡ words_after old (unless_long long (write_formula cap s (length old)))
unfolding formula_output
output-words cap s old h = ap (words_after old) (sym (not-long (write_formula cap s (length old)) h))

-- ---- a refusal

pub refusal-text : (cap : Option ℕ) (s : Bytes) (room : ℕ) {n d : ℕ} → write_formula cap s room ≡ refused n d
    → refusal_line n d ++ words_text [] ≡ printed (λ t. t) (formula_text cap s room)
unfolding formula_text and_then printed words_text each
refusal-text cap s room {n} {d} e =
    append-nil (refusal_line n d)
    ∙ ap (λ (v : Verdict Written). printed (λ (t : Bytes). t) (and_then v λ _. text_of s)) (sym e)
  where
    text_of : Bytes → Verdict Bytes
    text_of s = and_then (read_under cap s) λ I. accepted (dimacs_text (variables I) (formula I))

-- ---- a formula

written-book : (cap : Option ℕ) (s : Bytes) (room : ℕ) (w : Written) → write_formula cap s room ≡ accepted w
    → (b : Book) × (read_book s ≡ accepted b) × (w ≡ formula_written (under cap (instance_of b)))
    × (length (words_of (formula (under cap (instance_of b)))) ≤ room)
unfolding write_formula written_for
written-book cap s room w e =
    let k = then-accepted (read_under cap s) _ w e in
    let r = instance-read (λ b. under cap (instance_of b)) s k.0 (sym (read_under_lem cap s) ∙ k.1) in
    let j = then-accepted (demand (leb (length (words_of (formula k.0))) room) 12) _ w k.2 in
    let fits = (leb-iff _ room).0 ((demand-iff _ 12).0 j.1) in
    let same : w ≡ formula_written (under cap (instance_of r.0)) = cc in
    (r.0, r.1, same, subst (λ (I : Instance). length (words_of (formula I)) ≤ room) r.2 fits)

module _ (cap : Option ℕ) (s : Bytes) (old : List ℤ) (w : Written) (e : write_formula cap s (length old) ≡ accepted w) where
  abbrev I : Instance
  I = under cap (instance_of (written-book cap s (length old) w e).0)

  abbrev words : List ℤ
  words = words_of (formula I)

  is-proper : T (proper (formula I))
  is-proper =
      let b = written-book cap s (length old) w e in
      range-proper (variables I) (formula I) (formula-in-range I (sound-under cap (sound b.0 (read-well-formed s b.0 b.1))))

  is-written : w ≡ formula_written I
  is-written = (written-book cap s (length old) w e).2

  -- the text that the program prints
  text-is : formula_text cap s (length old) ≡ accepted (dimacs_text (variables I) (formula I))
  unfolding formula_text
  text-is =
      then-goes _ e ∙ then-goes _ (read-instance cap s (written-book cap s (length old) w e).0 (written-book cap s (length old) w e).1)

  output-is : formula_output cap s old ≡ overwrite old words
  unfolding formula_output words_after and_then written formula_written
  output-is =
      ap (λ (v : Verdict Written). overwrite old (written (and_then v λ w. accepted w.words))) e
      ∙ ap (λ (w : Written). overwrite old w.words) is-written

  count-is : w.word_count ≡ length words
  unfolding formula_written
  count-is = ap (λ (w : Written). w.word_count) is-written

  pub count_fits : w.word_count ≤ length old
  count_fits = omega (arith, count-is, (written-book cap s (length old) w e).3)

  output-front : take w.word_count (formula_output cap s old) ≡ words
  unfolding overwrite
  output-front =
      ap₂ (λ (n : ℕ) (l : List ℤ). take n l) count-is output-is ∙ take-append_seam words (drop (length words) old)

  header_is : header_text w.variable_count w.clause_count ≡ header_text (variables I) (length (formula I))
  unfolding formula_written
  header_is = ap (λ (w : Written). header_text w.variable_count w.clause_count) is-written

  pub formula-text : header_text w.variable_count w.clause_count ++ words_text (take w.word_count (formula_output cap s old))
      ≡ printed (λ t. t) (formula_text cap s (length old))
  unfolding printed
  formula-text =
      ap₂ (λ (h : Bytes) (ls : List ℤ). h ++ words_text ls) header_is output-front
      ∙ sym (text-words (variables I) (formula I) is-proper)
      ∙ ap (λ (v : Verdict Bytes). printed (λ (t : Bytes). t) v) (sym text-is)

-- ---- the words' text in pieces

-- each piece has a word, where there is one
pub piece-some : (room : ℕ) (ls : List ℤ) (from : ℕ) → 24 ≤ room → from < length ls → 1 ≤ taken room (drop from ls)
piece-some room [] from h l = let no' : ⊥ = omega (arith, l) in absurd no'
piece-some room (x ∷ ls) zero h l = taken-some room x ls h
piece-some room (x ∷ ls) (suc from) h l = piece-some room ls from h (omega (arith, l))

pub piece-le : (room : ℕ) (ls : List ℤ) (from : ℕ) → from ≤ length ls → from + taken room (drop from ls) ≤ length ls
piece-le room ls from h = omega (arith, h, taken-le room (drop from ls), length-drop from ls)
