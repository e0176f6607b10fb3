-- The formula's text is the line ahead of the clauses and the text of its words (`text-words`); and the words' text comes in pieces,
-- each of at least one word where there is room for the longest (`text-pieces`, `taken-some`). Assumes nothing.
use mathlib.Core.Path.{◌≡◌, refl, sym, ap, ap₂, ◌∙◌}
use mathlib.Core.Logic.{⊎_elim}
use Prim.Native.Nat.{ℕ, zero, suc, ◌-◌, ◌≤◌}
use native.Mathlib.Omega.{arith}
use mathlib.Core.List.{List, [], ◌∷◌, ◌++◌, append_assoc}
use lib.ListN.{length, take, drop, take-append-drop}
use lib.IntN.{ℤ, pos, negsuc}
use lib.Dec.{T, leb}
use Rattle.spec.specs.Lists.{Bytes, all, each, one}
use Rattle.spec.specs.Numbers.{decimal_z}
use Rattle.spec.specs.Formula.{Clause, words_of, dimacs_line, dimacs_text}
use Rattle.spec.specs.Refutation.{variable_of}
use Rattle.laws.proofs.Tests.{and-iff, le-or-lt}
use Rattle.laws.proofs.Rows.{all_cons}
use Rattle.laws.proofs.Parts.{each_append}
use Rattle.demands.proofs.Words.{proper}
use Rattle.programs.specs.Text.{word_text, words_text, taken, header_text}
use Rattle.programs.proofs.Pieces.{taken_none, taken_next}

-- ---- the formula's text

-- a word that is no 0
literal : (l : ℤ) → T (leb 1 (variable_of l)) → decimal_z l ++ one 32 ≡ word_text l
unfolding word_text variable_of
literal (pos zero) h = absurd h
literal (pos (suc v)) h = refl
literal (negsuc v) h = refl

-- a clause's line
line : (c : Clause) → T (all (λ l. leb 1 (variable_of l)) c) → dimacs_line c ≡ words_text (c ++ one (pos 0))
unfolding dimacs_line words_text word_text each
line [] h = refl
line (l ∷ c) h =
    let k = simp (all_cons, and-iff) at h in
    append_assoc (decimal_z l ++ one 32) (each c λ m. decimal_z m ++ one 32) (48 ∷ one 10)
    ∙ ap₂ (λ (s t : Bytes). s ++ t) (literal l k.0) (line c k.1)

lines : (cs : List Clause) → T (proper cs) → each cs dimacs_line ≡ words_text (words_of cs)
unfolding words_of words_text each
lines [] h = refl
lines (c ∷ cs) h =
    let k = simp (all_cons, and-iff) at h in
    ap₂ (λ (s t : Bytes). s ++ t) (line c k.0) (lines cs k.1) ∙ sym (each_append (c ++ one (pos 0)) (words_of cs) word_text)

pub text-words : (vars : ℕ) (cs : List Clause) → T (proper cs) → dimacs_text vars cs ≡ header_text vars (length cs) ++ words_text (words_of cs)
unfolding dimacs_text header_text
text-words vars cs h = simp (append_assoc, lines cs h)

-- ---- in pieces

pub text-pieces : (room : ℕ) (ls : List ℤ) → words_text ls ≡ words_text (take (taken room ls) ls) ++ words_text (drop (taken room ls) ls)
unfolding words_text
text-pieces room ls =
    ap (λ (xs : List ℤ). each xs word_text) (sym (take-append-drop (taken room ls) ls))
    ∙ each_append (take (taken room ls) ls) (drop (taken room ls) ls) word_text

-- each piece makes progress
pub taken-some : (room : ℕ) (l : ℤ) (ls : List ℤ) → 24 ≤ room → 1 ≤ taken room (l ∷ ls)
taken-some room l ls h = omega (arith, taken_next room l ls h)

pub taken-le : (room : ℕ) (ls : List ℤ) → taken room ls ≤ length ls
unfolding taken
taken-le room [] = omega arith
taken-le room (l ∷ ls) =
    ⊎_elim
    (λ h. omega (arith, taken_next room l ls h, taken-le (room - length (word_text l)) ls))
    (λ h. omega (arith, taken_none room (l ∷ ls) h))
    (le-or-lt 24 room)

-- two numbers on a line
pub in-line : (front a b : Bytes) → (((front ++ a) ++ one 32) ++ b) ++ one 10 ≡ front ++ (a ++ (32 ∷ (b ++ one 10)))
in-line front a b = simp append_assoc
