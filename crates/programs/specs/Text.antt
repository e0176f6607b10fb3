-- The formula's text word by word, as a buffer is filled with it: a literal is its figures and a blank, the 0 behind a clause ends
-- the line. That this is the specification's text is a lemma. Assumes nothing.
use Rattle.std.specs.Prelude.{ℕ, zero, suc, ◌-◌, true, false, List, [], ◌∷◌, ◌++◌, length, ℤ, pos, negsuc, leb}
use Rattle.spec.specs.Lists.{Bytes, each, one}
use Rattle.spec.specs.Numbers.{decimal, decimal_z}
use Rattle.spec.specs.Formula.{dimacs_opening}

-- the text of a word
unfoldable pub word_text : ℤ → Bytes
word_text (pos zero) = 48 ∷ one 10
word_text (pos (suc v)) = decimal_z (pos (suc v)) ++ one 32
word_text (negsuc v) = decimal_z (negsuc v) ++ one 32

unfoldable pub words_text : List ℤ → Bytes
words_text ls = each ls word_text

-- no word of 32 bits has more bytes than this
abbrev pub longest_word : ℕ
longest_word = 24

-- how many of the words go into a buffer with so much room: each while the longest word would fit
unfoldable pub taken : ℕ → List ℤ → ℕ
taken room [] = 0
taken room (l ∷ ls) = elim (leb longest_word room) [ true ↦ suc (taken (room - length (word_text l)) ls) | false ↦ 0 ]

-- the line ahead of the clauses: the opening and the two totals
unfoldable pub header_text : ℕ → ℕ → Bytes
header_text variables clauses = dimacs_opening ++ (decimal variables ++ (32 ∷ (decimal clauses ++ one 10)))
