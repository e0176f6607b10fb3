-- What is printed of a book's formula, in two parts: the first line, and how many words' text follow it. Assumes nothing.
use Rattle.std.specs.Prelude.{ℕ}
use Rattle.spec.specs.Lists.{Bytes, Verdict, accepted, refused}
use Rattle.spec.specs.Entry.{Written}
use Rattle.spec.specs.Programs.{refusal_line}
use Rattle.programs.specs.Text.{header_text}

-- the line ahead of the clauses, or the line of the refusal
abbrev pub first_line : Verdict Written → Bytes
first_line (accepted w) = header_text w.variable_count w.clause_count
first_line (refused n d) = refusal_line n d

-- the words behind it
abbrev pub words_behind : Verdict Written → ℕ
words_behind (accepted w) = w.word_count
words_behind (refused n d) = 0
