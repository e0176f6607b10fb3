-- A walk over clauses, word by word, a clause closed by 0: the words are counted, stored where the output has room, and judged
-- by the values of the variables. Measuring, writing and judging are the same walk. Assumes nothing.
use Rattle.std.specs.Prelude.{◌≡◌, Bool, false, ◌||◌, cond, ℕ, zero, suc, ◌+◌, ◌*◌, min, List, [], ◌∷◌, length, set, ℤ, pos, negsuc, Option, Some, None, T, leb}
use Rattle.std.specs.Option.{option_or}
use Rattle.std.proofs.Math.Option as maybe
use Rattle.std.specs.Borrow.{MutBor}
use Rattle.spec.specs.Lists.{Bytes, all}
use Rattle.spec.specs.Formula.{Clause, words_of}
use Rattle.spec.specs.Assignment.{is_true, holds, assigned, first_false}
use Rattle.spec.specs.Refutation.{variable_of}
use Rattle.clauses.specs.declared.Tally.{Tally}
use Rattle.clauses.specs.declared.Walk.{Walk}

-- variables are numbered below this, so that each literal is an i32
abbrev pub literal_room : ℕ
literal_room = 1000000000

-- at most so many variables are paired with each other; a train's are 257
abbrev pub paired_most : ℕ
paired_most = 1000000

-- the counters stop at 2^60; no formula is as long
abbrev pub most : ℕ
most = 1152921504606846976

unfoldable pub more : ℕ → ℕ → ℕ
more n k = min most (n + k)

-- before the first clause
unfoldable pub start : Tally
start = record { words = 0; clauses = 0; holds = false; wrong = None }

-- after a literal: whether the clause holds so far
unfoldable pub literal : Bytes → ℤ → Tally → Tally
literal values l w = record
    { words = more w.words 1; clauses = w.clauses; holds = w.holds || is_true (assigned values) l; wrong = w.wrong }

-- after n words, of which the last closes a clause, which holds or not: the first clause that does not hold is kept
unfoldable pub closed_by : ℕ → Bool → Tally → Tally
closed_by n h w = record {
  words = more w.words n;
  clauses = more w.clauses 1;
  holds = false;
  wrong = cond h w.wrong (option_or w.wrong (Some (more w.clauses 1)));
}

-- after a clause's closing 0
unfoldable pub closed : Tally → Tally
closed w = closed_by 1 w.holds w

unfoldable pub word : Bytes → ℤ → Tally → Tally
word values (pos zero) w = closed w
word values (pos (suc v)) w = literal values (pos (suc v)) w
word values (negsuc v) w = literal values (negsuc v) w

-- the walk after words
unfoldable pub walked : Bytes → List ℤ → Tally → Tally
walked values [] w = w
walked values (l ∷ ls) w = walked values ls (word values l w)

-- the output after words that were stored from `at` on, as far as it has room
unfoldable pub stored : ℕ → List ℤ → List ℤ → List ℤ
stored at [] out = out
stored at (l ∷ ls) out = stored (more at 1) ls (set out at l)

-- the walk after k clauses of two literals that hold
unfoldable pub skipped : ℕ → Tally → Tally
skipped zero w = w
skipped (suc k) w = record
    { words = more w.words (3 * suc k); clauses = more w.clauses (suc k); holds = false; wrong = w.wrong }

-- What the words of a walk come to: its tally, and the output.
pub record Walks (values : Bytes) (ls : List ℤ) (w : Tally) (out : List ℤ) (w' : Tally) (out' : List ℤ) : Type 0 where
  pub walk : w' ≡ walked values ls w
  pub output : out' ≡ stored w.words ls out

-- a walk that begins, by these values and into this output
pub record Begins (values : Bytes) (out : MutBor (List ℤ)) (w : Walk) : Type 0 where
  pub same_output : w.out.ghost_name ≡ out.ghost_name
  pub same_values : w.values.now ≡ values
  pub output : w.out.now ≡ out.now
  pub tally : w.tally ≡ start

-- What a function over clauses promises: the walk has passed these words, and is still by its values and into its output.
pub record Passes (ls : List ℤ) (w w' : Walk) : Type 0 where
  pub same_output : w'.out.ghost_name ≡ w.out.ghost_name
  pub same_values : w'.values.now ≡ w.values.now
  pub walks : Walks w.values.now ls w.tally w.out.now w'.tally w'.out.now

-- literals, none of them the 0 behind a clause, and whether one of them is true
pub record Judged (values : Bytes) (ls : Clause) (h : Bool) : Type 0 where
  pub proper : T (all (λ l. leb 1 (variable_of l)) ls)
  pub judged : h ≡ holds (assigned values) ls

-- ---- a walk over whole clauses

-- the first clause that does not hold, as the code tells it
unfoldable pub first_told : maybe.Option ℕ → Option ℕ
first_told maybe.none = None
first_told (maybe.some n) = Some n

-- the totals of clauses, and the first of them that does not hold
unfoldable pub totals : Bytes → List Clause → Tally
totals values cs = record {
  words = length (words_of cs);
  clauses = length cs;
  holds = false;
  wrong = first_told (first_false (assigned values) 1 cs);
}
