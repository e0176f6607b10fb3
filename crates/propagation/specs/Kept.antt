-- The clauses that hints may name, as slices hold them: their words, each clause closed by 0, and where each begins, so that a
-- clause is found by its number. Assumes nothing.
use Rattle.std.specs.Prelude.{◌≡◌, ℕ, ◌+◌, List, [], ◌∷◌, length, ℤ, T}
use Rattle.spec.specs.Formula.{Clause, words_of}
use Rattle.spec.specs.Refutation.{clauses_of, in_range}

-- where each clause begins, the first at `at`
unfoldable pub starts_from : ℕ → List Clause → List ℕ
starts_from at [] = []
starts_from at (c ∷ cs) = at ∷ starts_from (at + (length c + 1)) cs

-- These words are clauses over so many variables, and these numbers say where each begins.
pub record Kept (variables : ℕ) (words : List ℤ) (starts : List ℕ) : Type 0 where
  pub closed : words ≡ words_of (clauses_of words)
  pub starting : starts ≡ starts_from 0 (clauses_of words)
  pub ranged : T (in_range variables (clauses_of words))
