-- The formula in the lent slices: what loading it leaves there, and what the check of the steps asks. Assumes nothing.
use Rattle.std.specs.Prelude.{◌≡◌, Bool, cond, ℕ, List, length, take, ℤ, T}
use Rattle.std.proofs.lemmas.List.Edits.{sets}
use Rattle.spec.specs.Instance.{Instance}
use Rattle.spec.specs.Formula.{formula, words_of}
use Rattle.spec.specs.Refutation.{clauses_fit}
use Rattle.propagation.specs.Kept.{starts_from}
use Rattle.refutation_steps.specs.declared.one_step.Extent.{Extent}
use Rattle.refutation_steps.specs.Checked.{lent_by}

-- how many words and clauses it has
abbrev pub extent_of : Instance → Extent
extent_of I = record { words = length (words_of (formula I)); clauses = length (formula I) }

-- these slices have room for them
abbrev pub has_room : Instance → List ℤ → List ℕ → Bool
has_room I words starts = clauses_fit (lent_by (length words) (length starts)) (formula I)

-- the slices once it is loaded: where they have room, its words in front and where each of its clauses begins, and behind these what
-- stood there; else as they were
abbrev pub words_loaded : Instance → List ℤ → List ℕ → List ℤ
words_loaded I words starts = cond (has_room I words starts) (sets words 0 (words_of (formula I))) words

abbrev pub starts_loaded : Instance → List ℤ → List ℕ → List ℕ
starts_loaded I words starts = cond (has_room I words starts) (sets starts 0 (starts_from 0 (formula I))) starts

-- The formula stands in front of slices that have room for it.
pub record Stands (I : Instance) (words : List ℤ) (starts : List ℕ) : Type 0 where
  pub front : T (has_room I words starts) → take (length (words_of (formula I))) words ≡ words_of (formula I)
  pub begins : T (has_room I words starts) → take (length (formula I)) starts ≡ starts_from 0 (formula I)
