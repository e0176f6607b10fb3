-- The clauses that the steps of a file add, and what the list of steps leaves in the slices. Assumes nothing.
use Rattle.std.specs.Prelude.{◌≡◌, ℕ, zero, suc, List, [], ◌∷◌, ◌++◌, length, take, ℤ}
use Rattle.std.proofs.Math.Option.{Option, none, some}
use Rattle.std.proofs.lemmas.List.Edits.{sets}
use Rattle.spec.specs.Lists.{Bytes, one}
use Rattle.spec.specs.Frames.{payload_of, behind}
use Rattle.spec.specs.Formula.{Clause, words_of}
use Rattle.spec.specs.Refutation.{step_in, literal_count, clauses_of}
use Rattle.propagation.specs.Kept.{starts_from}
use Rattle.propagation.specs.Known.{LeftOnTrail}
use Rattle.refutation_steps.specs.declared.one_step.Extent.{Extent}
use Rattle.refutation_steps.specs.Checked.{step_fault}

-- the clauses that a step of clause c adds, by its first fault and how many literals it has, with those of the steps behind it: a
-- refused step adds none, and nothing is checked behind it, nor behind a proved one without literals
abbrev pub added_by : Option ℕ → ℕ → Clause → List Clause → List Clause
added_by (some f) n c later = []
added_by none zero c later = one c
added_by none (suc n) c later = c ∷ later

-- "each proved step adds its own behind them": the clauses that the steps of s add to cs, where so many words and clauses are lent,
-- over so many variables. A frame has four bytes at least, so `fuel` is never used up.
unfoldable pub added_from : ℕ → ℕ → ℕ → ℕ → List Clause → Bytes → List Clause
added_from words_lent clauses_lent variables zero cs s = []
added_from words_lent clauses_lent variables (suc fuel) cs s =
    let c : Clause = (step_in (payload_of s)).literals in
    added_by (step_fault words_lent clauses_lent variables cs s) (literal_count (payload_of s)) c (added_from words_lent clauses_lent variables fuel (cs ++ one c) (behind s))

unfoldable pub added : ℕ → ℕ → ℕ → List Clause → Bytes → List Clause
added words_lent clauses_lent variables cs s = added_from words_lent clauses_lent variables (suc (length s)) cs s

-- These clauses were added to the slices, behind what those were filled with, and all else is as it was; but which variables are
-- left on the trail is free.
pub record Adds (new : List Clause) (filled : Extent) (words : List ℤ) (starts : List ℕ) (values : Bytes) (trail : List ℕ)
    (words' : List ℤ) (starts' : List ℕ) (values' : Bytes) (trail' : List ℕ) : Type 0 where
  pub words_after : words' ≡ sets words filled.words (words_of new)
  pub starts_after : starts' ≡ sets starts filled.clauses (starts_from filled.words new)
  pub values_after : values' ≡ values
  pub trail_after : LeftOnTrail (length values) trail trail'

-- What the steps of a file leave in the slices, accepted or refused.
abbrev pub LeavesAll : Bytes → Extent → List ℤ → List ℕ → Bytes → List ℕ → List ℤ → List ℕ → Bytes → List ℕ → Type 0
LeavesAll s filled words starts values trail =
    Adds (added (length words) (length starts) (length values) (clauses_of (take filled.words words)) s) filled words starts values trail
