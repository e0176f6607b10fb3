-- The check of one step: what it asks of the slices, what it answers, and what it leaves. Assumes nothing.
use Rattle.std.specs.Prelude.{◌≡◌, ℕ, ◌+◌, ◌≤◌, ◌<◌, List, ◌++◌, length, take, set, ℤ, pos, Result, Ok, Err}
use Rattle.std.proofs.Math.Option.{Option, none, some}
use Rattle.std.proofs.lemmas.List.Edits.{sets}
use Rattle.spec.specs.Lists.{Bytes, one, first_fault, Verdict, accepted, refused}
use Rattle.spec.specs.Frames.{payload_of}
use Rattle.spec.specs.Formula.{Clause}
use Rattle.spec.specs.Refutation.{Lent, step_in, step_faults, step_detail, clauses_of}
use Rattle.spec.specs.Entry.{zeroed}
use Rattle.model.specs.declared.refusals.Refusal.{Refusal}
use Rattle.refutation_file.specs.declared.steps.Step.{Step}
use Rattle.refutation_file.specs.Found.{step_of}
use Rattle.propagation.specs.Kept.{Kept}
use Rattle.propagation.specs.Known.{LeftOnTrail}
use Rattle.refutation_steps.specs.declared.one_step.Extent.{Extent}

-- slices of so many words and clauses; 12 of a step asks nothing of the other two
abbrev pub lent_by : ℕ → ℕ → Lent
lent_by words clauses = record { words = words; clauses = clauses; values = 0; trail = 0 }

-- The slices are filled with the clauses that hints may name, their words and where each begins; no variable has a value; the trail
-- has room.
pub record Ready (filled : Extent) (words : List ℤ) (starts : List ℕ) (values : Bytes) (trail : List ℕ) : Type 0 where
  pub words_room : filled.words ≤ length words
  pub starts_room : filled.clauses ≤ length starts
  pub trail_room : length values ≤ length trail
  pub few : length values < 2147483648
  pub kept : Kept (length values) (take filled.words words) (take filled.clauses starts)
  pub all_open : values ≡ zeroed 0 (length values)

-- filled with one clause more, of n literals
abbrev pub one_more : Extent → ℕ → Extent
one_more filled n = record { words = filled.words + (n + 1); clauses = filled.clauses + 1 }

-- 17 to 20 and 12 of the step at the start of s: the number of the first that it is refused by
unfoldable pub step_fault : ℕ → ℕ → ℕ → List Clause → Bytes → Option ℕ
step_fault words_lent clauses_lent variables cs s = first_fault (step_faults (lent_by words_lent clauses_lent) variables cs s)

-- the verdict on step number k with this first fault and this payload
abbrev pub step_answer : Option ℕ → ℕ → Bytes → Verdict Step
step_answer (some n) k p = refused n (step_detail n k)
step_answer none k p = accepted (step_of p)

-- the verdict on the step at the start of s, which is step number k
unfoldable pub step_verdict : ℕ → ℕ → ℕ → List Clause → ℕ → Bytes → Verdict Step
step_verdict words_lent clauses_lent variables cs k s = step_answer (step_fault words_lent clauses_lent variables cs s) k (payload_of s)

-- What a step leaves in the slices: a proved one adds its clause behind those before, and nothing else; a refused one changes
-- nothing. Which variables either leaves on the trail is free, and what is behind them there stays.
abbrev pub Leaves : Result Step Refusal → Bytes → Extent → List ℤ → List ℕ → Bytes → List ℕ → List ℤ → List ℕ → Bytes → List ℕ → Type 0
Leaves (Ok x) s filled words starts values trail words' starts' values' trail' =
    Ready (one_more filled x.literals) words' starts' values' trail'
    × (clauses_of (take (one_more filled x.literals).words words') ≡ clauses_of (take filled.words words) ++ one (step_in (payload_of s)).literals)
    × (words' ≡ sets words filled.words ((step_in (payload_of s)).literals ++ one (pos 0)))
    × (starts' ≡ set starts filled.clauses filled.words) × (values' ≡ values) × LeftOnTrail (length values) trail trail'
Leaves (Err e) s filled words starts values trail words' starts' values' trail' =
    (words' ≡ words) × (starts' ≡ starts) × (values' ≡ values) × LeftOnTrail (length values) trail trail'
