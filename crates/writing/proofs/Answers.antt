-- What writing answers and leaves in the output: the words of the formula where there is room, and a refusal otherwise. Assumes
-- nothing.
use mathlib.Core.Path.{◌≡◌, sym, ap, ◌∙◌}
use mathlib.Core.Bool.{Bool}
use mathlib.Core.Option.{Option}
use Prim.Native.Nat.{ℕ, ◌≤◌, ◌<◌}
use mathlib.Core.List.{List}
use borrow.Author.Tests.{le-leb, lt-leb}
use lib.ListN.{length}
use lib.IntN.{ℤ}
use Rattle.model.specs.declared.Book.{Book as BookStruct}
use Rattle.spec.specs.Lists.{Bytes, Verdict, accepted, refused, and_then}
use Rattle.spec.specs.Instance.{Instance, instance_of, under}
use Rattle.spec.specs.Formula.{variables, formula, words_of}
use Rattle.spec.specs.Held.{held}
use Rattle.spec.specs.Answers.{accepted_as}
use Rattle.spec.specs.Entry.{Written, demand, formula_written, overwrite, written, written_for, words_after}
use Rattle.clauses.specs.declared.Tally.{Tally}
use Rattle.clauses.specs.Walked.{start, Walks}
use Rattle.clauses.proofs.Totals.{stored-front}
use Rattle.tables.specs.Tables.{Passed}
use Rattle.formula.proofs.Totals.{is-small, walk-words, walk-clauses}
use Rattle.writing.specs.declared.Totals.{Totals}
use Rattle.writing.specs.FormulaAnswers.{totals_of}

-- a verdict that stopped with a refusal leaves the output as it was
pub words-stopped : {v : Verdict Written} {n d : ℕ} (old : List ℤ) → v ≡ refused n d
    → (refused n d ≡ accepted_as totals_of v) × (old ≡ words_after old v)
unfolding words_after and_then overwrite written
words-stopped old e = (
  ap (accepted_as totals_of) (sym e),
  ap (λ (v : Verdict Written). overwrite old (written (and_then v λ w. accepted w.words))) (sym e),
)

same_totals : {v v' c c' n n' : ℕ} → v ≡ v' → c ≡ c' → n ≡ n'
    → ◌≡◌ {A = Totals} (record { variables = v; clauses = c; words = n }) (record { variables = v'; clauses = c'; words = n' })
same_totals a b c = simp (a, b, c)

-- of a book that passed, under a cap or without one
module _ (b : BookStruct) (p : Passed b) (cap : Option ℕ) where
  abbrev I : Instance
  I = under cap (instance_of (held b))

  abbrev words : List ℤ
  words = words_of (formula I)

  -- too little room
  pub words-short : (room : ℕ) → room < length words → written_for I room ≡ refused 12 0
  unfolding written_for demand and_then
  words-short room h = ap (λ (t : Bool). and_then (demand t 12) λ _. accepted (formula_written I)) (lt-leb (length words) room h)

  -- enough
  fits : (room : ℕ) → length words ≤ room → written_for I room ≡ accepted (formula_written I)
  unfolding written_for demand and_then
  fits room h = ap (λ (t : Bool). and_then (demand t 12) λ _. accepted (formula_written I)) (le-leb (length words) room h)

  pub words-written : {values : Bytes} {old new : List ℤ} {w : Tally} {v : ℕ} → length words ≤ length old → Walks values words start old w new
      → v ≡ variables I
      → (accepted (record { variables = v; clauses = w.clauses; words = w.words }) ≡ accepted_as totals_of (written_for I (length old)))
      × (new ≡ words_after old (written_for I (length old)))
  unfolding words_after and_then written formula_written start
  words-written {old = old} h k e =
      let f = sym (fits (length old) h) in (
        ap accepted (same_totals e (walk-clauses b p cap k) (walk-words b p cap k)) ∙ ap (accepted_as totals_of) f,
        k.output ∙ stored-front words old (is-small b p cap) h ∙ ap (λ (v : Verdict Written). words_after old v) f,
      )
