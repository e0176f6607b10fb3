-- What a walk over the whole formula of a book that passed says, under a cap or without one: its totals, and the least clause that does
-- not hold. Assumes nothing.
use mathlib.Core.Path.{◌≡◌, ap, ◌∙◌, subst}
use mathlib.Core.Option.{Option}
use Prim.Native.Nat.{ℕ, ◌≤◌}
use mathlib.Core.List.{List, ◌++◌}
use lib.ListN.{length}
use lib.IntN.{ℤ}
use lib.Dec.{T}
use Rattle.model.specs.declared.Book.{Book as BookStruct}
use Rattle.laws.proofs.Tests.{nil-of-length}
use Rattle.spec.specs.Lists.{Bytes}
use Rattle.spec.specs.Instance.{Instance, instance_of, under}
use Rattle.spec.specs.Formula.{formula, words_of, variables}
use Rattle.spec.specs.Held.{held}
use Rattle.demands.proofs.Words.{formula-in-range, range-proper, proper}
use Rattle.demands.proofs.Wellformed.{sound, sound-under}
use Rattle.clauses.specs.declared.Tally.{Tally}
use Rattle.clauses.specs.Walked.{start, totals, Walks, most}
use Rattle.clauses.proofs.Laws.{walks-length}
use Rattle.clauses.proofs.Totals.{totals-walked}
use Rattle.tables.specs.Tables.{Passed}
use Rattle.tables.proofs.Small.{passed-few}
use Rattle.formula.proofs.Capped.{few-under}
use Rattle.formula.proofs.Size.{formula-small}

-- an output without room leaves nothing behind
pub nothing-ahead : {values : Bytes} {ls out out' : List ℤ} {w w' : Tally} → Walks values ls w out w' out' → length out ≡ 0
    → (xs : List ℤ) → out' ++ xs ≡ xs
nothing-ahead {out' = out'} h e xs = ap (λ (o : List ℤ). o ++ xs) (nil-of-length out' (walks-length h ∙ e))

-- the same output, by another name
pub walks_from : {values : Bytes} {ls out out₂ out' : List ℤ} {w w' : Tally} → out ≡ out₂ → Walks values ls w out w' out'
    → Walks values ls w out₂ w' out'
walks_from {values} {ls} {out' = out'} {w} {w'} e h = subst (λ (o : List ℤ). Walks values ls w o w' out') e h

module _ (b : BookStruct) (p : Passed b) (cap : Option ℕ) where
  abbrev I : Instance
  I = under cap (instance_of (held b))

  abbrev words : List ℤ
  words = words_of (formula I)

  is-proper : T (proper (formula I))
  is-proper = range-proper (variables I) (formula I) (formula-in-range I (sound-under cap (sound (held b) p.formed)))

  pub is-small : length words ≤ most
  is-small = formula-small I (few-under cap (instance_of (held b)) (passed-few b p))

  -- the walk's totals
  pub walk-totals : {values : Bytes} {out out' : List ℤ} {w : Tally} → Walks values words start out w out' → w ≡ totals values (formula I)
  walk-totals {values} h = h.walk ∙ totals-walked values (formula I) is-proper is-small

  pub walk-words : {values : Bytes} {out out' : List ℤ} {w : Tally} → Walks values words start out w out' → w.words ≡ length words
  unfolding totals
  walk-words h = ap (λ (w : Tally). w.words) (walk-totals h)

  pub walk-clauses : {values : Bytes} {out out' : List ℤ} {w : Tally} → Walks values words start out w out' → w.clauses ≡ length (formula I)
  unfolding totals
  walk-clauses h = ap (λ (w : Tally). w.clauses) (walk-totals h)
