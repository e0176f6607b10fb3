-- The clause of a call. Assumes nothing.
use mathlib.Core.Path.{◌≡◌, sym, ap, ◌∙◌}
use mathlib.Core.Bool.{true, false, not}
use Prim.Native.Nat.{ℕ}
use mathlib.Core.List.{[], ◌++◌}
use lib.IntN.{pos}
use Rattle.spec.specs.Lists.{each, one}
use Rattle.spec.specs.Instance.{Instance, served_at_departure}
use Rattle.spec.specs.Formula.{words_of}
use Rattle.clauses.proofs.Laws.{only-true, only-false}
use Rattle.demands.proofs.Words.{words-one}
use Rattle.formula.specs.Families.{call_runs, call_clauses}

-- the clause of a call that is served at the departure, and of one that is not
module _ (I : Instance) (i c : ℕ) where
  pub words-served : served_at_departure I i c ≡ true → words_of (call_clauses I i c) ≡ []
  unfolding call_clauses words_of each
  words-served e = ap words_of (only-false (one (call_runs I i c)) (ap not e))

  pub words_open : served_at_departure I i c ≡ false → call_runs I i c ++ one (pos 0) ≡ words_of (call_clauses I i c)
  unfolding call_clauses
  words_open e = words-one (call_runs I i c) ∙ ap words_of (sym (only-true (one (call_runs I i c)) (ap not e)))
