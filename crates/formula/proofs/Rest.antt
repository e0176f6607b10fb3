-- What loops over the walk passed, as clauses: a row of them from 0 on, and clauses behind clauses. Assumes nothing.
use mathlib.Core.Path.{◌≡◌, sym, ap, ◌∙◌}
use Prim.Native.Nat.{ℕ, ◌+◌}
use native.Mathlib.Numerals.{add-one}
use mathlib.Core.List.{List, ◌++◌, map, map-append}
use lib.IntN.{ℤ}
use Rattle.spec.specs.Lists.{up_to, range, each, one}
use Rattle.spec.specs.Formula.{Clause, words_of}
use Rattle.laws.proofs.Parts.{up_to-suc}
use Rattle.demands.proofs.Words.{words_append}
use Rattle.clauses.specs.declared.Walk.{Walk}
use Rattle.clauses.specs.Walked.{Passes}
use Rattle.clauses.proofs.Laws.{passes_same, passes-behind}
use Rattle.clauses.proofs.Turns.{up_to-range, words-rows}

-- a row of n and the one behind it
pub map_last {ℓ} : {A : Type ℓ} (f : ℕ → A) (n : ℕ) → map f (up_to (n + 1)) ≡ map f (up_to n) ++ one (f n)
map_last f n = ap (λ (k : ℕ). map f (up_to k)) (add-one n) ∙ ap (map f) (up_to-suc n) ∙ map-append f (up_to n) (one n)

-- clauses behind clauses
pub passes-both : (cs ds : List Clause) {w w' w'' : Walk} → Passes (words_of cs) w w' → Passes (words_of ds) w' w'' → Passes (words_of (cs ++ ds)) w w''
passes-both cs ds h k = passes_same (sym (words_append cs ds)) (passes-behind h k)

-- after a loop over k numbers
module _ (k n : ℕ) (e : k ≡ n) {w w' : Walk} where
  pub passed-each : (f : ℕ → List ℤ) → Passes (each (range 0 k) f) w w' → Passes (each (up_to n) f) w w'
  passed-each f h = passes_same (ap (λ (ks : List ℕ). each ks f) (sym (up_to-range k)) ∙ ap (λ (m : ℕ). each (up_to m) f) e) h

  pub passed-rows : (f : ℕ → List Clause) → Passes (each (range 0 k) λ i. words_of (f i)) w w' → Passes (words_of (each (up_to n) f)) w w'
  passed-rows f h = passes_same (words-rows f k ∙ ap (λ (m : ℕ). words_of (each (up_to m) f)) e) h
