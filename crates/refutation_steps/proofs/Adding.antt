-- The clauses that steps add, step by step: by a step's first fault (`adds_none`, `adds-last`, `adds-more`), and in the slices
-- (`nothing_yet`, `stays`, `grows`). Assumes nothing.
use mathlib.Core.Path.{◌≡◌, refl, sym, ap, ◌∙◌}
use Prim.Native.Nat.{ℕ, zero, suc, ◌+◌}
use native.Mathlib.Nat.{add-zero}
use native.Mathlib.Omega.{arith}
use mathlib.Core.Option.{Option, none, some}
use mathlib.Core.List.{List, [], ◌∷◌, ◌++◌}
use lib.ListN.{length, set}
use lib.Seq.{sets}
use lib.IntN.{ℤ, pos}
use Rattle.spec.specs.Lists.{Bytes, one, each}
use Rattle.spec.specs.Frames.{payload_of, behind}
use Rattle.spec.specs.Formula.{Clause, words_of}
use Rattle.spec.specs.Refutation.{step_in, literal_count}
use Rattle.demands.proofs.Words.{words_append, words-one}
use Rattle.propagation.specs.Kept.{starts_from}
use Rattle.propagation.proofs.Lookup.{length-starts}
use Rattle.propagation.proofs.Adding.{starts-append}
use Rattle.propagation.specs.Known.{LeftOnTrail}
use Rattle.propagation.proofs.Trail.{left_alone, left_both}
use Rattle.refutation_steps.specs.declared.one_step.Extent.{Extent}
use Rattle.refutation_steps.specs.Checked.{step_fault}
use Rattle.refutation_steps.specs.Added.{added_by, added_from, Adds}

-- ---- by the first fault of a step

module _ (W C vars fuel : ℕ) (cs : List Clause) (s : Bytes) where
  -- the step's clause, and those of the steps behind it
  abbrev claimed : Clause
  claimed = (step_in (payload_of s)).literals

  abbrev later : List Clause
  later = added_from W C vars fuel (cs ++ one claimed) (behind s)

  -- refused
  pub adds_none : {n : ℕ} → step_fault W C vars cs s ≡ some n → added_from W C vars (suc fuel) cs s ≡ []
  unfolding added_from
  adds_none e = ap (λ (o : Option ℕ). added_by o (literal_count (payload_of s)) claimed later) e

  module _ (e : step_fault W C vars cs s ≡ none) where
    -- proved, without literals
    pub adds-last : literal_count (payload_of s) ≡ 0 → added_from W C vars (suc fuel) cs s ≡ one claimed
    unfolding added_from
    adds-last z = λ i. added_by (e i) (z i) claimed later

    -- proved, with literals
    some-literals : (n : ℕ) → (n ≡ 0 → ⊥) → added_by none n claimed later ≡ claimed ∷ later
    some-literals zero z = absurd (z refl)
    some-literals (suc n) z = refl

    pub adds-more : (literal_count (payload_of s) ≡ 0 → ⊥) → added_from W C vars (suc fuel) cs s ≡ claimed ∷ later
    unfolding added_from
    adds-more z =
        ap (λ (o : Option ℕ). added_by o (literal_count (payload_of s)) claimed later) e ∙ some-literals (literal_count (payload_of s)) z

-- ---- the slices

-- a run of stores, and another behind it
sets-append : {A : Type 0} (l : List A) (i : ℕ) (xs ys : List A) → sets l i (xs ++ ys) ≡ sets (sets l i xs) (i + length xs) ys
sets-append l i [] ys = ap (λ (k : ℕ). sets l k ys) (sym (add-zero i))
sets-append l i (x ∷ xs) ys =
    let e : suc i + length xs ≡ i + suc (length xs) = omega arith in
    sets-append (set l i x) (suc i) xs ys ∙ ap (λ (k : ℕ). sets (sets (set l i x) (suc i) xs) k ys) e

module _ {filled₀ : Extent} {words₀ : List ℤ} {starts₀ : List ℕ} {values₀ : Bytes} {trail₀ : List ℕ} where
  -- before the first step
  pub nothing_yet : Adds [] filled₀ words₀ starts₀ values₀ trail₀ words₀ starts₀ values₀ trail₀
  unfolding words_of each starts_from
  nothing_yet = record { words_after = refl; starts_after = refl; values_after = refl; trail_after = left_alone }

  module _ {new : List Clause} {words : List ℤ} {starts : List ℕ} {values : Bytes} {trail : List ℕ}
      (a : Adds new filled₀ words₀ starts₀ values₀ trail₀ words starts values trail) where
    -- what is left on the trail since the first step
    left-since : {trail' : List ℕ} → LeftOnTrail (length values) trail trail' → LeftOnTrail (length values₀) trail₀ trail'
    left-since left = left_both a.trail_after (rw a.values_after at left)

    -- a refused step
    pub stays : {words' : List ℤ} {starts' : List ℕ} {values' : Bytes} {trail' : List ℕ} → words' ≡ words → starts' ≡ starts
        → values' ≡ values → LeftOnTrail (length values) trail trail'
        → Adds new filled₀ words₀ starts₀ values₀ trail₀ words' starts' values' trail'
    stays e f g left = record {
      words_after = e ∙ a.words_after;
      starts_after = f ∙ a.starts_after;
      values_after = g ∙ a.values_after;
      trail_after = left-since left;
    }

    -- a proved step
    pub grows : (c : Clause) {words' : List ℤ} {starts' : List ℕ} {values' : Bytes} {trail' : List ℕ} {filled : Extent}
        → filled.words ≡ filled₀.words + length (words_of new) → filled.clauses ≡ filled₀.clauses + length new
        → words' ≡ sets words filled.words (c ++ one (pos 0)) → starts' ≡ set starts filled.clauses filled.words
        → values' ≡ values → LeftOnTrail (length values) trail trail'
        → Adds (new ++ one c) filled₀ words₀ starts₀ values₀ trail₀ words' starts' values' trail'
    grows c u k e f g left = record {
      words_after =
          e
          ∙ (λ i. sets (a.words_after i) (u i) (words-one c i))
          ∙ sym (sets-append words₀ filled₀.words (words_of new) (words_of (one c)))
          ∙ ap (sets words₀ filled₀.words) (sym (words_append new (one c)));
      starts_after =
          f
          ∙ (λ i. set (a.starts_after i) ((k ∙ ap (λ (n : ℕ). filled₀.clauses + n) (sym (length-starts filled₀.words new))) i) (u i))
          ∙ sym (sets-append starts₀ filled₀.clauses (starts_from filled₀.words new) (one (filled₀.words + length (words_of new))))
          ∙ ap (sets starts₀ filled₀.clauses) (sym (starts-append filled₀.words new c));
      values_after = g ∙ a.values_after;
      trail_after = left-since left;
    }
