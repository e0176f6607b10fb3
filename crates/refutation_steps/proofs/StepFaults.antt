-- The verdict on a step for each outcome of its five tests. Assumes nothing.
use mathlib.Core.Path.{◌≡◌, refl, sym, ap₂, ap, ◌∙◌}
use mathlib.Core.Bool.{Bool, true, false, not, ◌&&◌}
use mathlib.Core.List.{List, ◌∷◌, ◌++◌}
use Prim.Native.Nat.{ℕ, ◌+◌}
use native.Mathlib.Omega.{arith}
use lib.ListN.{length, length-append}
use lib.IntN.{ℤ, pos}
use lib.Dec.{leb}
use Rattle.spec.specs.Lists.{Bytes, one, ◌when◌, first_fault, Verdict, accepted, refused}
use Rattle.spec.specs.Frames.{payload_of}
use Rattle.spec.specs.Formula.{Clause, words_of}
use Rattle.spec.specs.Refutation.{step_in, literals_fit, hints_fit, clauses_fit, follows_rule, step_faults, step_detail, is_bad}
use Rattle.refutation_file.specs.declared.steps.Step.{Step}
use Rattle.refutation_file.specs.Found.{step_of}
use Rattle.demands.proofs.Words.{words_append, words-one}
use Rattle.refutation_steps.specs.Checked.{lent_by, step_answer, step_fault, step_verdict}

-- the verdict on step number k by its five tests, in the order of the specification's table
answer : Bool → Bool → Bool → Bool → Bool → ℕ → Bytes → Verdict Step
answer bad literals hints room rule k p =
    step_answer (first_fault
    (17 when bad ∷ 18 when not literals ∷ 19 when not hints ∷ 12 when not room ∷ one (20 when not rule))) k p

-- the words of clauses and of one more
pub words-added : (cs : List Clause) (c : Clause) → length (words_of (cs ++ one c)) ≡ length (words_of cs) + (length c + 1)
words-added cs c =
    ap length (words_append cs (one c) ∙ ap (λ (ws : List ℤ). words_of cs ++ ws) (sym (words-one c)))
    ∙ omega (arith, length-append (words_of cs) (c ++ one (pos 0)), length-append c (one (pos 0)))

-- 12: the room for clauses and one more, in numbers
pub room-one : (W C : ℕ) (cs : List Clause) (c : Clause)
    → clauses_fit (lent_by W C) (cs ++ one c) ≡ (leb (length (words_of cs) + (length c + 1)) W && leb (length cs + 1) C)
unfolding clauses_fit
room-one W C cs c = ap₂ (λ (a b : ℕ). leb a W && leb b C) (words-added cs c) (length-append cs (one c))

module _ (W C vars : ℕ) (cs : List Clause) (k : ℕ) (s : Bytes) where
  -- the clause and the hints of the step
  abbrev claimed : Clause
  claimed = (step_in (payload_of s)).literals

  abbrev named : List ℕ
  named = (step_in (payload_of s)).hints

  abbrev checked : Verdict Step
  checked = step_verdict W C vars cs k s

  -- the verdict by what the tests give
  by_tests : {bad literals hints room rule : Bool} → is_bad s ≡ bad → literals_fit vars claimed ≡ literals
      → hints_fit (length cs + 1) named ≡ hints → clauses_fit (lent_by W C) (cs ++ one claimed) ≡ room
      → follows_rule cs (step_in (payload_of s)) ≡ rule → answer bad literals hints room rule k (payload_of s) ≡ checked
  unfolding step_verdict step_fault step_faults is_bad answer
  by_tests b l h m r = λ i. answer (sym b i) (sym l i) (sym h i) (sym m i) (sym r i) k (payload_of s)

  -- 17
  pub is-bad : is_bad s ≡ true → refused 17 k ≡ checked
  unfolding answer first_fault step_detail
  is-bad b = by_tests b refl refl refl refl

  module _ (whole : is_bad s ≡ false) where
    -- 18
    pub literals-bad : literals_fit vars claimed ≡ false → refused 18 k ≡ checked
    unfolding answer first_fault step_detail
    literals-bad l = by_tests whole l refl refl refl

    module _ (fit : literals_fit vars claimed ≡ true) where
      -- 19
      pub hints-bad : hints_fit (length cs + 1) named ≡ false → refused 19 k ≡ checked
      unfolding answer first_fault step_detail
      hints-bad h = by_tests whole fit h refl refl

      module _ (known : hints_fit (length cs + 1) named ≡ true) where
        -- 12
        pub no_room : clauses_fit (lent_by W C) (cs ++ one claimed) ≡ false → refused 12 0 ≡ checked
        unfolding answer first_fault step_detail
        no_room m = by_tests whole fit known m refl

        module _ (room : clauses_fit (lent_by W C) (cs ++ one claimed) ≡ true) where
          -- 20
          pub rule-broken : follows_rule cs (step_in (payload_of s)) ≡ false → refused 20 k ≡ checked
          unfolding answer first_fault step_detail
          rule-broken r = by_tests whole fit known room r

          -- no fault
          pub proved : follows_rule cs (step_in (payload_of s)) ≡ true → accepted (step_of (payload_of s)) ≡ checked
          unfolding answer first_fault
          proved r = by_tests whole fit known room r
