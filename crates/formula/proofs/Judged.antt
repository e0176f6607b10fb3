-- The verdict on an assignment, from whether its bytes fit and from what a walk over the formula says. Assumes nothing.
use mathlib.Core.Path.{◌≡◌, refl}
use mathlib.Core.Bool.{Bool, true, false}
use mathlib.Core.Option.{Option, none, some}
use Rattle.std.specs.Prelude.{Some, None}
use Prim.Native.Nat.{ℕ}
use lib.ListN.{length}
use lib.Dec.{eqb}
use Rattle.spec.specs.Lists.{Bytes, accepted, refused, and_then, all}
use Rattle.spec.specs.Instance.{Instance}
use Rattle.spec.specs.Plan.{is_bit}
use Rattle.spec.specs.Formula.{formula, variables}
use Rattle.spec.specs.Assignment.{first_false, assigned, assignment_fits}
use Rattle.spec.specs.Entry.{demand, find_none, judge_assignment}
use Rattle.clauses.specs.Walked.{first_told}

-- what was told, as it was found
told-some : (o : Option ℕ) {k : ℕ} → first_told o ≡ Some k → o ≡ some k
unfolding first_told
told-some none e = absurd (cc)
told-some (some d) e = cc

told-none : (o : Option ℕ) → first_told o ≡ None → o ≡ none
unfolding first_told
told-none none e = refl
told-none (some d) e = absurd (cc)

-- ---- 13

module _ (I : Instance) (s : Bytes) where
  pub fits-long : eqb (length s) (variables I) ≡ false → false ≡ assignment_fits I s
  unfolding assignment_fits
  fits-long e = rw e

  pub fits_bits : {test : Bool} → eqb (length s) (variables I) ≡ true → test ≡ all is_bit s → test ≡ assignment_fits I s
  unfolding assignment_fits
  fits_bits e t = rw e t

  pub answer-unfit : assignment_fits I s ≡ false → refused 13 0 ≡ judge_assignment I s
  unfolding judge_assignment and_then demand
  answer-unfit e = rw e

  -- ---- 14

  module _ (fits : assignment_fits I s ≡ true) where
    verdict : {o : Option ℕ} → first_false (assigned s) 1 (formula I) ≡ o → find_none o 14 ≡ judge_assignment I s
    unfolding judge_assignment and_then demand
    verdict e = rw (fits, e)

    pub answer-false : {k : ℕ} → first_told (first_false (assigned s) 1 (formula I)) ≡ Some k → refused 14 k ≡ judge_assignment I s
    unfolding find_none
    answer-false e = verdict (told-some _ e)

    pub answer-true : first_told (first_false (assigned s) 1 (formula I)) ≡ None → accepted tt ≡ judge_assignment I s
    unfolding find_none
    answer-true e = verdict (told-none _ e)
