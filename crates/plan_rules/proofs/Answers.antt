-- The verdict on a plan, from whether its bytes fit and from which rules it keeps; and before it, whether there is room. Assumes
-- nothing.
use borrow.Author.Tests.{le-leb, lt-leb}
use mathlib.Core.Path.{◌≡◌, refl, sym, ap, ◌∙◌}
use mathlib.Core.Bool.{Bool, true, false, not}
use mathlib.Core.Option.{Option, none, some}
use Prim.Native.Nat.{ℕ, ◌≤◌, ◌<◌}
use Rattle.std.specs.Prelude.{Some, None}
use Rattle.std.specs.Prelude.{Option as CodeOption}
use Rattle.spec.specs.Lists.{Bytes, accepted, refused, one, ◌when◌, first_fault, and_then}
use Rattle.spec.specs.Instance.{Instance}
use Rattle.spec.specs.Plan.{plan_fits, plan_of, rule6, broken_rule}
use Rattle.spec.specs.Entry.{demand, judge_plan, admit_plan}
use Rattle.spec.specs.Held.{held_option}
use Rattle.reader.proofs.Verdicts.{judged-unfit, judged-found, judged-none}
use Rattle.plan_rules.specs.Kept.{first_broken}
use Rattle.plan_rules.proofs.Broken.{broken-early, broken-last}

-- rule 6 alone
sixth : (b : Bool) → first_fault (one (6 when not b)) ≡ (elim b [ true ↦ none | false ↦ some 6 ])
unfolding first_fault
sixth true = refl
sixth false = refl

module _ (I : Instance) (s : Bytes) where
  pub answer-unfit : plan_fits I s ≡ false → refused 15 0 ≡ judge_plan I s
  unfolding judge_plan
  answer-unfit e = judged-unfit 15 16 _ e

  -- what the search among the first five rules found
  module _ (fits : plan_fits I s ≡ true) {o : CodeOption ℕ} (e : held_option o ≡ first_broken I (plan_of I s)) where
    pub answer-early : {w : ℕ} → o ≡ Some w → refused 16 w ≡ judge_plan I s
    unfolding judge_plan
    answer-early {w} is = judged-found 15 16 w fits (broken-early I (plan_of I s) w (sym e ∙ ap held_option is))

    -- none: the sixth decides
    module _ (is : o ≡ None) where
      last : (b : Bool) → rule6 I (plan_of I s) ≡ b → broken_rule I (plan_of I s) ≡ (elim b [ true ↦ none | false ↦ some 6 ])
      last b f =
          broken-last I (plan_of I s) (sym e ∙ ap held_option is)
          ∙ ap (λ (t : Bool). first_fault (one (6 when not t))) f
          ∙ sixth b

      pub answer-sixth : rule6 I (plan_of I s) ≡ false → refused 16 6 ≡ judge_plan I s
      unfolding judge_plan
      answer-sixth f = judged-found 15 16 6 fits (last false f)

      pub answer-kept : rule6 I (plan_of I s) ≡ true → accepted tt ≡ judge_plan I s
      unfolding judge_plan
      answer-kept f = judged-none 15 16 fits (last true f)

-- room is asked for before that
module _ (I : Instance) (s : Bytes) (need room : ℕ) where
  pub answer-narrow : room < need → refused 12 0 ≡ admit_plan I s need room
  unfolding and_then demand
  answer-narrow h = rw (lt-leb need room h)

  pub answer-judged : need ≤ room → judge_plan I s ≡ admit_plan I s need room
  unfolding and_then demand
  answer-judged h = rw (le-leb need room h)
