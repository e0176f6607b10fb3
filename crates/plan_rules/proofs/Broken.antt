-- The rules of all trains, and the least broken rule: of the first five, and what that says of all six. Assumes nothing.
use mathlib.Core.Path.{◌≡◌, refl, ap}
use mathlib.Core.Bool.{Bool, true, false, not}
use Prim.Native.Nat.{ℕ}
use mathlib.Core.List.{List, ◌∷◌}
use mathlib.Core.Option.{none, some}
use Rattle.spec.specs.Lists.{Fault, all, up_to, one, ◌when◌, first_fault}
use Rattle.spec.specs.Instance.{Instance}
use Rattle.spec.specs.Plan.{Plan, rule1, rule2, rule3, rule4, rule5, rule6, rule_faults, broken_rule, departs, leaves_rightly, runs_on, keeps_calls}
use Rattle.plan_rules.specs.Kept.{first_broken}

module _ (I : Instance) (p : Plan) where
  pub departing : all (λ i. departs I p i) (up_to I.trains) ≡ rule2 I p
  unfolding rule2
  departing = refl

  pub leaving : all (λ i. leaves_rightly I p i) (up_to I.trains) ≡ rule3 I p
  unfolding rule3
  leaving = refl

  pub running : all (λ i. runs_on I p i) (up_to I.trains) ≡ rule4 I p
  unfolding rule4
  running = refl

  pub calling : all (λ i. keeps_calls I p i) (up_to I.trains) ≡ rule5 I p
  unfolding rule5
  calling = refl

-- ---- the least broken of five

abbrev five : Bool → Bool → Bool → Bool → Bool → List Fault
five a b c d e = 1 when not a ∷ 2 when not b ∷ 3 when not c ∷ 4 when not d ∷ one (5 when not e)

abbrev six : Bool → Bool → Bool → Bool → Bool → Bool → List Fault
six a b c d e f = 1 when not a ∷ 2 when not b ∷ 3 when not c ∷ 4 when not d ∷ 5 when not e ∷ one (6 when not f)

-- where one of the five is broken, it is the least of the six
early : (a b c d e f : Bool) (n : ℕ) → first_fault (five a b c d e) ≡ some n → first_fault (six a b c d e f) ≡ some n
unfolding first_fault
early false b c d e f n h = h
early true false c d e f n h = h
early true true false d e f n h = h
early true true true false e f n h = h
early true true true true false f n h = h
early true true true true true f n h = cc

-- where none is, the sixth decides
last : (a b c d e f : Bool) → first_fault (five a b c d e) ≡ none → first_fault (six a b c d e f) ≡ first_fault (one (6 when not f))
unfolding first_fault
last false b c d e f h = cc
last true false c d e f h = cc
last true true false d e f h = cc
last true true true false e f h = cc
last true true true true false f h = cc
last true true true true true f h = refl

module _ (I : Instance) (p : Plan) where
  pub first-1 : rule1 I p ≡ false → some 1 ≡ first_broken I p
  unfolding first_broken rule_faults first_fault
  first-1 a = rw a

  pub first-2 : rule1 I p ≡ true → rule2 I p ≡ false → some 2 ≡ first_broken I p
  unfolding first_broken rule_faults first_fault
  first-2 a b = rw (a, b)

  pub first-3 : rule1 I p ≡ true → rule2 I p ≡ true → rule3 I p ≡ false → some 3 ≡ first_broken I p
  unfolding first_broken rule_faults first_fault
  first-3 a b c = rw (a, b, c)

  pub first-4 : rule1 I p ≡ true → rule2 I p ≡ true → rule3 I p ≡ true → rule4 I p ≡ false → some 4 ≡ first_broken I p
  unfolding first_broken rule_faults first_fault
  first-4 a b c d = rw (a, b, c, d)

  pub first-5 : rule1 I p ≡ true → rule2 I p ≡ true → rule3 I p ≡ true → rule4 I p ≡ true → rule5 I p ≡ false → some 5 ≡ first_broken I p
  unfolding first_broken rule_faults first_fault
  first-5 a b c d e = rw (a, b, c, d, e)

  pub first-none : rule1 I p ≡ true → rule2 I p ≡ true → rule3 I p ≡ true → rule4 I p ≡ true → rule5 I p ≡ true → none ≡ first_broken I p
  unfolding first_broken rule_faults first_fault
  first-none a b c d e = rw (a, b, c, d, e)

  -- where one of the first five rules is broken, the least of them is the plan's least broken rule
  pub broken-early : (n : ℕ) → first_broken I p ≡ some n → broken_rule I p ≡ some n
  unfolding first_broken broken_rule rule_faults
  broken-early = early (rule1 I p) (rule2 I p) (rule3 I p) (rule4 I p) (rule5 I p) (rule6 I p)

  -- where none is, the sixth decides
  pub broken-last : first_broken I p ≡ none → broken_rule I p ≡ first_fault (one (6 when not (rule6 I p)))
  unfolding first_broken broken_rule rule_faults
  broken-last = last (rule1 I p) (rule2 I p) (rule3 I p) (rule4 I p) (rule5 I p) (rule6 I p)
