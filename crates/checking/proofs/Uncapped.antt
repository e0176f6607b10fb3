-- A cap leaves the judgement of a plan as it is: it asks for more only behind it, by 22. Assumes nothing.
use mathlib.Core.Path.{◌≡◌, ap, ap₂}
use mathlib.Core.Bool.{Bool}
use mathlib.Core.Option.{Option}
use Prim.Native.Nat.{ℕ}
use lib.Dec.{leb}
use Rattle.spec.specs.Lists.{Bytes, Verdict, and_then}
use Rattle.spec.specs.Instance.{Instance, under}
use Rattle.spec.specs.Plan.{plan_of, move_at}
use Rattle.spec.specs.Entry.{demand, find_none, judge_plan, admit_plan}
use Rattle.demands.proofs.Uncapped.{fits-same, broken-same}

module _ (cap : Option ℕ) (I : Instance) where
  pub judge-same : (s : Bytes) → judge_plan (under cap I) s ≡ judge_plan I s
  unfolding judge_plan plan_of move_at
  judge-same s =
      ap₂ (λ (fits : Bool) (broken : Option ℕ). and_then (demand fits 15) λ _. find_none broken 16) (fits-same cap I s) (broken-same cap I (plan_of I s))

  pub admit-same : (s : Bytes) (need room : ℕ) → admit_plan (under cap I) s need room ≡ admit_plan I s need room
  admit-same s need room = ap (λ (v : Verdict (Unit {0})). and_then (demand (leb need room) 12) λ _. v) (judge-same s)
