-- What follows for the output of a plan from the answer of `judging::admit_plan`: the refusal stands whatever was to be written, and
-- where there is none the plan is accepted and what was to be written decides. Assumes nothing.
use mathlib.Core.Path.{◌≡◌, refl, sym, ap, ◌∙◌}
use mathlib.Core.Bool.{Bool, true, false}
use Prim.Native.Nat.{ℕ, ◌≤◌}
use lib.Dec.{leb}
use Rattle.std.specs.Prelude.{Result, Ok, Err}
use Rattle.model.specs.declared.refusals.Refusal.{Refusal}
use Rattle.model.specs.Refusals.{number_of, detail_of}
use Rattle.laws.proofs.Answers.{stops, goes_on}
use Rattle.laws.proofs.Tests.{leb-iff, from-true}
use Rattle.spec.specs.Lists.{Bytes, Verdict, accepted, refused, and_then}
use Rattle.spec.specs.Instance.{Instance}
use Rattle.spec.specs.Plan.{Plan, plan_of}
use Rattle.spec.specs.Answers.{told}
use Rattle.spec.specs.Entry.{demand, judge_plan, admit_plan, after_plan}

both-accepted : (fits : Bool) (v : Verdict (Unit {0})) → (and_then (demand fits 12) λ _. v) ≡ accepted tt → (fits ≡ true) × (v ≡ accepted tt)
unfolding demand and_then
both-accepted true v e = (refl, e)
both-accepted false v e = cc

-- e: the answer before what is to be written is looked at
module _ (I : Instance) (s : Bytes) (need room : ℕ) {r : Result (Unit {0}) Refusal} (e : told r ≡ admit_plan I s need room) where
  pub after-refused : {A : Type 0} (own : Plan → Verdict A) {d : Refusal} → r ≡ Err d
      → after_plan I s need room own ≡ refused (number_of d) (detail_of d)
  unfolding after_plan
  after-refused own is = stops (λ _. own (plan_of I s)) e is

  module _ {u : Unit {0}} (is : r ≡ Ok u) where
    both : (leb need room ≡ true) × (judge_plan I s ≡ accepted tt)
    both = both-accepted (leb need room) (judge_plan I s) (sym e ∙ ap told is)

    pub after-room : need ≤ room
    after-room = (leb-iff need room).0 (from-true both.0)

    pub after-judged : judge_plan I s ≡ accepted tt
    after-judged = both.1

    pub after-goes : {A : Type 0} (own : Plan → Verdict A) → after_plan I s need room own ≡ own (plan_of I s)
    unfolding after_plan
    after-goes own = goes_on (λ _. own (plan_of I s)) e is
