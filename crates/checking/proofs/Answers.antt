-- What the checks answer and leave in their outputs, from what their parts answer: room, the judgement, and what is then written.
-- Assumes nothing.
use mathlib.Core.Path.{◌≡◌, sym, ap, ◌∙◌}
use mathlib.Core.Bool.{Bool, true, false}
use Prim.Native.Nat.{ℕ, ◌≤◌, ◌<◌}
use lib.ListN.{length}
use lib.Dec.{T}
use borrow.Author.Tests.{le-leb, lt-leb}
use Rattle.std.specs.Prelude.{Result, Ok, Err}
use Rattle.model.specs.declared.refusals.Refusal.{Refusal}
use Rattle.model.specs.Refusals.{number_of, detail_of}
use Rattle.laws.proofs.Answers.{stops, goes_on}
use Rattle.spec.specs.Lists.{Bytes, Verdict, accepted, refused, and_then}
use Rattle.spec.specs.Instance.{Instance}
use Rattle.spec.specs.Plan.{Plan, plan_fits, plan_length, plan_of}
use Rattle.spec.specs.Cap.{within_cap}
use Rattle.spec.specs.Formula.{variables}
use Rattle.spec.specs.Assignment.{assigned, decoded, decode, encode}
use Rattle.spec.specs.Answers.{told}
use Rattle.spec.specs.Entry.{demand, judge_assignment, judge_plan, unpacked_for, encoded_for, admit_plan}
use Rattle.demands.proofs.Encoding.{length-plan, length-encode}
use Rattle.demands.proofs.Entries.{plan-iff, own_cap}
use Rattle.demands.proofs.Cap.{cap-length}
use Rattle.plan_rules.proofs.Admitted.{after-refused, after-goes}

-- a plan that is accepted fits
pub plan-fits : (I : Instance) (s : Bytes) → judge_plan I s ≡ accepted tt → T (plan_fits I s)
plan-fits I s e = ((plan-iff I s).0 e).0

-- how long their results are
pub length-decode : (I : Instance) (s : Bytes) → length (decode I s) ≡ plan_length I
unfolding decode
length-decode I s = length-plan I (decoded I (assigned s))

pub length-assignment : (I : Instance) (p : Plan) → length (encode I p) ≡ variables I
length-assignment I p = length-encode I p (cap-length I p)

-- unpacking an assignment
module _ (I : Instance) (s : Bytes) (room : ℕ) where
  pub unpacked-short : room < plan_length I → unpacked_for I s room ≡ refused 12 0
  unfolding unpacked_for demand and_then
  unpacked-short h = rw (lt-leb (plan_length I) room h)

  judged : plan_length I ≤ room → unpacked_for I s room ≡ (and_then (judge_assignment I s) λ _. accepted (decode I s))
  unfolding unpacked_for demand and_then
  judged h = rw (le-leb (plan_length I) room h)

  module _ (h : plan_length I ≤ room) {r : Result (Unit {0}) Refusal} (e : told r ≡ judge_assignment I s) where
    pub unpacked-refused : {d : Refusal} → r ≡ Err d → unpacked_for I s room ≡ refused (number_of d) (detail_of d)
    unpacked-refused is = judged h ∙ stops (λ _. accepted (decode I s)) e is

    pub unpacked-accepted : {u : Unit {0}} → r ≡ Ok u → unpacked_for I s room ≡ accepted (decode I s)
    unpacked-accepted is = judged h ∙ goes_on (λ _. accepted (decode I s)) e is

-- encoding a plan
module _ (I : Instance) (s : Bytes) (room : ℕ) {r : Result (Unit {0}) Refusal} (e : told r ≡ admit_plan I s (variables I) room) where
  pub encoded-refused : {d : Refusal} → r ≡ Err d → encoded_for I s room ≡ refused (number_of d) (detail_of d)
  unfolding encoded_for
  encoded-refused is = after-refused I s (variables I) room e (own_cap I) is

  -- the plan is admitted, and the cap decides
  module _ {u : Unit {0}} (is : r ≡ Ok u) where
    by-cap : {within : Bool} → within_cap I (plan_of I s) ≡ within
        → encoded_for I s room ≡ (and_then (demand within 22) λ _. accepted (encode I (plan_of I s)))
    unfolding encoded_for
    by-cap w =
        after-goes I s (variables I) room e is (own_cap I)
        ∙ ap (λ (within : Bool). and_then (demand within 22) λ _. accepted (encode I (plan_of I s))) w

    pub encoded-over : within_cap I (plan_of I s) ≡ false → encoded_for I s room ≡ refused 22 0
    unfolding demand and_then
    encoded-over w = by-cap w

    pub encoded-accepted : within_cap I (plan_of I s) ≡ true → encoded_for I s room ≡ accepted (encode I (plan_of I s))
    unfolding demand and_then
    encoded-accepted w = by-cap w
