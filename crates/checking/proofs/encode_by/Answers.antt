-- Room and the judgement, then the cap, then the assignment. Assumes nothing.
use Rattle.std.proofs.Common.{◌≡◌, ℕ, ◌≤◌, length, T, sym, ap, ◌∙◌, arith}
use Rattle.std.specs.Prelude.{Result, Ok}
use Rattle.std.proofs.Math.Option.{Option}
use Rattle.std.proofs.lemmas.Result.{err_from_is_err_and}
use Rattle.model.specs.declared.refusals.Refusal.{Refusal}
use Rattle.spec.specs.Lists.{Bytes, Verdict}
use Rattle.spec.specs.Instance.{Instance, instance_of, under}
use Rattle.spec.specs.Plan.{Plan, plan_fits, plan_of}
use Rattle.spec.specs.Cap.{within_cap}
use Rattle.spec.specs.Formula.{variables}
use Rattle.spec.specs.Assignment.{encode}
use Rattle.spec.specs.Answers.{told}
use Rattle.spec.specs.Entry.{admit_plan, overwrite}
use Rattle.spec.specs.Held.{held, held_cap}
use Rattle.demands.proofs.Moves.{nodes-inside}
use Rattle.demands.proofs.Uncapped.{plan-same}
use Rattle.tables.proofs.Small.{nodes-is}
use Rattle.reader.proofs.Outputs.{left-stopped, left-written}
use Rattle.plan_rules.proofs.Admitted.{after-room, after-judged}
use Rattle.checking.proofs.Uncapped.{judge-same, admit-same}
use Rattle.checking.proofs.Answers.{plan-fits, length-assignment, encoded-refused, encoded-over, encoded-accepted}
use Rattle.checking.proofs.encode_by.Goals as goal

-- the answer to the plan without the cap, as the answer under it, whose formula has n variables
module _ (cap : Option ℕ) (own : Instance) (plan : Bytes) (room : ℕ) {n : ℕ} (need : n ≡ variables (under cap own)) where
  admitted : {v : Verdict (Unit {0})} → v ≡ admit_plan own plan n room → v ≡ admit_plan (under cap own) plan (variables (under cap own)) room
  admitted e = e ∙ ap (λ (k : ℕ). admit_plan own plan k room) need ∙ sym (admit-same cap own plan (variables (under cap own)) room)

  -- it is accepted
  module _ {r : Result (Unit {0}) Refusal} (e : told r ≡ admit_plan own plan n room) {u : Unit {0}} (is : r ≡ Ok u) where
    fits : T (plan_fits own plan)
    fits =
        plan-fits own plan (sym (judge-same cap own plan)
        ∙ after-judged (under cap own) plan (variables (under cap own)) room (admitted e) is)

    has-room : variables (under cap own) ≤ room
    has-room = after-room (under cap own) plan (variables (under cap own)) room (admitted e) is

pub returns-in_err-admit_plan : goal.returns-in_err-admit_plan
returns-in_err-admit_plan c =
    let p = err_from_is_err_and c.from_residual.result c.from_residual.ensures.1 in
    let cap = held_cap c.args.cap in
    let own = instance_of (held c.args.t.now.book) in
    let out = c.args.out.now in
    let s = c.args.plan.now in
    let h = left-stopped out (encoded-refused (under cap own) s (length out)
    (admitted cap own s (length out) c.variable_count-length.ensures.0 c.admit_plan.ensures) c.in_err-admit_plan.was) in
    record { answer = rw (p.1, p.2) h.0; output = h.1 }

pub within_cap-requires : goal.within_cap-requires
within_cap-requires c =
    let t = c.args.t.now in
    let p = t.runs_ready.counted.passed in
    let f = fits (held_cap c.args.cap) (instance_of (held t.book)) c.args.plan.now _ c.variable_count-length.ensures.0 c.admit_plan.ensures c.in_ok-admit_plan.was in
    (p.packed.counts, omega (arith, nodes-inside _ _ f, nodes-is t.book p))

pub returns-then-not-within_cap : goal.returns-then-not-within_cap
returns-then-not-within_cap c =
    let cap = held_cap c.args.cap in
    let own = instance_of (held c.args.t.now.book) in
    let out = c.args.out.now in
    let s = c.args.plan.now in
    let h = left-stopped out (encoded-over (under cap own) s (length out)
    (admitted cap own s (length out) c.variable_count-length.ensures.0 c.admit_plan.ensures) c.in_ok-admit_plan.was
    (ap (within_cap (under cap own)) (plan-same cap own s) ∙ sym c.within_cap.ensures ∙ c.if-not-within_cap.true)) in
    record { answer = h.0; output = h.1 }

pub write_plan-requires : goal.write_plan-requires
write_plan-requires c =
    let cap = held_cap c.args.cap in
    let own = instance_of (held c.args.t.now.book) in
    let s = c.args.plan.now in
    let e = c.admit_plan.ensures in
    let n = c.variable_count-length.ensures.0 in
    (fits cap own s _ n e c.in_ok-admit_plan.was, has-room cap own s _ n e c.in_ok-admit_plan.was)

pub returns : goal.returns
returns c =
    let cap = held_cap c.args.cap in
    let own = instance_of (held c.args.t.now.book) in
    let I = under cap own in
    let out = c.args.out.now in
    let s = c.args.plan.now in
    let need = c.variable_count-length.ensures.0 in
    let h = left-written out (encode I (plan_of I s))
    (encoded-accepted I s (length out) (admitted cap own s (length out) need c.admit_plan.ensures) c.in_ok-admit_plan.was
    (ap (within_cap I) (plan-same cap own s) ∙ sym c.within_cap.ensures ∙ c.if-not-within_cap.false))
    (need ∙ sym (length-assignment _ _))
    (c.write_plan.ensures ∙ ap (λ (p : Plan). overwrite out (encode I p)) (sym (plan-same cap own s))) in
    record { answer = h.0; output = h.1 }
