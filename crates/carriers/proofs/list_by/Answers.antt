-- Room and the judgement, then the list.
use mathlib.Core.Path.{◌≡◌, ap, ◌∙◌}
use Prim.Native.Nat.{ℕ, ◌*◌}
use lib.ListN.{length}
use Rattle.std.proofs.lemmas.Result.{err_from_is_err_and}
use Rattle.spec.specs.Lists.{Bytes, accepted}
use Rattle.spec.specs.Instance.{Instance, instance_of, free_nodes_of}
use Rattle.spec.specs.Plan.{plan_of}
use Rattle.spec.specs.Entry.{admit_plan}
use Rattle.spec.specs.Carriers.{carrier_list, carrier_room, carriers_for}
use Rattle.spec.specs.Held.{held}
use Rattle.demands.proofs.Entries.{plan-iff}
use Rattle.reader.proofs.Outputs.{left-stopped, left-written}
use Rattle.plan_rules.proofs.Admitted.{after-refused, after-room, after-judged, after-goes}
use Rattle.carriers.proofs.list_by.Goals as goal

-- the answer to the plan, by the room for the list
module _ (I : Instance) (plan : Bytes) (room : ℕ) {free : ℕ} (counts : free ≡ length (free_nodes_of I)) where
  asked : admit_plan I plan (free * 4) room ≡ admit_plan I plan (carrier_room I) room
  unfolding carrier_room
  asked = ap (λ (n : ℕ). admit_plan I plan (n * 4) room) counts

pub returns-in_err-admit_plan : goal.returns-in_err-admit_plan
unfolding carriers_for
returns-in_err-admit_plan c =
    let p = err_from_is_err_and c.from_residual.result c.from_residual.ensures.1 in
    let I = instance_of (held c.args.t.now.book) in
    let e = c.admit_plan.ensures ∙ asked I c.args.plan.now (length c.args.out.now) c.count_free-room.ensures.0 in
    let h = left-stopped c.args.out.now (after-refused _ _ _ _ e (λ q. accepted (carrier_list I q)) c.in_err-admit_plan.was) in
    record { answer = rw (p.1, p.2) h.0; output = h.1 }

pub put_list-requires : goal.put_list-requires
put_list-requires c =
    let t = c.args.t.now in
    let plan = c.args.plan.now in
    let e = c.admit_plan.ensures ∙ asked (instance_of (held t.book)) plan (length c.args.out.now) c.count_free-room.ensures.0 in
    let is = c.in_ok-admit_plan.was in
    (t.runs_ready, t.meets_ready, ((plan-iff _ plan).0 (after-judged _ _ _ _ e is)).0, after-room _ _ _ _ e is)

pub returns : goal.returns
unfolding carriers_for
returns c =
    let plan = c.args.plan.now in
    let I = instance_of (held c.args.t.now.book) in
    let e = c.admit_plan.ensures ∙ asked I plan (length c.args.out.now) c.count_free-room.ensures.0 in
    let goes = after-goes _ _ _ _ e c.in_ok-admit_plan.was (λ q. accepted (carrier_list I q)) in
    let h = left-written c.args.out.now (carrier_list I (plan_of I plan)) goes c.put_list.ensures.0 c.put_list.ensures.1 in
    record { answer = h.0; output = h.1 }
