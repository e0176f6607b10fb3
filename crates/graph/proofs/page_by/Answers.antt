-- Room and the judgement, then the page.
use native.Mathlib.Nat.{mul_comm}
use mathlib.Core.Path.{◌≡◌, sym, ap, ◌∙◌}
use Prim.Native.Nat.{ℕ, ◌*◌}
use lib.ListN.{length}
use Rattle.std.proofs.lemmas.Result.{err_from_is_err_and}
use Rattle.model.specs.declared.Book.{Book as BookStruct}
use Rattle.spec.specs.Lists.{Bytes, accepted}
use Rattle.spec.specs.Instance.{Instance, instance_of}
use Rattle.spec.specs.Plan.{Plan, plan_of}
use Rattle.spec.specs.Entry.{admit_plan}
use Rattle.spec.specs.Page.{page, page_bytes, page_for}
use Rattle.spec.specs.Held.{held}
use Rattle.demands.proofs.Entries.{plan-iff}
use Rattle.demands.proofs.Pages.{page-long}
use Rattle.reader.proofs.Outputs.{left-stopped, left-written}
use Rattle.plan_rules.proofs.Admitted.{after-refused, after-room, after-judged, after-goes}
use Rattle.tables.specs.Tables.{Passed}
use Rattle.tables.proofs.Small.{intervals-is}
use Rattle.graph.proofs.page_by.Goals as goal

-- the answer to the plan, by the page's length
module _ (b : BookStruct) (p : Passed b) (plan : Bytes) (room : ℕ) where
  abbrev I : Instance
  I = instance_of (held b)

  need : b.intervals * 81 ≡ page_bytes I
  unfolding page_bytes
  need = mul_comm b.intervals 81 ∙ ap (λ (n : ℕ). 81 * n) (sym (intervals-is b p))

  asked : admit_plan I plan (b.intervals * 81) room ≡ admit_plan I plan (page_bytes I) room
  asked = ap (λ (n : ℕ). admit_plan I plan n room) need

pub returns-in_err-admit_plan : goal.returns-in_err-admit_plan
unfolding page_for
returns-in_err-admit_plan c =
    let p = err_from_is_err_and c.from_residual.result c.from_residual.ensures.1 in
    let b = c.args.t.now.book in
    let own = λ (q : Plan). accepted (page (instance_of (held b)) q) in
    let e = c.admit_plan.ensures ∙ asked b c.args.t.now.runs_ready.counted.passed c.args.plan.now (length c.args.page.now) in
    let h = left-stopped c.args.page.now (after-refused _ _ _ _ e own c.in_err-admit_plan.was) in
    record { answer = rw (p.1, p.2) h.0; output = h.1 }

pub put_page-requires : goal.put_page-requires
put_page-requires c =
    let t = c.args.t.now in
    let plan = c.args.plan.now in
    let e = c.admit_plan.ensures ∙ asked t.book t.runs_ready.counted.passed plan (length c.args.page.now) in
    let is = c.in_ok-admit_plan.was in
    (t.runs_ready, ((plan-iff _ plan).0 (after-judged _ _ _ _ e is)).0, after-room _ _ _ _ e is)

pub returns : goal.returns
unfolding page_for
returns c =
    let t = c.args.t.now in
    let plan = c.args.plan.now in
    let passed = t.runs_ready.counted.passed in
    let I = instance_of (held t.book) in
    let e = c.admit_plan.ensures ∙ asked t.book passed plan (length c.args.page.now) in
    let goes = after-goes _ _ _ _ e c.in_ok-admit_plan.was (λ q. accepted (page I q)) in
    let h = left-written c.args.page.now (page I (plan_of I plan)) goes
    (need t.book passed plan 0 ∙ sym (page-long (held t.book) passed.formed (plan_of I plan))) c.put_page.ensures in
    record { answer = h.0; output = h.1 }
