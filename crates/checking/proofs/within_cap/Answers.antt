-- Case by case. Assumes nothing.
use Rattle.std.proofs.Common.{◌≡◌, ℕ, sym, ap, ◌∙◌}
use Rattle.std.specs.Prelude.{Option, leb}
use Rattle.spec.specs.Instance.{instance_of}
use Rattle.spec.specs.Plan.{borders_of, plan_of}
use Rattle.spec.specs.Cap.{allows, set_count}
use Rattle.spec.specs.Held.{held, held_cap}
use Rattle.demands.proofs.Uncapped.{within-is}
use Rattle.checking.proofs.within_cap.Goals as goal

-- the answer for the case that the cap is
by-case : {k k' : Option ℕ} (n : ℕ) → k ≡ k' → allows (held_cap k') n ≡ allows (held_cap k) n
by-case n e = ap (λ (k : Option ℕ). allows (held_cap k) n) (sym e)

pub returns-in-None : goal.returns-in-None
unfolding allows plan_of
returns-in-None c =
    let a = c.args in
    let I = instance_of (held a.b) in
    by-case (set_count I (borders_of a.plan.now)) c.in-None.is ∙ sym (within-is (held_cap a.cap) I (plan_of I a.plan.now))

pub returns-in-Some : goal.returns-in-Some
unfolding allows plan_of
returns-in-Some c =
    let a = c.args in
    let I = instance_of (held a.b) in
    ap (λ (n : ℕ). leb n c.in-Some.most) c.count_set.ensures
    ∙ by-case (set_count I (borders_of a.plan.now)) c.in-Some.is
    ∙ sym (within-is (held_cap a.cap) I (plan_of I a.plan.now))
