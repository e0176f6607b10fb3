use Rattle.std.proofs.Common.{◌≡◌, sym, ap, ◌∙◌, ◌+◌, ◌-◌, ℕ, [], arith, rules, tests}
use mathlib.Core.List.Memᴰ
use Rattle.std.proofs.lemmas.Iterator.{serves_from_Range}
use Rattle.laws.proofs.Rows.{any-one}
use Rattle.spec.specs.Lists.{any, one, least_from}
use Rattle.spec.specs.Instance.{instance_of}
use Rattle.spec.specs.Plan.{plan_of, trains_meet}
use Rattle.spec.specs.Carriers.{higher_train}
use Rattle.spec.specs.Held.{held}
use Rattle.tables.proofs.Small.{trains-is}
use Rattle.plan_rules.specs.Kept.{Planned}
use Rattle.plan_rules.proofs.Chains.{least-of-range}
use Rattle.plan_rules.proofs.Ready.{move_asks}
use Rattle.plan_rules.proofs.Sharing.{Marked, stretch-asks, stretch-fits, stretch-labels, marked-none, marked_next, touch-answer}
use Rattle.carriers.proofs.meeting.higher_train.Goals as goal

pub move_at-requires : goal.move_at-requires
move_at-requires c =
    let h : Planned c.args.b c.args.lower c.args.plan.now = record { passed = c.requires.0.0.counted.passed; known = c.requires.2; fits = c.requires.0.1 } in
    move_asks h c.args.interval c.requires.1

pub stretch_of-own-requires : goal.stretch_of-own-requires
stretch_of-own-requires c = stretch-asks _ c.requires.0 c.args.interval c.requires.1 c.args.lower c.requires.2 _ c.move_at.ensures

pub mark-requires : goal.mark-requires
mark-requires c = stretch-fits _ c.requires.0 c.args.interval c.requires.1 c.args.lower c.requires.2 _ c.move_at.ensures c.stretch_of-own.ensures

pub find-requires-clause-callable : goal.find-requires-clause-callable
find-requires-clause-callable c =
    serves_from_Range (λ x q k. search (rules, tests))
    (λ x low high.
    let h : Planned c.args.b x c.args.plan.now = record { passed = c.requires.0.0.counted.passed; known = high; fits = c.requires.0.1 } in
    let asks = move_asks h c.args.interval c.requires.1 in
    search (rules, stretch-asks c.args.plan.now c.requires.0 c.args.interval c.requires.1 x high, stretch-fits c.args.plan.now c.requires.0 c.args.interval c.requires.1 x high))

pub returns : goal.returns
unfolding higher_train
returns c =
    let I = instance_of (held c.args.b) in
    let p = plan_of I c.args.plan.now in
    let t = c.args.interval in
    let lower = c.args.lower in
    let marked : Marked I p t c.args.labels.now (one lower) c.mark.new.marks = rw (c.mark.ensures, stretch-labels _ c.requires.0 t c.requires.1 lower c.requires.2 _ c.move_at.ensures c.stretch_of-own.ensures)
    (marked_next _ c.requires.0 t c.requires.1 [] lower c.requires.2 _ (marked-none _ c.requires.0 t c.requires.1)) in
    c.unwrap_or.ensures
    ∙ least-of-range (trains_meet I p t lower) _ _ _
    (λ x b q k. (
      search rules,
      λ l m.
          let meets : b ≡ any (λ i. trains_meet I p t i x) (one lower) =
          search (rules, touch-answer c.args.plan.now c.requires.0 t c.requires.1 (one lower) (λ i e. omega (arith, Memᴰ.eq_of_singleton e, c.requires.2)) x m c.mark.new.marks marked) in
          meets ∙ any-one (λ i. trains_meet I p t i x) lower,
    )) (omega (arith, c.requires.2)) c.find.ensures.ran
    ∙ ap (λ (n : ℕ). least_from (trains_meet I p t lower) (lower + 1) (n - (lower + 1))) (sym (trains-is c.args.b c.requires.0.0.counted.passed))
