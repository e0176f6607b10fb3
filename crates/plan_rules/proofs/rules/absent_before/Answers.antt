-- The test of an interval is that the move is absent exactly before the departure.
use Rattle.std.proofs.Common.{rules, tests, arith, sym, ◌∙◌}
use Rattle.std.proofs.lemmas.Iterator.{serves_from_Range}
use Rattle.spec.specs.Instance.{instance_of}
use Rattle.spec.specs.Plan.{plan_of}
use Rattle.spec.specs.Held.{held}
use Rattle.tables.proofs.Here.{departs-here, departs-asks}
use Rattle.tables.proofs.Small.{intervals-is}
use Rattle.plan_rules.proofs.Chains.{all-of-range}
use Rattle.plan_rules.proofs.Loops.{absent-steps}
use Rattle.plan_rules.proofs.Ready.{move_asks}
use Rattle.plan_rules.proofs.rules.absent_before.Goals as goal

pub all-requires-clause-callable : goal.all-requires-clause-callable
all-requires-clause-callable c =
    serves_from_Range (λ x q k. search (rules, tests)) (λ x low high. let asks = move_asks c.requires x high in search rules)

pub returns : goal.returns
returns c =
    let b = c.args.b in
    let i = c.args.train in
    let p = c.requires in
    all-of-range _ _ (λ x r q k. (search rules, λ l m. search rules)) c.all.ensures.ran
    ∙ sym (absent-steps (instance_of (held b)) (plan_of (instance_of (held b)) c.args.plan.now) i
    (sym (departs-here b p.passed i p.known)) (intervals-is b p.passed) (omega (arith, (departs-asks b p.passed i p.known).0)))
