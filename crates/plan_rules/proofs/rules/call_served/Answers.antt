-- At the departure, or after it.
use Rattle.std.proofs.Common.{sym, ap, ◌∙◌, Bool, ◌||◌}
use Rattle.spec.specs.Instance.{instance_of}
use Rattle.spec.specs.Plan.{plan_of, served_by}
use Rattle.spec.specs.Held.{held}
use Rattle.tables.proofs.Here.{size_small, departure-answer}
use Rattle.plan_rules.proofs.rules.call_served.Goals as goal

pub served_at_departure-requires : goal.served_at_departure-requires
served_at_departure-requires c = size_small c.args.b c.requires.0.passed c.args.train c.requires.0.known

pub returns-then-served_at_departure : goal.returns-then-served_at_departure
returns-then-served_at_departure c =
    let later = served_by (instance_of (held c.args.b)) (plan_of (instance_of (held c.args.b)) c.args.plan.now) c.args.train c.args.number in
    c.if-served_at_departure.true
    ∙ ap (λ (x : Bool). x || later)
    (sym c.if-served_at_departure.true
    ∙ departure-answer c.args.b c.args.train c.args.number c.call_at-c.ensures c.requires.0.passed c.requires.0.known c.served_at_departure.ensures)

pub returns-else-served_at_departure : goal.returns-else-served_at_departure
returns-else-served_at_departure c =
    let later = served_by (instance_of (held c.args.b)) (plan_of (instance_of (held c.args.b)) c.args.plan.now) c.args.train c.args.number in
    c.served_after.ensures
    ∙ ap (λ (x : Bool). x || later)
    (sym c.if-served_at_departure.false
    ∙ departure-answer c.args.b c.args.train c.args.number c.call_at-c.ensures c.requires.0.passed c.requires.0.known c.served_at_departure.ensures)
