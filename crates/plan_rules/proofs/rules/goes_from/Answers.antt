-- The move is a run of the train's, which the code asks of, or it is none.
use Rattle.std.proofs.Common.{◌∙◌}
use Rattle.plan_rules.proofs.Ready.{if-run, if-none, below, follows-asks, follows-answer}
use Rattle.plan_rules.proofs.rules.goes_from.Goals as goal

pub follows-requires : goal.follows-requires
follows-requires c =
    let p = c.requires in
    follows-asks p.0 _ _ p.1 (below p.0 p.2 c.in-Run.is)

pub returns-in-Run : goal.returns-in-Run
returns-in-Run c =
    let p = c.requires in
    follows-answer p.0 _ _ p.1 (below p.0 p.2 c.in-Run.is) c.follows.ensures ∙ if-run _ c.in-Run.is

pub returns-in-Absent : goal.returns-in-Absent
returns-in-Absent c = if-none _ c.in-Absent.is
