-- The move before is a run of the train's, or it is none.
use Rattle.std.proofs.Common.{◌∙◌}
use Rattle.plan_rules.proofs.Ready.{if-run, if-none, below}
use Rattle.plan_rules.proofs.rules.goes_on.Goals as goal

pub goes_from-requires : goal.goes_from-requires
goes_from-requires c =
    let p = c.requires in
    (p.0, below p.0 p.1 c.in-Run.is, p.2)

pub returns-in-Run : goal.returns-in-Run
returns-in-Run c = c.goes_from.ensures ∙ if-run _ c.in-Run.is

pub returns-in-Absent : goal.returns-in-Absent
returns-in-Absent c = if-none _ c.in-Absent.is
