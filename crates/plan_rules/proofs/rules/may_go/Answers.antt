-- The move is a run of the train's, whose end lies in the table, or it is none.
use Rattle.std.proofs.Common.{◌∙◌}
use Rattle.tables.proofs.Answers.{leaves-answer, leave-asks}
use Rattle.plan_rules.proofs.Ready.{runs-run, runs-none, below, run-asks, run_ends}
use Rattle.plan_rules.proofs.rules.may_go.Goals as goal

pub end_of-requires : goal.end_of-requires
end_of-requires c = run-asks c.requires.0 c.requires.1 c.in-Run.is

pub may_leave-requires : goal.may_leave-requires
may_leave-requires c =
    let h = c.requires.0 in
    let own = below h c.requires.1 c.in-Run.is in
    let place = leave-asks c.args.b c.args.train _ h.reached h.table own h.passed h.known c.end_of.ensures in
    (h.passed, c.requires.2, place.0, place.1, place.2)

pub returns-in-Run : goal.returns-in-Run
returns-in-Run c =
    let place = run_ends c.requires.0 c.requires.1 c.in-Run.is c.end_of.ensures in
    leaves-answer c.args.b c.args.train _ c.requires.0.reached place c.may_leave.ensures ∙ runs-run _ c.in-Run.is

pub returns-in-Absent : goal.returns-in-Absent
returns-in-Absent c = runs-none _ c.in-Absent.is
