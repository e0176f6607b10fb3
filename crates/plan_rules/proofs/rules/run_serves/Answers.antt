-- The move is a run of the train's, whose end lies in the table, or it is none.
use Rattle.std.proofs.Common.{◌∙◌}
use Rattle.tables.proofs.Answers.{serves-answer}
use Rattle.plan_rules.proofs.Ready.{runs-run, runs-none, run-asks, run_room, run_ends}
use Rattle.plan_rules.proofs.rules.run_serves.Goals as goal

pub end_of-requires : goal.end_of-requires
end_of-requires c = run-asks c.requires.0 c.requires.1 c.in-Run.is

pub serves-requires : goal.serves-requires
serves-requires c = run_room c.requires.0 c.requires.1 c.in-Run.is c.end_of.ensures

pub returns-in-Run : goal.returns-in-Run
returns-in-Run c =
    let place = run_ends c.requires.0 c.requires.1 c.in-Run.is c.end_of.ensures in
    serves-answer c.args.b c.args.train _ c.requires.0.reached c.args.number c.requires.2 place c.serves.ensures
    ∙ runs-run _ c.in-Run.is

pub returns-in-Absent : goal.returns-in-Absent
returns-in-Absent c = runs-none _ c.in-Absent.is
