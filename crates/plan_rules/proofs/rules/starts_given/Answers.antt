-- The move is a run of the train's, which starts in the table, or it is none.
use Rattle.std.proofs.Common.{◌∙◌}
use Rattle.tables.proofs.Answers.{given-answer}
use Rattle.tables.proofs.Here.{same-train, size_small}
use Rattle.plan_rules.proofs.Ready.{runs-run, runs-none, below, few, start-inside, starting}
use Rattle.plan_rules.proofs.rules.starts_given.Goals as goal

pub start_of-requires : goal.start_of-requires
start_of-requires c = few c.requires.0 _ (below c.requires.0 c.requires.1 c.in-Run.is)

pub is_given-requires : goal.is_given-requires
is_given-requires c =
    let p = c.requires.0 in
    (start-inside p _ (below p c.requires.1 c.in-Run.is) c.start_of.ensures, size_small c.args.b p.passed c.args.train p.known)

pub returns-in-Run : goal.returns-in-Run
returns-in-Run c =
    let p = c.requires.0 in
    given-answer c.args.b c.args.train _ p.reached (same-train c.args.b p.passed c.args.train p.known)
    (starting p _ (below p c.requires.1 c.in-Run.is) c.start_of.ensures) c.is_given.ensures
    ∙ runs-run _ c.in-Run.is

pub returns-in-Absent : goal.returns-in-Absent
returns-in-Absent c = runs-none _ c.in-Absent.is
