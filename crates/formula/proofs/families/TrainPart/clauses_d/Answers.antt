use Rattle.formula.proofs.Blocks.{block-from}
use Rattle.formula.proofs.families.TrainPart.clauses_d.Goals as goal

pub clauses_d-requires : goal.clauses_d-requires
clauses_d-requires c =
    let t = c.args.self.now in
    (block-from t.block.block c.requires, t.runs_held)
