use Rattle.formula.proofs.Blocks.{block-from}
use Rattle.formula.proofs.families.TrainPart.clauses_g.Goals as goal

pub clauses_g-requires : goal.clauses_g-requires
clauses_g-requires c =
    let t = c.args.self.now in
    (block-from t.block.block c.requires, t.runs_held)
