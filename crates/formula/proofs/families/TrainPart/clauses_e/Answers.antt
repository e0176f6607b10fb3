use Rattle.formula.proofs.Blocks.{block-from}
use Rattle.formula.proofs.families.TrainPart.clauses_e.Goals as goal

pub clauses_e-requires : goal.clauses_e-requires
clauses_e-requires c =
    let t = c.args.self.now in
    (block-from t.block.block c.requires, t.runs_held, t.chains_held)
