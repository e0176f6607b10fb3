use Rattle.formula.proofs.Blocks.{block-from}
use Rattle.formula.proofs.families.TrainPart.servers.Goals as goal

pub servers-requires : goal.servers-requires
servers-requires c =
    let t = c.args.self.now in
    (block-from t.block.block c.requires.0, c.requires.1, t.runs_held)
