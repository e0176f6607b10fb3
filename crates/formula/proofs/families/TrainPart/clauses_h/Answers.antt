use Rattle.formula.proofs.Blocks.{block-from}
use Rattle.formula.proofs.families.TrainPart.clauses_h.Goals as goal

pub clauses_h-requires : goal.clauses_h-requires
clauses_h-requires c =
    let t = c.args.self.now in
    (block-from t.block.block c.requires, t.meets_ready)
