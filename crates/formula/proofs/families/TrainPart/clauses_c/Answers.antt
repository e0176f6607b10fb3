use Rattle.std.proofs.Common.{ap, arith, ℕ}
use Rattle.spec.specs.Formula.{words_of, clauses_c}
use Rattle.clauses.proofs.Laws.{passes_same}
use Rattle.tables.proofs.Held.{few-n}
use Rattle.formula.proofs.families.TrainPart.clauses_c.Goals as goal

pub clauses_c-requires : goal.clauses_c-requires
clauses_c-requires c =
    let t = c.args.self.now in
    let few = few-n t.runs_held _ t.block.block.runs in
    (omega (arith, few), few)

pub returns : goal.returns
returns c = passes_same (ap (λ (n : ℕ). words_of (clauses_c n c.args.base)) c.args.self.now.block.block.runs) c.clauses_c.ensures
