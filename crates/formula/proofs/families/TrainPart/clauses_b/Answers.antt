use Rattle.std.proofs.Common.{ap, ℕ}
use Rattle.spec.specs.Formula.{words_of, clauses_b}
use Rattle.clauses.proofs.Laws.{passes_same}
use Rattle.formula.proofs.families.TrainPart.clauses_b.Goals as goal

pub returns : goal.returns
returns c = passes_same (ap (λ (n : ℕ). words_of (clauses_b n c.args.base)) c.args.self.now.block.block.runs) c.clauses_b.ensures
