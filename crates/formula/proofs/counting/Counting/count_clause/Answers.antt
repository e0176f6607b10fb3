use Rattle.std.proofs.Common.{ap, ℕ}
use lib.Dec.{ltb}
use Rattle.spec.specs.Lists.{only, one}
use Rattle.spec.specs.Formula.{is}
use Rattle.clauses.proofs.Laws.{passes_same, passes-behind}
use Rattle.demands.proofs.Words.{words-one}
use Rattle.formula.proofs.counting.Counting.count_clause.Goals as goal

pub returns : goal.returns
returns c =
    let counted = passes_same (ap (λ (v : ℕ). only (ltb c.args.j c.args.self.now.counter.most) (one (is v))) c.variable.ensures.0) c.affirm_if.ensures in
    let literals = passes-behind c.deny.ensures (passes-behind c.counted_before.ensures counted) in
    passes_same (words-one _) (passes-behind literals c.close.ensures)
