use Rattle.std.proofs.Common.{ap, ℕ}
use Rattle.spec.specs.Lists.{only, one}
use Rattle.spec.specs.Formula.{is}
use Rattle.clauses.proofs.Laws.{passes_same, passes-behind}
use Rattle.demands.proofs.Words.{words-one}
use Rattle.formula.proofs.families.clause_e.Goals as goal

pub returns : goal.returns
returns c f h =
    let gone = passes_same (ap (λ (v : ℕ). only c.args.leaves (one (is v))) c.gone_variable.ensures) c.affirm_if.ensures in
    let literals = passes-behind c.deny.ensures (passes-behind (c.followers.ensures f h) gone) in
    passes_same (words-one _) (passes-behind literals c.close.ensures)
