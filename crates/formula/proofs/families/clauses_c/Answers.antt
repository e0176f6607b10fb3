use Rattle.std.proofs.Common.{ap}
use Rattle.spec.specs.Lists.{one}
use Rattle.spec.specs.Formula.{Clause, words_of, clauses_c}
use Rattle.clauses.proofs.Laws.{passes_same}
use Rattle.formula.proofs.Rest.{map_last, passes-both}
use Rattle.formula.proofs.families.clauses_c.Goals as goal

pub returns : goal.returns
unfolding clauses_c
returns c =
    let some = passes_same (ap (λ (ls : Clause). words_of (one ls)) (map_last _ _)) c.some_of.ensures in
    passes-both _ _ some c.no_two.ensures
