use Rattle.std.proofs.Common.{ap}
use Rattle.spec.specs.Formula.{words_of, clauses_b}
use Rattle.clauses.proofs.Laws.{passes_same}
use Rattle.formula.proofs.Rest.{map_last}
use Rattle.formula.proofs.families.clauses_b.Goals as goal

pub returns : goal.returns
unfolding clauses_b
returns c =
    passes_same (ap words_of (map_last _ _)) c.deny_all.ensures
