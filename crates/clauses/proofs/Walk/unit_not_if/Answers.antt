use Rattle.std.proofs.Common.{ap, sym}
use Rattle.spec.specs.Lists.{each}
use Rattle.spec.specs.Formula.{words_of}
use Rattle.clauses.proofs.Laws.{passes_same, passes-nothing, only-true, only-false}
use Rattle.clauses.proofs.Walk.unit_not_if.Goals as goal

pub returns-then-test : goal.returns-then-test
returns-then-test c = passes_same (ap words_of (sym (only-true _ c.if-test.true))) c.unit_not.ensures

pub returns-else-test : goal.returns-else-test
unfolding words_of each
returns-else-test c = passes-nothing (ap words_of (only-false _ c.if-test.false))
