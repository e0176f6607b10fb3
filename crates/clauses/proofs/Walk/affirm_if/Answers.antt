use Rattle.std.proofs.Common.{sym}
use Rattle.clauses.proofs.Laws.{passes_same, passes-nothing, only-true, only-false}
use Rattle.clauses.proofs.Walk.affirm_if.Goals as goal

pub returns-then-test : goal.returns-then-test
returns-then-test c = passes_same (sym (only-true _ c.if-test.true)) c.affirm.ensures

pub returns-else-test : goal.returns-else-test
returns-else-test c = passes-nothing (only-false _ c.if-test.false)
