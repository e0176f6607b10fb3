use Rattle.std.proofs.Common.{◌∙◌, ap, sym, ℕ}
use borrow.Author.Tests.{lt-ltb, le-ltb}
use Rattle.spec.specs.Lists.{one}
use Rattle.spec.specs.Formula.{not'}
use Rattle.clauses.proofs.Laws.{passes_same, passes-nothing, only-true, only-false}
use Rattle.formula.proofs.counting.Counting.counted_before.Goals as goal

pub returns-then-j-gt0 : goal.returns-then-j-gt0
returns-then-j-gt0 c =
    passes_same (ap (λ (v : ℕ). one (not' v)) c.variable.ensures.0 ∙ sym (only-true _ (lt-ltb _ _ c.if-j-gt0.true))) c.deny.ensures

pub returns-else-j-gt0 : goal.returns-else-j-gt0
returns-else-j-gt0 c = passes-nothing (only-false _ (le-ltb _ _ c.if-j-gt0.false))
