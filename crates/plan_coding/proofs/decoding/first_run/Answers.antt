-- What the search over a range finds.
use borrow.Author.Rules.{rules}
use borrow.Author.Tests.{tests}
use mathlib.Core.Bool.{true, false}
use mathlib.Core.Path.{◌≡◌}
use Prim.Native.Nat.{◌+◌}
use Rattle.std.proofs.lemmas.Iterator.{first_from_Range}
use Rattle.spec.specs.Assignment.{assigned}
use Rattle.plan_coding.proofs.decoding.first_run.Goals as goal

pub returns : goal.returns
returns c =
    let a = c.args in
    let found = first_from_Range _ _ _ _ (λ k. assigned a.values.now (a.base + k) ≡ true) (λ k. assigned a.values.now (a.base + k) ≡ false)
    c.find.ensures.ran (λ x q k. search (rules, tests)) (λ x q k. search (rules, tests)) in
    search rules
