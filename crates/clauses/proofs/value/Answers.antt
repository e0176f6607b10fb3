-- A variable past the end reads as 0.
use Rattle.std.proofs.Common.{◌∙◌, ap, sym, rules}
use borrow.Author.Tests.{le-ltb}
use Prim.Native.Nat.{ℕ}
use lib.Dec.{eqb}
use lib.ListN.{get_or-eq_default}
use Rattle.spec.specs.Assignment.{assigned}
use Rattle.clauses.proofs.value.Goals as goal

pub returns-then-v-values : goal.returns-then-v-values
unfolding assigned
returns-then-v-values c = search rules

pub returns-else-v-values : goal.returns-else-v-values
unfolding assigned
returns-else-v-values c =
    let h = c.if-v-values.false in
    le-ltb _ _ h ∙ sym (ap (λ (x : ℕ). eqb x 1) (get_or-eq_default c.args.values.now 0 h))
