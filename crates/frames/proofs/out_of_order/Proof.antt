-- `frames::out_of_order` meets its contract: the two early answers are the Head's, and behind them the rest of the test is left.
-- Assumes nothing.
use borrow.Author.Rules.{rules}
use borrow.Author.Tests.{lt-ltb, le-ltb}
use mathlib.Core.Path.{◌≡◌, sym, ◌∙◌}
use mathlib.Core.Logic.{inl, inr}
use mathlib.Core.Bool.{not, ◌&&◌, ◌||◌}
use lib.Dec.{ltb, eqb}
use Rattle.spec.specs.Frames.{kind_number}
use Rattle.spec.specs.Read.{is_end}
use Rattle.frames.specs.Framed.{out_of_order_by}
use Rattle.frames.proofs.Order.{not_first, second_head, order-rest, agrees, differs}
use Rattle.frames.proofs.out_of_order.Statement.{statement}
use Rattle.frames.proofs.out_of_order.Tie as tie
use Rattle.frames.proofs.out_of_order.Lts.{else-last-eq0+else-kind-eq-KIND, then-last-eq0+else-kind-ne-KIND}

returns : tie.Need-returns-then-kind-ne-KIND
returns c = not_first _ _ _ c.if-last-eq0.true c.if-kind-ne-KIND.true

returns-2 : tie.Need-returns-then-kind-eq-KIND
returns-2 c = second_head _ _ _ c.if-last-eq0.false c.if-kind-eq-KIND.true

rank-requires : tie.Need-rank-place-requires
rank-requires c κs = search rules

-- past the two early answers
rest : (c : tie.After-rank-place)
    → out_of_order_by c.args.last c.args.kind c.args.left
    ≡ (ltb c.rank-place.result c.args.last || is_end c.args.kind && not (eqb c.args.left 0))
rest c =
    order-rest _ _ _ (elim (c.if-last-eq0.branch) [ then-last-eq0+else-kind-ne-KIND w ↦ inl (w.if-last-eq0.true, w.if-kind-ne-KIND.false) | else-last-eq0+else-kind-eq-KIND w ↦ inr (w.if-last-eq0.false, w.if-kind-eq-KIND.false) ])
    ∙ simp (← c.rank-place.ensures)

returns-3 : tie.Need-returns-then-goes_down
returns-3 c = sym (rest c.before ∙ simp (lt-ltb _ _ c.if-goes_down.true))

returns-4 : tie.Need-returns-then-kind-eq-KIND-2
unfolding is_end kind_number
returns-4 c = sym (rest c.before.before ∙ simp (le-ltb _ _ c.if-goes_down.false, agrees _ 8 c.if-kind-eq-KIND-2.true))

returns-5 : tie.Need-returns-else-kind-eq-KIND-2
unfolding is_end kind_number
returns-5 c = sym (rest c.before.before ∙ simp (le-ltb _ _ c.if-goes_down.false, differs _ 8 c.if-kind-eq-KIND-2.false))

pub out_of_order_spec : {M : Type 1} → statement M
out_of_order_spec =
    tie.close (tie.spec returns returns-2 rank-requires returns-3 returns-4 returns-5)
