use Rattle.std.proofs.Common.{ap, sym, arith, ℕ, ◌+◌, List}
use Rattle.spec.specs.Lists.{each, only, one}
use Rattle.spec.specs.Formula.{is}
use Rattle.laws.proofs.Tests.{true_of}
use Rattle.clauses.proofs.Laws.{passes_same, only-true}
use Rattle.clauses.proofs.Turns.{range-next, range-end, ahead-start, ahead-same, ahead-pass, ahead-done}
use Rattle.formula.proofs.Chain.{first_below, first_passes, first_rows, next-below, next-passes, next-rows}
use Rattle.formula.proofs.families.followers.Goals as goal

pub loop-q-init : goal.loop-q-init
loop-q-init c f h = (first_below h, first_passes h, ahead-same (first_rows h _) (ahead-start _ _))

pub loop-q-smaller : goal.loop-q-smaller
loop-q-smaller c =
    let h = c.requires.3 in
    omega (arith, next-below h.1 c.loop-q.q c.loop-q-test.true ((c.loop-q.invariant h.0 h.1).1 c.loop-q-test.true))

pub loop-q-preserved : goal.loop-q-preserved
unfolding each
loop-q-preserved c f h =
    let v = c.loop-q.invariant f h in
    let q = c.loop-q.q in
    let below = c.loop-q-test.true in
    let found = v.1 below in
    let turn = ahead-same (ap (λ (ks : List ℕ). each ks λ k. only (f k) (one (is (c.args.base + k)))) (range-next q _ below)) v.2 in (
      (next-below h q below found).1,
      next-passes h q below found,
      ahead-same (next-rows h q below found _) (ahead-pass turn (passes_same (sym (only-true _ (true_of _ found))) c.affirm.ensures)),
    )

pub returns : goal.returns
unfolding each
returns c f h =
    ahead-done (ahead-same (ap (λ (ks : List ℕ). each ks λ k. only (f k) (one (is (c.args.base + k)))) (range-end _ _ c.loop-q-test.false))
    (c.loop-q.invariant f h).2)
