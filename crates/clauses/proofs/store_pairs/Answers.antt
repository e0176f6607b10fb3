use Rattle.std.proofs.Common.{◌≡◌, ◌+◌, ◌*◌, ◌-◌, arith, sym, ◌∙◌}
use Rattle.clauses.proofs.Laws.{not-said}
use Rattle.clauses.proofs.Pairs.{stored-pair, stored-all}
use Rattle.clauses.proofs.store_pairs.Goals as goal

pub loop-k-preserved : goal.loop-k-preserved
loop-k-preserved c =
    let a = c.args in
    let x = c.loop-k in
    let i : a.at + 3 * (x.k - a.m - 1) ≡ a.at + 3 * (x.k - (a.m + 1)) = omega arith in
    let j : a.at + 3 * (x.k - (a.m + 1)) + 3 ≡ a.at + 3 * (x.k + 1 - (a.m + 1)) = omega arith in
    rw (not-said _ _ (omega arith) c.negative-first.ensures, not-said _ _ (omega arith) c.negative.ensures, i, ← j)
    (x.invariant ∙ stored-pair (a.from + a.m) a.from x.k a.n (a.at + 3 * (x.k - (a.m + 1))) x.out c.loop-k-test.true (omega arith))

pub returns : goal.returns
returns c =
    let a = c.args in
    let x = c.loop-k in
    sym (x.invariant ∙ stored-all (a.from + a.m) a.from x.k a.n _ x.out c.loop-k-test.false)
