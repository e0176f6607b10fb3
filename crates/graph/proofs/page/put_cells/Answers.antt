-- A turn stores a cell behind those that stand.
use native.Mathlib.Omega.{arith}
use mathlib.Core.Path.{◌≡◌, sym, ap, ◌∙◌}
use mathlib.Core.List.{◌++◌}
use Prim.Native.Nat.{ℕ}
use lib.ListN.{length}
use Rattle.spec.specs.Lists.{Bytes, each, up_to, count}
use Rattle.spec.specs.Instance.{instance_of}
use Rattle.spec.specs.Plan.{plan_of}
use Rattle.spec.specs.Page.{shown_of, cell, cells}
use Rattle.spec.specs.Held.{held}
use Rattle.laws.proofs.Stores.{stored-none, stored, stored-behind, stored_same}
use Rattle.demands.proofs.Pages.{length-cell, cells_of}
use Rattle.listing.proofs.Lists.{each_next}
use Rattle.tables.proofs.Small.{trains-is}
use Rattle.graph.proofs.page.put_cells.Goals as goal

pub loop-train-init : goal.loop-train-init
unfolding up_to count each
loop-train-init c = stored-none _ _

pub put_bytes-end-requires : goal.put_bytes-end-requires
put_bytes-end-requires c =
    let I = instance_of (held c.args.b) in
    let long = cells_of I (plan_of I c.args.plan.now) c.args.interval c.loop-train.train in
    let nine : length c.cell_at-cell.result ≡ 9 = ap length c.cell_at-cell.ensures ∙ length-cell _ in
    omega (arith, c.loop-train.invariant.ends, long, nine, c.loop-train-test.true, c.requires.3, c.well_formed)

pub loop-train-preserved : goal.loop-train-preserved
loop-train-preserved c =
    let I = instance_of (held c.args.b) in
    let own : ℕ → Bytes = λ i. cell (shown_of I (plan_of I c.args.plan.now) i c.args.interval) in
    let next = stored c.loop-train.page c.loop-train.end c.cell_at-cell.result c.put_bytes-end.ensures.0 c.put_bytes-end.ensures.1 in
    stored_same (stored-behind c.loop-train.invariant next)
    (ap (λ (x : Bytes). each (up_to c.loop-train.train) own ++ x) c.cell_at-cell.ensures ∙ sym (each_next own c.loop-train.train))

pub returns : goal.returns
unfolding cells
returns c =
    let a = c.args in
    let I = instance_of (held a.b) in
    let own : ℕ → Bytes = λ i. cell (shown_of I (plan_of I a.plan.now) i a.interval) in
    let long = cells_of I (plan_of I a.plan.now) a.interval c.loop-train.train in
    let done : c.loop-train.train ≡ a.b.train_count = omega (arith, c.loop-train-test.false, c.loop-train.auto) in
    let all = stored_same c.loop-train.invariant (ap (λ (n : ℕ). each (up_to n) own) (done ∙ sym (trains-is a.b c.requires.0.counted.passed))) in
    (omega (arith, c.loop-train.invariant.ends, long, done), all.bytes)
