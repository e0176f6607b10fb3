use Rattle.std.proofs.Common.{sym, ℕ, ◌*◌, ◌≤◌, length, T, arith}
use native.Mathlib.Nat.{mul-le-mul_right}
use lib.ListN.{length-replicate}
use lib.Seq.{length-take-le}
use Rattle.model.specs.declared.Book.{Book as BookStruct}
use Rattle.spec.specs.Lists.{Bytes}
use Rattle.spec.specs.Instance.{instance_of}
use Rattle.spec.specs.Plan.{plan_fits, plan_length}
use Rattle.spec.specs.Held.{held}
use Rattle.demands.proofs.Moves.{plan-long}
use Rattle.demands.proofs.Pages.{few-intervals}
use Rattle.tables.specs.Tables.{Passed}
use Rattle.tables.proofs.Small.{passed-few}
use Rattle.carriers.proofs.clearing.put_list.Goals as goal

-- a plan is no longer than the most of nodes, trains and intervals make it
plan-few : (b : BookStruct) → Passed b → (s : Bytes) → T (plan_fits (instance_of (held b)) s) → length s ≤ 4192
unfolding plan_length
plan-few b passed s fits =
    let I = instance_of (held b) in
    let few = passed-few b passed in
    let trains = mul-le-mul_right (I.intervals * 2) few.trains in
    omega (arith, plan-long I s fits, few.nodes, trains, few-intervals (held b) passed.formed)

pub slice_bounds-room-end : goal.slice_bounds-room-end
slice_bounds-room-end c = omega (arith, plan-few c.args.b c.requires.0.counted.passed c.args.plan.now c.requires.2)

pub slice_bounds-copy-end : goal.slice_bounds-copy-end
slice_bounds-copy-end c =
    sym (length-take-le _ _ (omega (arith, plan-few c.args.b c.requires.0.counted.passed c.args.plan.now c.requires.2, length-replicate {A = ℕ} 4192 0)))

pub copy_from_slice-requires : goal.copy_from_slice-requires
copy_from_slice-requires c =
    length-take-le _ _ (omega (arith, plan-few c.args.b c.requires.0.counted.passed c.args.plan.now c.requires.2, length-replicate {A = ℕ} 4192 0))
