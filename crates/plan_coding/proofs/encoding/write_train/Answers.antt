-- A turn stores an interval behind those that stand.
use native.Mathlib.Omega.{arith}
use mathlib.Core.Path.{◌≡◌, sym, ap, ◌∙◌, subst}
use Prim.Native.Nat.{ℕ, ◌+◌, ◌≤◌, ◌<◌}
use lib.ListN.{length}
use lib.Seq.{sets}
use Rattle.spec.specs.Instance.{instance_of}
use Rattle.spec.specs.Plan.{plan_of}
use Rattle.spec.specs.Formula.{width, base}
use Rattle.spec.specs.Held.{held}
use Rattle.tables.proofs.Small.{intervals-is}
use Rattle.plan_coding.specs.Encoded.{interval_bytes, train_bytes}
use Rattle.plan_coding.proofs.Blocks.{block_of, interval-place, interval-fits}
use Rattle.plan_coding.proofs.Claims.{length-interval}
use Rattle.plan_coding.proofs.Rows.{rows_none, rows_next, rows-kept, rows_all}
use Rattle.plan_coding.proofs.encoding.write_train.Goals as goal

pub loop-interval-init : goal.loop-interval-init
loop-interval-init c = rows_none

pub write_interval-requires : goal.write_interval-requires
write_interval-requires c =
    let a = c.args in
    let I = instance_of (held a.b) in
    let e = c.block_at-block.ensures in
    let t = c.loop-interval.interval in
    let inside : t < I.intervals = omega (arith, c.loop-interval-test.true, intervals-is a.b c.requires.0.0.counted.passed) in
    let room : base I a.train (t + 1) ≤ length c.loop-interval.out
    = omega (arith, interval-fits I a.train t inside, rows-kept c.loop-interval.invariant, c.requires.2) in (
      c.requires.0,
      block_of (sym e.0.train) e.0,
      c.loop-interval-test.true,
      subst (λ (i : ℕ). base I i (t + 1) ≤ length c.loop-interval.out) (sym (e.1 ∙ c.train_block-first.ensures.train)) room,
    )

pub loop-interval-preserved : goal.loop-interval-preserved
loop-interval-preserved c =
    let a = c.args in
    let I = instance_of (held a.b) in
    let t = c.loop-interval.interval in
    rows_next _ (width I a.train) (length-interval I _ a.train) c.loop-interval.invariant (interval-place I a.train t)
    (c.write_interval.ensures
    ∙ ap (λ (i : ℕ). sets c.loop-interval.out (base I i t) (interval_bytes I (plan_of I a.plan.now) i t))
    (c.block_at-block.ensures.1 ∙ c.train_block-first.ensures.train))

pub returns : goal.returns
unfolding train_bytes
returns c =
    let done : c.loop-interval.interval ≡ (instance_of (held c.args.b)).intervals
    = omega (arith, c.loop-interval-test.false, c.loop-interval.auto, intervals-is c.args.b c.requires.0.0.counted.passed) in
    rows_all c.loop-interval.invariant done
