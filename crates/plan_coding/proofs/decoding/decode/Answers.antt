-- A turn stores a train behind those that stand; the borders and all trains are the plan.
use native.Mathlib.Omega.{arith}
use mathlib.Core.Path.{◌≡◌}
use Rattle.spec.specs.Instance.{instance_of}
use Rattle.spec.specs.Held.{held}
use Rattle.tables.proofs.Small.{trains-is}
use Rattle.layout.proofs.Places.{nodes-fit, place-first}
use Rattle.plan_coding.proofs.Rows.{rows_none, rows_next, plan-stored, train-length}
use Rattle.plan_coding.proofs.decoding.decode.Goals as goal

pub decode_borders-requires : goal.decode_borders-requires
decode_borders-requires c =
    let p = c.requires.0.passed in (p, omega (arith, c.requires.1, nodes-fit c.args.b p))

pub loop-train-init : goal.loop-train-init
loop-train-init c = rows_none

pub loop-train-preserved : goal.loop-train-preserved
loop-train-preserved c =
    let I = instance_of (held c.args.b) in
    rows_next _ _ (λ i. train-length I c.args.values.now i) c.loop-train.invariant (place-first I _) c.decode_train.ensures

pub returns : goal.returns
returns c =
    let a = c.args in
    let I = instance_of (held a.b) in
    let done : c.loop-train.train ≡ I.trains
    = omega (arith, c.loop-train-test.false, c.loop-train.auto, trains-is a.b c.requires.0.passed) in
    plan-stored I a.values.now a.out.now c.requires.1 c.decode_borders.ensures c.loop-train.invariant done
