-- A turn stores a train behind those that stand; the counter's values follow.
use native.Mathlib.Omega.{arith}
use mathlib.Core.Path.{◌≡◌, sym, ap, ◌∙◌}
use mathlib.Core.List.{map}
use Prim.Native.Nat.{ℕ, ◌<◌}
use lib.ListN.{length, get_or}
use lib.Seq.{sets, length-sets}
use lib.Dec.{eqb}
use Rattle.model.specs.declared.Book.{Book as BookStruct}
use Rattle.spec.specs.Lists.{Bytes, up_to, each}
use Rattle.spec.specs.Instance.{Instance, instance_of, under}
use Rattle.spec.specs.Plan.{bit, plan_of}
use Rattle.spec.specs.Cap.{cap_values}
use Rattle.spec.specs.Formula.{own_variables}
use Rattle.spec.specs.Held.{held, held_cap}
use Rattle.layout.proofs.Places.{nodes-fit}
use Rattle.layout.proofs.Capped.{variables-under}
use Rattle.tables.specs.Tables.{Passed}
use Rattle.tables.proofs.Small.{nodes-is, trains-is}
use Rattle.demands.proofs.Moves.{plan-long}
use Rattle.plan_coding.specs.Encoded.{border_bytes, train_bytes}
use Rattle.plan_coding.proofs.Blocks.{train-fits}
use Rattle.plan_coding.proofs.Claims.{train-place, length-parts, assignment-written, borders-of}
use Rattle.plan_coding.proofs.Rows.{rows_none, rows_behind, rows-kept, rows_all}
use Rattle.plan_coding.proofs.encoding.encode.Goals as goal

module _ (b : BookStruct) (p : Passed b) (plan old out : Bytes) where
  abbrev I : Instance
  I = instance_of (held b)

  -- the borders stand at the start
  bordered : out ≡ sets old 0 (map (λ k. bit (eqb (get_or plan k 0) 1)) (up_to b.node_count))
      → out ≡ sets old 0 (border_bytes I (plan_of I plan))
  bordered e =
      e
      ∙ ap (λ (n : ℕ). sets old 0 (map (λ k. bit (eqb (get_or plan k 0) 1)) (up_to n))) (sym (nodes-is b p))
      ∙ ap (sets old 0) (borders-of I plan)

pub write_borders-requires : goal.write_borders-requires
write_borders-requires c =
    let b = c.args.b in
    let J = instance_of (held b) in
    let p = c.requires.0.0.counted.passed in (
      omega (arith, plan-long _ _ c.requires.0.1, nodes-fit b p),
      omega (arith, length-parts J (plan_of J c.args.plan.now), nodes-is b p, variables-under (held_cap c.args.cap) J, c.requires.1),
    )

pub loop-train-init : goal.loop-train-init
loop-train-init c = rows_none

pub write_train-requires : goal.write_train-requires
write_train-requires c =
    let b = c.args.b in
    let J = instance_of (held b) in
    let below : c.loop-train.train < J.trains = omega (arith, c.loop-train-test.true, trains-is b c.requires.0.0.counted.passed) in
    let kept : length c.loop-train.out ≡ length c.args.out.now
    = rows-kept c.loop-train.invariant ∙ ap length c.write_borders.ensures ∙ simp length-sets in (
      c.requires.0,
      c.loop-train-test.true,
      omega (arith, kept, train-fits J c.loop-train.train below, variables-under (held_cap c.args.cap) J, c.requires.1),
    )

pub loop-train-preserved : goal.loop-train-preserved
loop-train-preserved c =
    let J = instance_of (held c.args.b) in
    rows_behind c.loop-train.invariant (train-place J (plan_of J c.args.plan.now) c.loop-train.train) c.write_train.ensures

pub write_counter-requires : goal.write_counter-requires
write_counter-requires c =
    let b = c.args.b in
    let kept : length c.loop-train.out ≡ length c.args.out.now
    = rows-kept c.loop-train.invariant ∙ ap length c.write_borders.ensures ∙ simp length-sets in (
      c.requires.0.0.counted,
      omega (arith, plan-long _ _ c.requires.0.1, nodes-fit b c.requires.0.0.counted.passed),
      omega (arith, kept, c.requires.1),
    )

pub returns : goal.returns
returns c =
    let a = c.args in
    let J = instance_of (held a.b) in
    let p = plan_of J a.plan.now in
    let passed = c.requires.0.0.counted.passed in
    let done : c.loop-train.train ≡ J.trains = omega (arith, c.loop-train-test.false, c.loop-train.auto, trains-is a.b passed) in
    c.write_counter.ensures
    ∙ ap (λ (out : Bytes). sets out (own_variables J) (cap_values (under (held_cap a.cap) J) p))
    (rows_all c.loop-train.invariant done
    ∙ ap (λ (out : Bytes). sets out J.nodes (each (up_to J.trains) (train_bytes J p)))
    (bordered a.b passed a.plan.now a.out.now _ c.write_borders.ensures))
    ∙ assignment-written (held_cap a.cap) J p a.out.now c.requires.1
