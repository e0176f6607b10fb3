-- A turn stores the number of an interval behind those that stand.
use native.Mathlib.Omega.{arith}
use mathlib.Core.Path.{◌≡◌, ap, ◌∙◌}
use Prim.Native.Nat.{ℕ, ◌<◌}
use lib.Seq.{sets}
use Rattle.spec.specs.Numbers.{little_endian}
use Rattle.spec.specs.Instance.{instance_of}
use Rattle.spec.specs.Held.{held}
use Rattle.laws.proofs.Numbers.{length-little_endian}
use Rattle.tables.proofs.Small.{runs-small, known, intervals-is}
use Rattle.layout.proofs.Places.{place-from, move-fits}
use Rattle.plan_coding.specs.Decoded.{train_bytes}
use Rattle.plan_coding.proofs.Blocks.{block_of, code_is}
use Rattle.plan_coding.proofs.Rows.{rows_none, rows_next, rows-kept, rows_all}
use Rattle.plan_coding.proofs.decoding.decode_train.Goals as goal

pub loop-interval-init : goal.loop-interval-init
loop-interval-init c = rows_none

pub code_of-code-requires : goal.code_of-code-requires
code_of-code-requires c =
    let k = (block_of c.train_block-first.ensures.train c.block_at-block.ensures.0).block in
    (k.small, runs-small _ k.passed _ k.known _ k.runs)

pub put_pair-requires : goal.put_pair-requires
put_pair-requires c =
    let a = c.args in
    let counted = c.requires.0 in
    let I = instance_of (held a.b) in
    let inside : c.loop-interval.interval < I.intervals = omega (arith, c.loop-interval-test.true, intervals-is a.b counted.passed) in (
      omega (
        arith,
        c.requires.2,
        c.move_place-at.ensures,
        rows-kept c.loop-interval.invariant,
        move-fits I a.train c.loop-interval.interval (known a.b a.counts counted a.train c.requires.1) inside,
      ),
      c.code_of-code.ensures.1,
    )

pub loop-interval-preserved : goal.loop-interval-preserved
loop-interval-preserved c =
    let block = block_of c.train_block-first.ensures.train c.block_at-block.ensures.0 in
    rows_next _ 2 (λ i. length-little_endian 2 _) c.loop-interval.invariant (c.move_place-at.ensures ∙ place-from _ _ _)
    (c.put_pair.ensures
    ∙ ap (λ (x : ℕ). sets c.loop-interval.out c.move_place-at.result (little_endian 2 x)) (c.code_of-code.ensures.0 ∙ code_is block _))

pub returns : goal.returns
unfolding train_bytes
returns c =
    let done : c.loop-interval.interval ≡ (instance_of (held c.args.b)).intervals
    = omega (arith, c.loop-interval-test.false, c.loop-interval.auto, intervals-is c.args.b c.requires.0.passed) in
    rows_all c.loop-interval.invariant done
