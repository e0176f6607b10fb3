-- All bytes of the row are written.
use native.Mathlib.Omega.{arith}
use Prim.Native.Nat.{◌+◌}
use lib.Dec.{ltb}
use Rattle.plan_coding.specs.Encoded.{set_below, count_bytes}
use Rattle.plan_coding.proofs.Bits.{bits-written}
use Rattle.plan_coding.proofs.counting.write_row.Goals as goal

pub returns : goal.returns
unfolding count_bytes
returns c =
    bits-written (λ i. ltb c.args.j (set_below c.args.nodes.now c.args.plan.now (c.args.j + i + 1))) c.args.spare c.args.at _ _ _ _
    (omega arith) (omega arith) c.loop-k.auto.byte-items c.loop-k-test.false c.loop-k.invariant.written
