-- The bytes of all nodes are written.
use native.Mathlib.Omega.{arith}
use lib.ListN.{get_or}
use lib.Dec.{eqb}
use Rattle.plan_coding.proofs.Bits.{bits-written}
use Rattle.plan_coding.proofs.encoding.write_borders.Goals as goal

pub returns : goal.returns
returns c =
    bits-written (λ k. eqb (get_or c.args.plan.now k 0) 1) c.args.n 0 c.args.n c.args.out.now _ _ (omega arith) (omega arith)
    c.loop-k.auto.byte-items c.loop-k-test.false c.loop-k.invariant
