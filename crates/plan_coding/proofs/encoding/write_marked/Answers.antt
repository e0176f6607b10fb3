-- The bytes of all segments are written.
use native.Mathlib.Omega.{arith}
use lib.ListN.{get_or}
use Rattle.std.proofs.lemmas.Grind.{common_steps}
use Rattle.plan_rules.specs.Marks.{is_marked}
use Rattle.plan_coding.proofs.Bits.{bits-written}
use Rattle.plan_coding.proofs.encoding.write_marked.Goals as goal

pub loop-s-preserved : goal.loop-s-preserved
unfolding is_marked
loop-s-preserved c = grind (arith, common_steps)

pub returns : goal.returns
returns c =
    bits-written (λ s. is_marked c.args.marks.now (get_or c.args.labels.now s 0)) c.args.n c.args.at _ _ _ _
    (omega arith) (omega arith) c.loop-s.auto.byte-items c.loop-s-test.false c.loop-s.invariant
