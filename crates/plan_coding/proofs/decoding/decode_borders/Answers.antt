-- The bytes of all nodes are written.
use mathlib.Core.Path.{◌∙◌, sym, ap}
use mathlib.Core.List.{map}
use native.Mathlib.Omega.{arith}
use Prim.Native.Nat.{ℕ}
use lib.Seq.{sets}
use Rattle.spec.specs.Lists.{up_to}
use Rattle.spec.specs.Formula.{border_var}
use Rattle.spec.specs.Plan.{bit}
use Rattle.spec.specs.Assignment.{assigned, decoded}
use Rattle.tables.proofs.Small.{nodes-is}
use Rattle.plan_coding.specs.Decoded.{border_bytes}
use Rattle.plan_coding.proofs.Bits.{bits-written}
use Rattle.plan_coding.proofs.decoding.decode_borders.Goals as goal

pub returns : goal.returns
unfolding border_bytes decoded border_var
returns c =
    let a = c.args in
    let p : ℕ → _ = assigned a.values.now in
    bits-written p a.b.node_count 0 a.b.node_count a.out.now _ _ (omega arith) (omega arith) c.loop-node.auto.byte-items
    c.loop-node-test.false c.loop-node.invariant
    ∙ ap (λ (n : ℕ). sets a.out.now 0 (map (λ k. bit (p k)) (up_to n))) (sym (nodes-is a.b c.requires.0))
