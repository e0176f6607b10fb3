-- One more, where the node has a border: never more than the nodes looked at.
use Prim.Native.Nat.{◌+◌}
use native.Mathlib.Omega.{arith}
use Rattle.plan_coding.proofs.Counts.{set-most, set-next}
use Rattle.plan_coding.proofs.counting.with_next.Goals as goal

pub overflow_add-result : goal.overflow_add-result
overflow_add-result c =
    let a = c.args in
    omega (arith, c.requires, c.from.ensures, set-next a.nodes.now a.plan.now a.n, set-most a.nodes.now a.plan.now (a.n + 1))

pub returns : goal.returns
returns c = omega (arith, c.requires.2, c.from.ensures, set-next c.args.nodes.now c.args.plan.now c.args.n)
