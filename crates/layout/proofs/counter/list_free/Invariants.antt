-- `counter::list_free`: the free nodes before `node` were stored.
use Rattle.std.proofs.Common.{◌≤◌}
use Rattle.spec.specs.Lists.{up_to, pick}
use Rattle.spec.specs.Instance.{instance_of, is_free}
use Rattle.spec.specs.Held.{held}
use Rattle.laws.proofs.Stores.{Stored}
use Rattle.layout.proofs.counter.list_free.Given as goal

abbrev pub invariant-loop-node : goal.invariant-loop-node
invariant-loop-node l =
    (l.free ≤ l.node) × Stored l.initial.out 0 (pick (is_free (instance_of (held l.fn.b))) (up_to l.node)) l.out l.free
