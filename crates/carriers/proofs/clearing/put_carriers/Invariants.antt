use Rattle.std.proofs.Common.{◌≡◌}
use Rattle.laws.proofs.Stores.{Stored}
use Rattle.spec.specs.Instance.{instance_of}
use Rattle.spec.specs.Plan.{plan_of}
use Rattle.spec.specs.Held.{held}
use Rattle.carriers.proofs.Below.{list_below}
use Rattle.carriers.proofs.clearing.put_carriers.Given as goal

-- the list of the nodes before `node` stands in the output, and the plan is as it was
abbrev pub invariant-loop-node : goal.invariant-loop-node
invariant-loop-node l = record {
  kept : l.plan ≡ l.fn.plan;
  list : Stored l.fn.out 0 (list_below (instance_of (held l.b)) (plan_of (instance_of (held l.b)) l.fn.plan) l.node) l.out l.end;
}
