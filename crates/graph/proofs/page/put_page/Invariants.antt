-- The lines of the first intervals stand at the start of the page.
use Prim.Native.Nat.{◌*◌}
use Rattle.spec.specs.Lists.{each, up_to}
use Rattle.spec.specs.Instance.{instance_of}
use Rattle.spec.specs.Plan.{plan_of}
use Rattle.spec.specs.Page.{page_line}
use Rattle.spec.specs.Held.{held}
use Rattle.laws.proofs.Stores.{Stored}
use Rattle.graph.proofs.page.put_page.Given as goal

abbrev pub invariant-loop-interval : goal.invariant-loop-interval
invariant-loop-interval l =
    let I = instance_of (held l.b) in
    Stored l.initial.page 0 (each (up_to l.interval) (page_line I (plan_of I l.plan))) l.page (81 * l.interval)
