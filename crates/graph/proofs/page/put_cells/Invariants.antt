-- The cells of the first trains stand in the page, one behind the other.
use Rattle.spec.specs.Lists.{each, up_to}
use Rattle.spec.specs.Instance.{instance_of}
use Rattle.spec.specs.Plan.{plan_of}
use Rattle.spec.specs.Page.{shown_of, cell}
use Rattle.spec.specs.Held.{held}
use Rattle.laws.proofs.Stores.{Stored}
use Rattle.graph.proofs.page.put_cells.Given as goal

abbrev pub invariant-loop-train : goal.invariant-loop-train
invariant-loop-train l =
    let I = instance_of (held l.b) in
    Stored l.initial.page l.at (each (up_to l.train) (λ i. cell (shown_of I (plan_of I l.plan) i l.interval))) l.page l.end
