-- The tables and the count are those after the paths that start over the directed segments below d.
use Rattle.std.proofs.Common.{◌-◌}
use Rattle.spec.specs.Lists.{up_to, each, one}
use Rattle.listing.specs.Listed.{extend_by}
use Rattle.listing.proofs.Lists.{Listed}
use Rattle.listing.proofs.list_paths.Given as goal

abbrev pub invariant-loop-d : goal.invariant-loop-d
invariant-loop-d l = Listed 0 l.initial.runs (each (up_to l.d) (λ i. extend_by l.table l.widths (l.size - 1) (one i))) l.found l.runs
