-- The tables and the count are those after the paths that extend the places by 1 to j segments.
use Rattle.listing.specs.Listed.{places_in, further_by}
use Rattle.listing.proofs.Lists.{Listed}
use Rattle.listing.proofs.list_further.Given as goal

abbrev pub invariant-loop-j : goal.invariant-loop-j
invariant-loop-j l = Listed l.places l.initial.runs (further_by l.table l.widths (places_in l.initial.runs l.l l.places) l.j) l.found l.runs
