-- The tables and the count are those after the first places were extended.
use Rattle.spec.specs.Lists.{up_to, each}
use Rattle.listing.proofs.Lists.{Listed}
use Rattle.listing.proofs.Levels.{from}
use Rattle.listing.proofs.list_longer.Given as goal

abbrev pub invariant-loop-place : goal.invariant-loop-place
invariant-loop-place l = Listed l.count l.initial.runs (each (up_to l.place) (from l.table l.widths l.initial.runs l.l l.missing)) l.found l.runs
