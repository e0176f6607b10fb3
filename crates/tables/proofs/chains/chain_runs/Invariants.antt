-- `chains::chain_runs`: the table is as it was, with the two numbers of the first r runs stored from the start on.
use Rattle.std.proofs.Common.{◌≡◌}
use lib.Seq.{sets}
use Rattle.spec.specs.Lists.{up_to, each}
use Rattle.tables.proofs.Links.{links_at}
use Rattle.tables.proofs.chains.chain_runs.Given as goal

abbrev pub invariant-loop-r : goal.invariant-loop-r
invariant-loop-r l = l.chains ≡ sets l.initial.chains 0 (each (up_to l.r) (links_at l.runs l.l l.n))
