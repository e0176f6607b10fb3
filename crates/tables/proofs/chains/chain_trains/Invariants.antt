-- `chains::chain_trains`: the table is that after the first i trains.
use Rattle.std.proofs.Common.{◌≡◌}
use lib.Seq.{sets}
use Rattle.spec.specs.Held.{held}
use Rattle.listing.specs.Listed.{filled}
use Rattle.tables.specs.Tables.{chains_of, train_chains}
use Rattle.tables.proofs.chains.chain_trains.Given as goal

abbrev pub invariant-loop-i : goal.invariant-loop-i
invariant-loop-i l = l.chains ≡ filled (λ i old. sets old 0 (chains_of (held l.b) i)) train_chains l.i l.initial.chains
