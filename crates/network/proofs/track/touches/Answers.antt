-- `track::touches` meets its contract, end by end. Assumes nothing.
use Rattle.std.proofs.Common.{arith}
use Rattle.std.proofs.lemmas.Bool.Decides.{nat_tests}
use Rattle.spec.specs.Book.{touches}
use Rattle.network.proofs.track.touches.Goals as goal

pub returns-then-from-node : goal.returns-then-from-node
unfolding touches
returns-then-from-node c = grind (arith, nat_tests)

pub returns-else-from-node : goal.returns-else-from-node
unfolding touches
returns-else-from-node c = grind (arith, nat_tests)
