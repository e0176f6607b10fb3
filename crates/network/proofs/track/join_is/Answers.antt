-- `track::join_is` meets its contract: each return is one way through the definition's tests. Assumes nothing.
use Rattle.std.proofs.Common.{arith}
use Rattle.std.proofs.lemmas.Bool.Decides.{nat_tests}
use Rattle.spec.specs.Book.{join_is}
use Rattle.network.proofs.track.join_is.Goals as goal
use Rattle.network.proofs.track.join_is.Goals.{then-left-s, else-left-s}

pub returns-then-right-t : goal.returns-then-right-t
unfolding join_is
returns-then-right-t c = elim c.if-left-s.branch [ then-left-s w ↦ grind (arith, nat_tests) | else-left-s w ↦ grind (arith, nat_tests) ]

pub returns-then-left-t : goal.returns-then-left-t
unfolding join_is
returns-then-left-t c = grind (arith, nat_tests)

pub returns-else-left-t : goal.returns-else-left-t
unfolding join_is
returns-else-left-t c = grind (arith, nat_tests)

pub returns-else-from-node : goal.returns-else-from-node
unfolding join_is
returns-else-from-node c = grind (arith, nat_tests)
