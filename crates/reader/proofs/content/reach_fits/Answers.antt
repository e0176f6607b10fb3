-- Each return is one way through the definition's tests. Assumes nothing.
use Rattle.std.proofs.Common.{arith}
use Rattle.std.proofs.lemmas.Bool.Decides.{nat_tests}
use Rattle.spec.specs.Read.{reach_fits, between}
use Rattle.reader.proofs.content.reach_fits.Goals as goal

pub returns-then-k-ge1 : goal.returns-then-k-ge1
unfolding reach_fits between
returns-then-k-ge1 c = grind (arith, nat_tests)

pub returns-else-k-ge1 : goal.returns-else-k-ge1
unfolding reach_fits between
returns-else-k-ge1 c = grind (arith, nat_tests)
