-- Each return is one way through the definition's tests. Assumes nothing.
use Rattle.std.proofs.Common.{rules, arith}
use Rattle.std.proofs.lemmas.Bool.Decides.{nat_tests}
use Rattle.spec.specs.Read.{segment_fits}
use Rattle.reader.proofs.Packing.{nodes-held}
use Rattle.reader.proofs.content.segment_fits.Goals as goal

pub returns-then-a-e : goal.returns-then-a-e
unfolding segment_fits
returns-then-a-e c = let n = nodes-held c.args.b c.requires (search rules) in grind (arith, nat_tests)

pub returns-else-a-e : goal.returns-else-a-e
unfolding segment_fits
returns-else-a-e c = let n = nodes-held c.args.b c.requires (search rules) in grind (arith, nat_tests)
