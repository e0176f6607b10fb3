-- Each return is one way through the definition's tests. Assumes nothing.
use Rattle.std.proofs.Common.{rules, arith}
use Rattle.std.proofs.lemmas.Bool.Decides.{nat_tests}
use Rattle.spec.specs.Read.{train_fits, train_in}
use Rattle.spec.specs.Held.{held}
use Rattle.network.proofs.Walks.{length-of-map}
use Rattle.reader.proofs.Packing.{segments-held}
use Rattle.reader.proofs.content.train_fits.Goals as goal

pub returns-then-time-b : goal.returns-then-time-b
unfolding train_fits train_in held
returns-then-time-b c =
    let s = segments-held c.args.b c.requires.0 (search (rules, length-of-map)) in
    grind (arith, nat_tests)

pub returns-else-time-b : goal.returns-else-time-b
unfolding train_fits train_in held
returns-else-time-b c =
    let s = segments-held c.args.b c.requires.0 (search (rules, length-of-map)) in
    grind (arith, nat_tests)
