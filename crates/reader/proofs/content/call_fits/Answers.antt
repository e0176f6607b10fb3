-- Each return is one way through the definition's tests. Assumes nothing.
use Rattle.std.proofs.Common.{◌≡◌, length, rules, arith}
use Rattle.std.proofs.lemmas.Bool.Decides.{nat_tests}
use Rattle.spec.specs.Read.{call_fits}
use Rattle.spec.specs.Held.{held}
use Rattle.network.proofs.Walks.{length-of-map}
use Rattle.listing.proofs.Trains.{trains-counted}
use Rattle.reader.proofs.Packing.{segments-held}
use Rattle.reader.proofs.content.call_fits.Goals as goal

pub returns-then-c : goal.returns-then-c
unfolding call_fits held
returns-then-c c =
    let t : length c.args.b.trains ≡ 8 = search (rules, length-of-map) in
    let n = trains-counted c.args.b (omega (arith, t, c.requires.trains)) in
    let s = segments-held c.args.b c.requires (search (rules, length-of-map)) in
    grind (arith, nat_tests)

pub returns-else-c : goal.returns-else-c
unfolding call_fits held
returns-else-c c =
    let t : length c.args.b.trains ≡ 8 = search (rules, length-of-map) in
    let n = trains-counted c.args.b (omega (arith, t, c.requires.trains)) in
    let s = segments-held c.args.b c.requires (search (rules, length-of-map)) in
    grind (arith, nat_tests)
