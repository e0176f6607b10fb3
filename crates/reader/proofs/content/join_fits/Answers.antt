-- Each return is one way through the definition's tests. Assumes nothing.
use Rattle.std.proofs.Common.{rules, arith}
use Rattle.std.proofs.lemmas.Bool.Decides.{nat_tests}
use Rattle.spec.specs.Read.{join_fits}
use Rattle.network.proofs.Walks.{length-of-map}
use Rattle.network.proofs.Held.{segment-at}
use Rattle.reader.proofs.Packing.{nodes-held, segments-held}
use Rattle.reader.proofs.content.join_fits.Goals as goal

pub returns-then-b-node : goal.returns-then-b-node
unfolding join_fits
returns-then-b-node c =
    let n = nodes-held c.args.b c.requires (search rules) in
    let s = segments-held c.args.b c.requires (search (rules, length-of-map)) in
    grind (arith, nat_tests)

pub returns-then-touches : goal.returns-then-touches
unfolding join_fits
returns-then-touches c =
    let n = nodes-held c.args.b c.requires (search rules) in
    let s = segments-held c.args.b c.requires (search (rules, length-of-map)) in
    let l = segment-at c.args.b c.from-left.result (omega arith) in
    let r = segment-at c.args.b c.from-right.result (omega arith) in
    grind (arith, nat_tests)

pub returns-else-touches : goal.returns-else-touches
unfolding join_fits
returns-else-touches c =
    let n = nodes-held c.args.b c.requires (search rules) in
    let s = segments-held c.args.b c.requires (search (rules, length-of-map)) in
    let l = segment-at c.args.b c.from-left.result (omega arith) in
    let r = segment-at c.args.b c.from-right.result (omega arith) in
    grind (arith, nat_tests)
