-- `calls::calls_of` meets its contract: the chain counts the calls that the definition picks. Assumes nothing.
use Rattle.std.proofs.Common.{◌≡◌, length, take, eqb, ap, ◌∙◌, length-take, arith, rules, tests}
use Rattle.std.proofs.lemmas.Iterator.{YieldsList-from_slice}
use Rattle.std.proofs.lemmas.Iterator.Consumers.{YieldsList-from_filter, count_from_yields_List}
use Rattle.spec.specs.Lists.{pick}
use Rattle.spec.specs.Book.{Call, calls_of}
use Rattle.spec.specs.Held.{held}
use Rattle.laws.proofs.Picks.{pick-most}
use Rattle.network.proofs.Chains.{filter-pick}
use Rattle.network.proofs.calls.calls_of.Goals as goal

pub returns : goal.returns
unfolding calls_of held
returns c =
    let calls = take c.args.b.call_count c.args.b.calls in
    let of = λ (k : Call). eqb k.train c.args.train in
    let e : c.count.result ≡ length (pick of calls) =
    count_from_yields_List c.filter.result _ c.count.ensures.ran
    (YieldsList-from_filter _ of (YieldsList-from_slice calls (cc)) c.filter.ensures.closure (λ x r q k. search (rules, tests)))
    ∙ ap length (filter-pick of calls) in
    (e, omega (arith, pick-most of calls, length-take c.args.b.call_count c.args.b.calls))
