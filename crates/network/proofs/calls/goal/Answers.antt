-- `calls::goal` meets its contract: the chain goes through the calls that the definition picks. Assumes nothing.
use Rattle.std.proofs.Common.{take, eqb, ◌∙◌, rules, tests}
use Rattle.std.proofs.lemmas.Iterator.{YieldsList-from_slice, items_from_drains}
use Rattle.std.proofs.lemmas.Iterator.Consumers.{YieldsList-from_filter}
use Rattle.spec.specs.Book.{Call, calls_of, goal_of, no_call}
use Rattle.spec.specs.Held.{held}
use Rattle.network.proofs.Chains.{filter-pick, last-copied}
use Rattle.network.proofs.calls.goal.Goals as goal

pub returns : goal.returns
unfolding goal_of calls_of no_call held
returns c =
    let calls = take c.args.b.call_count c.args.b.calls in
    let of = λ (k : Call). eqb k.train c.args.train in
    let ran = c.last.ensures.ran in
    c.unwrap_or.ensures
    ∙ last-copied no_call ran.0 c.copied.ensures ran.2
    (items_from_drains ran.0 (ran.1.1.0, ran.1.1.1, λ _. (ran.1.0, ran.1.1.2))
    (YieldsList-from_filter _ of (YieldsList-from_slice calls (cc)) c.filter.ensures.closure (λ x r q k. search (rules, tests)))
    ∙ filter-pick of calls)
