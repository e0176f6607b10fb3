-- `calls::call_at` meets its contract: the chain goes through the calls that the definition picks. Assumes nothing.
use Rattle.std.proofs.Common.{take, get_or, eqb, ap, ◌∙◌, List, rules, tests}
use Rattle.std.proofs.lemmas.Iterator.{YieldsList-from_slice}
use Rattle.std.proofs.lemmas.Iterator.Consumers.{YieldsList-from_filter, nth_from_yields_List}
use Rattle.spec.specs.Book.{Call, calls_of, no_call}
use Rattle.spec.specs.Instance.{call_at}
use Rattle.spec.specs.Held.{held}
use Rattle.network.proofs.Chains.{filter-pick, nth-or}
use Rattle.network.proofs.calls.call_at.Goals as goal

pub returns : goal.returns
unfolding call_at calls_of no_call held
returns c =
    let calls = take c.args.b.call_count c.args.b.calls in
    let of = λ (k : Call). eqb k.train c.args.train in
    c.unwrap_or.ensures
    ∙ nth-or no_call c.nth.result _ c.args.number c.copied.ensures
    (nth_from_yields_List c.nth.result _ _ c.nth.ensures.ran
    (YieldsList-from_filter _ of (YieldsList-from_slice calls (cc)) c.filter.ensures.closure (λ x r q k. search (rules, tests))))
    ∙ ap (λ (cs : List Call). get_or cs c.args.number no_call) (filter-pick of calls)
