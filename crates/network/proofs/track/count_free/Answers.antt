-- `track::count_free` meets its contract: as many nodes are free as their kinds pass the test. Assumes nothing.
use Rattle.std.proofs.Common.{◌≡◌, ◌&&◌, ℕ, not, length, take, ap, sym, ◌∙◌, length-take, arith, rules, tests}
use Rattle.std.proofs.lemmas.Iterator.{YieldsList-from_slice}
use Rattle.std.proofs.lemmas.Iterator.Consumers.{YieldsList-from_filter, count_from_yields_List}
use Rattle.spec.specs.Lists.{pick}
use Rattle.spec.specs.Book.{denies_border, forces_border, node_kind_at}
use Rattle.spec.specs.Instance.{instance_of, compile, is_free, free_nodes_of}
use Rattle.spec.specs.Held.{held}
use Rattle.laws.proofs.Picks.{pick-most, pick-numbers}
use Rattle.network.proofs.Chains.{filter-pick}
use Rattle.network.proofs.track.count_free.Goals as goal

pub returns : goal.returns
unfolding free_nodes_of is_free instance_of compile node_kind_at held
returns c =
    let kinds = take c.args.b.node_count c.args.b.nodes in
    let free = λ (k : ℕ). not (denies_border k) && not (forces_border k) in
    let e : c.count.result ≡ length (pick free kinds) =
    count_from_yields_List c.filter.result _ c.count.ensures.ran
    (YieldsList-from_filter _ free (YieldsList-from_slice kinds (cc)) c.filter.ensures.closure (λ x r q k. search (rules, tests)))
    ∙ ap length (filter-pick free kinds) in
    (e ∙ sym (pick-numbers free 0 kinds), omega (arith, pick-most free kinds, length-take c.args.b.node_count c.args.b.nodes))
