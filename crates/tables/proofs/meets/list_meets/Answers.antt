-- `meets::list_meets` meets its contract. Assumes nothing.
use Rattle.std.proofs.Common.{rules, ◌≡◌, ◌+◌, ◌∙◌, zero-add, arith, length}
use Rattle.network.proofs.Walks.{length-of-map}
use Rattle.tables.proofs.MeetRows.{listed-none, listed_next, listed-all, nodes-most, meets-all}
use Rattle.tables.proofs.meets.list_meets.Goals as goal

pub loop-node-init : goal.loop-node-init
loop-node-init c = (omega arith, listed-none _ _ _)

pub loop-node-preserved : goal.loop-node-preserved
loop-node-preserved c =
    let b = c.args.b in
    let full : length b.segments ≡ 64 = search (rules, length-of-map) in
    let call = c.list_at-end.ensures in
    let l = listed_next _ _ _ c.loop-node.invariant.1 call.0 call.1 in
    (omega (arith, l.ends, nodes-most b c.requires full (c.loop-node.node + 1)), l)

pub returns : goal.returns
returns c =
    let b = c.args.b in
    let full : length b.segments ≡ 64 = search (rules, length-of-map) in
    let nodes-full : length b.nodes ≡ 96 = search rules in
    let done : c.loop-node.node ≡ b.node_count = omega arith in
    let r = listed-all _ _ _ c.loop-node.invariant.1 done (meets-all b c.requires full nodes-full) in
    (r.0 ∙ zero-add _, r.1)
