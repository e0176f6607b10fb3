-- `track::leads_to` meets its contract: the two branches are the two ways of `&&`, over what the calls ensure. Assumes nothing.
use borrow.Author.Rules.{rules}
use borrow.Author.Tests.{eq-eqb, ne_eqb}
use Rattle.spec.specs.Book.{segment_of}
use Rattle.spec.specs.Runs.{leads_to}
use Rattle.network.proofs.track.leads_to.Statement.{statement}
use Rattle.network.proofs.track.leads_to.Tie as tie

end-node-requires : tie.Need-end_node-node-requires
end-node-requires c κs = search rules

start-node-requires : tie.Need-start_node-requires
start-node-requires c κs = search rules

joined-requires : tie.Need-joined-requires
joined-requires c κs = search rules

returns : tie.Need-returns-then-node-start_node
unfolding leads_to segment_of
returns c =
    let a = c.before.before in
    let h = eq-eqb _ _ c.if-node-start_node.true in
    simp (← a.start_node.ensures.0, ← a.end_node-node.ensures.0, h, c.joined.ensures)

returns-2 : tie.Need-returns-else-node-start_node
unfolding leads_to
returns-2 c =
    let a = c.before in
    let h = ne_eqb _ _ c.if-node-start_node.false in
    simp (← a.start_node.ensures.0, ← a.end_node-node.ensures.0, h)

pub leads_to_spec : {M : Type 1} → statement M
leads_to_spec =
    tie.close (tie.spec end-node-requires start-node-requires joined-requires returns returns-2)
