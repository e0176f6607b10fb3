-- `track::end_node` meets its contract: the segment that the book holds at a number below its count is the array's. Assumes
-- nothing.
use borrow.Author.Rules.{rules}
use mathlib.Core.Path.{◌∙◌}
use Rattle.network.proofs.Held.{end-at}
use Rattle.network.proofs.track.end_node.Statement.{statement}
use Rattle.network.proofs.track.end_node.Tie as tie

mul-end-in : tie.Need-offset_bounds-b-d
mul-end-in c = search rules

element-copy-out-end-in : tie.Need-bounds-b-d
element-copy-out-end-in c = search rules

end-in-requires : tie.Need-end_in-requires
end-in-requires c κs = search rules

returns : tie.Need-returns
returns c =
    let s = c.before.before in
    (c.end_in.ensures.0 ∙ end-at s.args.b s.args.d s.requires.1, c.end_in.ensures.1)

pub end_node_spec : {M : Type 1} → statement M
end_node_spec =
    tie.close (tie.spec mul-end-in element-copy-out-end-in end-in-requires returns)
