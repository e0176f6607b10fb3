-- `track::start_node` meets its contract: the segment that the book holds at a number below its count is the array's. Assumes
-- nothing.
use borrow.Author.Rules.{rules}
use mathlib.Core.Path.{◌∙◌}
use Rattle.network.proofs.Held.{start-at}
use Rattle.network.proofs.track.start_node.Statement.{statement}
use Rattle.network.proofs.track.start_node.Tie as tie

mul-start-in : tie.Need-offset_bounds-b-d
mul-start-in c = search rules

element-copy-out-start-in : tie.Need-bounds-b-d
element-copy-out-start-in c = search rules

start-in-requires : tie.Need-start_in-requires
start-in-requires c κs = search rules

returns : tie.Need-returns
returns c =
    let s = c.before.before in
    (c.start_in.ensures.0 ∙ start-at s.args.b s.args.d s.requires.1, c.start_in.ensures.1)

pub start_node_spec : {M : Type 1} → statement M
start_node_spec =
    tie.close (tie.spec mul-start-in element-copy-out-start-in start-in-requires returns)
