-- `track::ends_at_exit` meets its contract: below their counts the arrays have the segment and the kind that the book holds. Assumes
-- nothing.
use borrow.Author.Rules.{rules}
use mathlib.Core.Path.{◌≡◌, sym, ap, ◌∙◌}
use Prim.Native.Nat.{◌<◌}
use native.Mathlib.Omega.{arith}
use Rattle.spec.specs.Book.{is_exit, node_kind_at, end_node}
use Rattle.spec.specs.Held.{held}
use Rattle.network.proofs.Held.{kind_at, end-at}
use Rattle.network.proofs.track.ends_at_exit.Statement.{statement}
use Rattle.network.proofs.track.ends_at_exit.Tie as tie

module _ (c : tie.After-end_in-node) where
  abbrev start : tie.Start
  start = c.before.before

  node-is : c.end_in-node.result ≡ end_node (held start.args.b) start.args.d
  node-is = c.end_in-node.ensures.0 ∙ end-at start.args.b start.args.d start.requires.1

  node-known : c.end_in-node.result < start.args.b.node_count
  node-known = omega (arith, node-is, start.requires.2)

node-fits : tie.Need-bounds-b-node
node-fits c = omega (arith, node-known c, (start c).requires.0.nodes)

returns : tie.Need-returns
returns c =
    let n = c.before.before in
    let b = (start n).args.b in
    c.is_exit.ensures ∙ ap is_exit (sym (kind_at b _ (node-known n)) ∙ ap (node_kind_at (held b)) (node-is n))

pub ends_at_exit_spec : {M : Type 1} → statement M
ends_at_exit_spec =
    tie.close (tie.spec (λ c. search rules) (λ c. search rules) (λ c κs. search rules) node-fits (λ c κs. search rules) returns)
