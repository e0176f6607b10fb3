-- `cells::marked` meets its contract: a store in a row of blanks. Assumes nothing.
use borrow.Author.Rules.{rules}
use mathlib.Core.Path.{refl}
use Rattle.spec.specs.Page.{marked}
use Rattle.graph.proofs.cells.marked.Statement.{statement}
use Rattle.graph.proofs.cells.marked.Tie as tie

returns : tie.Need-returns
unfolding marked
returns c = refl

pub marked_spec : {M : Type 1} → statement M
marked_spec = tie.close (tie.spec (λ c. search rules) returns)
