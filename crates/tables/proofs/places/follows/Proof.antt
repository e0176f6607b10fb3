-- `places::follows` meets its contract. Assumes nothing.
use borrow.Author.Rules.{rules}
use native.Mathlib.Omega.{arith}
use mathlib.Core.Path.{◌∙◌}
use Rattle.tables.specs.Placed.{end_at}
use Rattle.tables.proofs.places.follows.Statement.{statement}
use Rattle.tables.proofs.places.follows.Tie as tie

same-places-requires : tie.Need-same_places-requires
unfolding end_at
same-places-requires c κs = (omega arith, omega arith)

returns : tie.Need-returns
returns c = c.same_places.ensures ∙ simp (c.end_of.ensures, c.start_of.ensures)

pub follows_spec : {M : Type 1} → statement M
follows_spec = tie.close (tie.spec (λ c κs. search rules) (λ c κs. search rules) same-places-requires returns)
