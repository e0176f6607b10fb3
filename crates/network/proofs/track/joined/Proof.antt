-- `track::joined` meets its contract: the book's joins are the first of the array. Assumes nothing.
use borrow.Author.Rules.{rules}
use Rattle.spec.specs.Book.{joined}
use Rattle.spec.specs.Held.{held}
use Rattle.network.proofs.track.joined.Statement.{statement}
use Rattle.network.proofs.track.joined.Tie as tie

returns : tie.Need-returns
unfolding joined held
returns c = c.join_among.ensures

pub joined_spec : {M : Type 1} → statement M
joined_spec = tie.close (tie.spec (λ c κs. search rules) returns)
