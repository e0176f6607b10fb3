-- `track::start_in` meets its contract: by the direction. Assumes nothing.
use borrow.Author.Rules.{rules}
use Rattle.network.proofs.track.start_in.Statement.{statement}
use Rattle.network.proofs.track.start_in.Tie as tie

pub start_in_spec : {M : Type 1} → statement M
start_in_spec = tie.close (tie.spec (λ c κs. search rules) (λ c. c.by_direction.ensures))
