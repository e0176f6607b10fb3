-- `track::end_in` meets its contract: by the direction. Assumes nothing.
use borrow.Author.Rules.{rules}
use Rattle.network.proofs.track.end_in.Statement.{statement}
use Rattle.network.proofs.track.end_in.Tie as tie

pub end_in_spec : {M : Type 1} → statement M
end_in_spec = tie.close (tie.spec (λ c κs. search rules) (λ c. c.by_direction.ensures))
