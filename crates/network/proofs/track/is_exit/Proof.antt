-- `track::is_exit` meets its contract: the code is the definition. Assumes nothing.
use mathlib.Core.Path.{refl}
use Rattle.spec.specs.Book.{is_exit}
use Rattle.network.proofs.track.is_exit.Statement.{statement}
use Rattle.network.proofs.track.is_exit.Tie as tie

returns : tie.Need-returns
unfolding is_exit
returns c = refl

pub is_exit_spec : {M : Type 1} → statement M
is_exit_spec = tie.close (tie.spec returns)
