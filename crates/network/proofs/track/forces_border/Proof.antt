-- `track::forces_border` meets its contract: the code is the definition. Assumes nothing.
use mathlib.Core.Path.{refl}
use Rattle.spec.specs.Book.{forces_border}
use Rattle.network.proofs.track.forces_border.Statement.{statement}
use Rattle.network.proofs.track.forces_border.Tie as tie

returns : tie.Need-returns
unfolding forces_border
returns c = refl

pub forces_border_spec : {M : Type 1} → statement M
forces_border_spec = tie.close (tie.spec returns)
