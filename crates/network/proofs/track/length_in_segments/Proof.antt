-- `track::length_in_segments` meets its contract: the code is the definition. Assumes nothing.
use borrow.Author.Rules.{rules}
use mathlib.Core.Path.{refl}
use Rattle.spec.specs.Book.{length_in_segments}
use Rattle.spec.specs.Held.{held, held_train}
use Rattle.network.proofs.track.length_in_segments.Statement.{statement}
use Rattle.network.proofs.track.length_in_segments.Tie as tie

sub-result : tie.Need-overflow_sub-result
sub-result c = search rules

add-result : tie.Need-overflow_add-result
add-result c = search rules

div-result : tie.Need-nonzero_div-result
div-result c = search rules

returns : tie.Need-returns
unfolding length_in_segments held held_train
returns c = refl

pub length_in_segments_spec : {M : Type 1} → statement M
length_in_segments_spec = tie.close (tie.spec sub-result add-result div-result returns)
