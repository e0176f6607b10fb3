-- Test by test. Assumes nothing.
use Rattle.std.proofs.Common.{rules}
use Rattle.fewest.specs.Counted.{room_for}
use Rattle.fewest.proofs.has_room.Goals as goal

pub returns-then-variables-values : goal.returns-then-variables-values
unfolding room_for
returns-then-variables-values c = search rules

pub returns-else-variables-values : goal.returns-else-variables-values
unfolding room_for
returns-else-variables-values c = search rules
