-- `places::serves`: the segment that it looks for is the call's.
use Rattle.std.proofs.Common.{rules}
use Rattle.spec.specs.Instance.{place_serves}
use Rattle.tables.proofs.places.serves.Goals as goal

pub returns : goal.returns
unfolding place_serves
returns c = search rules
