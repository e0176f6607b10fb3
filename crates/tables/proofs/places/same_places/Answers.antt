-- `places::same_places` meets its contract. Assumes nothing.
use Rattle.std.proofs.Common.{◌∙◌, ap₂}
use Rattle.spec.specs.Lists.{same}
use Rattle.tables.proofs.Scans.{same-scan, place-lent}
use Rattle.tables.proofs.places.same_places.Goals as goal

pub returns : goal.returns
returns c = c.eq.ensures ∙ same-scan _ _ ∙ ap₂ same (place-lent _ _ _) (place-lent _ _ _)
