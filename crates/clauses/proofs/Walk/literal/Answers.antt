use mir.Facts.{to_z-of_z}
use Rattle.clauses.proofs.Laws.{passes-literal}
use Rattle.clauses.proofs.Walk.literal.Goals as goal

pub returns : goal.returns
returns c = passes-literal c.requires c.more-self.ensures (rw (to_z-of_z c.ranges.l) at c.store.ensures)
