use Rattle.clauses.proofs.Laws.{passes-close}
use Rattle.clauses.proofs.Walk.close.Goals as goal

pub returns : goal.returns
returns c = passes-close c.close.ensures c.store.ensures
