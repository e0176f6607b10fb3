use Rattle.std.proofs.Common.{rules}
use Rattle.clauses.proofs.Laws.{passes-clause}
use Rattle.clauses.proofs.Walk.clause.Goals as goal

pub returns : goal.returns
returns g c = passes-clause c.requires.1 (search rules) c.close.ensures c.store_clause.ensures
