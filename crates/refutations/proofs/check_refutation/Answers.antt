-- Each slice is zeroed, which is as long as it was. Assumes nothing.
use Rattle.std.proofs.Common.{rules}
use Rattle.spec.specs.Entry.{zeroed}
use Rattle.refutations.proofs.check_refutation.Goals as goal

pub returns-clause-words : goal.returns-clause-words
unfolding zeroed
returns-clause-words c = search rules

pub returns-clause-starts : goal.returns-clause-starts
unfolding zeroed
returns-clause-starts c = search rules

pub returns-clause-values : goal.returns-clause-values
unfolding zeroed
returns-clause-values c = search rules

pub returns-clause-trail : goal.returns-clause-trail
unfolding zeroed
returns-clause-trail c = search rules
