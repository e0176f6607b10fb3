-- `track::join_among` meets its contract: the chain asks the definition's test of the first joins. Assumes nothing.
use Rattle.std.proofs.Common.{take, ◌∙◌, rules, tests}
use Rattle.std.proofs.lemmas.Iterator.{YieldsList-from_slice}
use Rattle.std.proofs.lemmas.Iterator.Search.{any_from_yields_List}
use Rattle.spec.specs.Book.{join_is}
use Rattle.network.proofs.Chains.{any-list}
use Rattle.network.proofs.track.join_among.Goals as goal

pub returns : goal.returns
returns c =
    let joins = take c.args.n c.args.joins in
    let is = join_is c.args.node c.args.s c.args.t in
    any_from_yields_List is _ _ _ c.any.ensures.ran (YieldsList-from_slice joins (cc)) (λ x b q k. search (rules, tests))
    ∙ any-list is joins
