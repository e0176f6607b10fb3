-- `listing::uses` meets its contract: the chain asks the definition's test of the path's directed segments. Assumes nothing.
use Rattle.std.proofs.Common.{◌/◌, eqb, sym, ◌∙◌, rules, tests}
use Rattle.std.proofs.lemmas.Iterator.{YieldsList-from_slice}
use Rattle.std.proofs.lemmas.Iterator.Search.{any_from_yields_List}
use Rattle.spec.specs.Lists.{has}
use Rattle.spec.specs.Book.{segment_of}
use Rattle.laws.proofs.Rows.{any-map}
use Rattle.network.proofs.Chains.{any-list}
use Rattle.listing.specs.Listed.{path_of}
use Rattle.listing.proofs.uses.Goals as goal

pub returns : goal.returns
unfolding has segment_of path_of
returns c =
    let ds = path_of c.args.path in
    any_from_yields_List (λ d. eqb c.args.segment (d / 2)) _ _ _ c.any.ensures.ran (YieldsList-from_slice ds (cc)) (λ x b q k. search (rules, tests))
    ∙ any-list _ ds
    ∙ sym (any-map (eqb c.args.segment) segment_of ds)
