-- `scans::some_has` meets its contract: the chain asks the definition's test of the book's segments. Assumes nothing.
use Rattle.std.proofs.Common.{take, eqb, ◌∙◌, rules, tests}
use Rattle.std.proofs.lemmas.Iterator.{YieldsList-from_slice}
use Rattle.std.proofs.lemmas.Iterator.Search.{any_from_yields_List}
use Rattle.spec.specs.Book.{Segment}
use Rattle.spec.specs.Read.{some_has}
use Rattle.spec.specs.Held.{held}
use Rattle.network.proofs.Chains.{any-list}
use Rattle.network.proofs.scans.some_has.Goals as goal

pub returns : goal.returns
unfolding some_has held
returns c =
    let segments = take c.args.b.segment_count c.args.b.segments in
    let of = λ (s : Segment). eqb s.ttd c.args.ttd in
    any_from_yields_List of _ _ _ c.any.ensures.ran (YieldsList-from_slice segments (cc)) (λ x b q k. search (rules, tests))
    ∙ any-list of segments
