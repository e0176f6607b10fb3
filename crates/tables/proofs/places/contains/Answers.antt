-- `places::contains` meets its contract. Assumes nothing.
use Rattle.std.proofs.Common.{rules, ◌+◌, ◌/◌, ◌∙◌, ap, sym, nat_eq, slice_range}
use borrow.Author.Tests.{tests}
use Rattle.std.proofs.lemmas.Iterator.{YieldsList-from_slice}
use Rattle.std.proofs.lemmas.Iterator.Search.{any_from_yields_List}
use Rattle.spec.specs.Lists.{any, has}
use Rattle.spec.specs.Book.{segment_of}
use Rattle.spec.specs.Runs as paths
use Rattle.laws.proofs.Rows.{any-map}
use Rattle.tables.proofs.Scans.{any-scan, place-lent}
use Rattle.tables.proofs.places.contains.Goals as goal

pub returns : goal.returns
unfolding paths.contains has segment_of
returns c =
    let a = c.args in
    any_from_yields_List (λ d. nat_eq a.segment (d / 2)) _ _ _ c.any.ensures.ran
    (YieldsList-from_slice (slice_range a.table.now a.at (a.at + a.l)) (search rules))
    (λ x b q k. search (rules, tests))
    ∙ any-scan _ _
    ∙ ap (any (λ d. nat_eq a.segment (d / 2))) (place-lent _ _ _)
    ∙ sym (any-map _ _ _)
