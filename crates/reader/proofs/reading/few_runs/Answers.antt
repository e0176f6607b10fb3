-- `all` answers for the counts of the book's trains. Assumes nothing.
use Rattle.std.proofs.Common.{◌≡◌, ℕ, List, take, length, leb, rules, tests, sym, ap₂, ◌∙◌, arith}
use Rattle.std.specs.List.{list_all}
use Rattle.std.proofs.lemmas.Iterator.{YieldsList-from_slice}
use Rattle.std.proofs.lemmas.Iterator.Search.{all_from_yields_List}
use Rattle.spec.specs.Held.{held}
use Rattle.network.proofs.Walks.{length-of-map}
use Rattle.listing.proofs.Trains.{trains-counted}
use Rattle.reader.proofs.Ends.{counts-fit}
use Rattle.reader.proofs.reading.few_runs.Goals as goal

pub returns : goal.returns
returns c =
    let t : length c.args.b.trains ≡ 8 = search (rules, length-of-map) in
    let n = trains-counted c.args.b (omega (arith, t, c.requires.0.trains)) in
    let counts = take c.args.b.train_count c.args.counts in
    all_from_yields_List (λ k. leb k 256) _ _ _ c.all.ensures.ran (YieldsList-from_slice counts (cc)) (λ x b q k. search (rules, tests))
    ∙ ap₂ (λ (xs : List ℕ) (k : ℕ). list_all (λ m. leb m 256) (take k xs)) c.requires.1 (sym n)
    ∙ counts-fit (held c.args.b)
