-- `all` answers for each number of the list. Assumes nothing.
use Rattle.std.proofs.Common.{◌∙◌, ◌&&◌, ℕ, Bool, ap, sym, refl, arith, get_or, leb, ltb, rules, tests}
use Rattle.std.specs.List.{list_all, range_with_len}
use Rattle.std.proofs.lemmas.Iterator.{YieldsList-from_range}
use Rattle.std.proofs.lemmas.Iterator.Search.{all_from_yields_List}
use Rattle.std.proofs.lemmas.List.Folds.{list_all-map}
use Rattle.std.proofs.lemmas.List.FromFn.{fill_by_all}
use Rattle.spec.specs.Refutation.{hints_fit}
use Rattle.refutation_file.specs.Numbers.{number_count, numbers_in}
use Rattle.frames.proofs.Bridges.{list_all-is}
use Rattle.refutation_file.proofs.NumberLists.{numbers-length}
use Rattle.refutation_file.proofs.numbers.hints_fit.Goals as goal

pub returns : goal.returns
unfolding hints_fit
returns c =
    let n = number_count c.args.list.now in
    let hints = numbers_in c.args.list.now in
    let fits : ℕ → Bool = λ h. leb 1 h && ltb h c.args.own in
    let at : ℕ → ℕ = λ i. get_or hints i 0 in
    all_from_yields_List (λ i. fits (at i)) _ _ _ c.all.ensures.ran (YieldsList-from_range 0 n n refl (omega arith)) (λ x b q k. search (rules, tests))
    ∙ sym (list_all-map fits at (range_with_len 0 n))
    ∙ ap (list_all fits) (sym (fill_by_all at hints n 0 (numbers-length c.args.list.now) (λ k h. refl)))
    ∙ list_all-is fits hints
