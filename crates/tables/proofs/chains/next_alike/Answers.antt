-- `chains::next_alike` meets its contract. Assumes nothing.
use Rattle.std.proofs.Common.{rules, ◌+◌, ◌-◌, ◌∙◌, refl, arith}
use borrow.Author.Tests.{tests}
use Rattle.std.proofs.lemmas.Iterator.{YieldsList-from_range}
use Rattle.std.proofs.lemmas.Iterator.Search.{find_from_yields_List}
use Rattle.tables.proofs.Links.{alike_at}
use Rattle.tables.proofs.Scans.{least-scan}
use Rattle.tables.proofs.chains.next_alike.Goals as goal

pub returns : goal.returns
returns c =
    let a = c.args in
    let test = alike_at a.runs.now a.l a.q in
    c.unwrap_or.ensures
    ∙ least-scan test (a.q + 1) (a.n - (a.q + 1)) a.n c.find.result (omega arith)
    (find_from_yields_List test _ _ c.find.result c.find.ensures.ran (YieldsList-from_range (a.q + 1) a.n (a.n - (a.q + 1)) refl refl)
    (λ x b q k. search (rules, tests)))
