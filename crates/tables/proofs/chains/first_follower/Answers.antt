-- `chains::first_follower` meets its contract. Assumes nothing.
use Rattle.std.proofs.Common.{rules, ◌∙◌, refl, arith}
use borrow.Author.Tests.{tests}
use Rattle.std.proofs.lemmas.Iterator.{YieldsList-from_range}
use Rattle.std.proofs.lemmas.Iterator.Search.{find_from_yields_List}
use Rattle.tables.proofs.Links.{follows_at}
use Rattle.tables.proofs.Scans.{least-scan}
use Rattle.tables.proofs.chains.first_follower.Goals as goal

pub returns : goal.returns
returns c =
    let a = c.args in
    let test = follows_at a.runs.now a.l a.r in
    c.unwrap_or.ensures
    ∙ least-scan test 0 a.n a.n c.find.result (omega arith)
    (find_from_yields_List test _ _ c.find.result c.find.ensures.ran (YieldsList-from_range 0 a.n a.n refl (omega arith))
    (λ x b q k. search (rules, tests)))
