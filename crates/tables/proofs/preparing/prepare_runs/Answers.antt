-- A book that was accepted passed, so what is listed of it is ready. Assumes nothing.
use Rattle.std.proofs.Common.{arith}
use Rattle.std.proofs.lemmas.Result.{IfOk-at_ok}
use Rattle.laws.proofs.Answers.{when-ok}
use Rattle.tables.proofs.Instances.{passed, counted}
use Rattle.tables.proofs.Filled.{runs-ready}
use Rattle.tables.proofs.preparing.prepare_runs.Goals as goal

pub returns-clause-ready : goal.returns-clause-ready
returns-clause-ready c =
    let e = c.read_runs.ensures in
    when-ok _ _ λ r is.
    let p = passed _ e.answer is (λ i. omega (arith, c.type_inv.book i)) in
    runs-ready r.book p r.counts c.args.runs.now c.requires (counted _ e.answer is) (IfOk-at_ok _ is e.ok)
