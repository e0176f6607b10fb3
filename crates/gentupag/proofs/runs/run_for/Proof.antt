-- `gentupag::runs::run_for` meets its contract: the train is not there, or its part of the table is lent. Assumes nothing.
use borrow.Author.Rules.{rules}
use native.Mathlib.Omega.{arith}
use mathlib.Core.List.{List}
use Prim.Native.Nat.{ℕ, ◌+◌, ◌*◌, ◌≤◌, ◌<◌}
use lib.ListN.{length}
use Rattle.model.specs.declared.Book.{Book as BookStruct}
use Rattle.spec.specs.Lists.{Bytes}
use Rattle.listing.specs.Listed.{train_bytes}
use Rattle.tables.specs.Ready.{RunsReady}
use Rattle.tables.proofs.Here.{runs-lent}
use Rattle.gentupag.proofs.Shown.{asked-away}
use Rattle.gentupag.proofs.runs.run_for.Statement.{statement}
use Rattle.gentupag.proofs.runs.run_for.Tie as tie

returns : tie.Need-returns-then-b-train
returns c =
    let s = c.before.before.before.before in
    asked-away s.args.b s.requires.counted.passed _ _ c.if-b-train.true c.without_run.ensures

-- a train that is there, and its part of the table
module _ {b : BookStruct} {counts : List ℕ} {runs : Bytes} (r : RunsReady b counts runs) {train : ℕ} (there : train < b.train_count) where
  few : train < 8
  few = omega (arith, r.counted.passed.packed.counts.trains)

  fits : train * train_bytes + train_bytes ≤ length runs
  fits = omega (arith, few, r.long)

run-among-requires : tie.Need-run_among-requires
run-among-requires c κs =
    let r = c.requires in
    let l = c.if-b-train.false in
    (r.counted.passed, l, r.counted.runs c.args.train l, runs-lent c.args.train l r)

pub run_for_spec : {M : Type 1} → statement M
run_for_spec =
    tie.close
    (tie.spec
    (λ c κs. search rules)
    returns
    (λ c. omega (arith, few c.requires c.if-b-train.false))
    (λ c. omega (arith, few c.requires c.if-b-train.false))
    (λ c. omega (arith, few c.requires c.if-b-train.false))
    (λ c. omega (arith, few c.requires c.if-b-train.false))
    (λ c. omega (arith, few c.requires c.if-b-train.false))
    (λ c. omega (arith, fits c.requires c.if-b-train.false))
    (λ c. omega (arith, fits c.requires c.if-b-train.false))
    run-among-requires
    (λ c. search rules))
