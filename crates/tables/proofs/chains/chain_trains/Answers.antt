-- `chains::chain_trains` meets its contract: a turn chains one train's runs, in the train's own part of the table. Assumes nothing.
use Rattle.std.proofs.Common.{◌≡◌, ◌+◌, ◌*◌, ◌≤◌, refl, ◌∙◌, arith, length}
use borrow.Rule.Slice.PartMut.{mid_len}
use lib.Seq.{sets}
use Rattle.spec.specs.Held.{held}
use Rattle.listing.specs.Listed.{filled}
use Rattle.listing.proofs.Filled.{filled_next}
use Rattle.tables.specs.Tables.{chains_of, train_chains}
use Rattle.tables.proofs.Here.{runs-lent}
use Rattle.tables.proofs.chains.chain_trains.Goals as goal

pub loop-i-init : goal.loop-i-init
unfolding filled
loop-i-init c = refl

pub chain_train-requires : goal.chain_train-requires
chain_train-requires c =
    let r = c.requires.0 in
    let i = c.loop-i.i in
    let test = c.loop-i-test.true in
    let at = i * train_chains in
    let fits : at + train_chains ≤ length c.loop-i.chains = omega (arith, test, r.counted.passed.packed.counts.trains) in (
      r.counted.passed,
      test,
      r.counted.runs i test,
      runs-lent i test r,
      mid_len at (at + train_chains) c.loop-i.chains fits ∙ omega arith,
    )

pub loop-i-preserved : goal.loop-i-preserved
loop-i-preserved c =
    let i = c.loop-i.i in
    let fits : i * train_chains + train_chains ≤ length c.loop-i.chains = omega (arith, c.loop-i-test.true, c.requires.0.counted.passed.packed.counts.trains) in
    filled_next (λ k old. sets old 0 (chains_of (held c.args.b) k)) train_chains i _ _ _ fits c.loop-i.invariant c.chain_train.ensures

pub returns : goal.returns
returns c = let e : c.loop-i.i ≡ c.args.b.train_count = omega arith in rw e at c.loop-i.invariant
