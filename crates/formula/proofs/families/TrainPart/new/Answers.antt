use Rattle.std.proofs.Common.{ℕ, ◌*◌, sym, subst}
use Rattle.spec.specs.Held.{held}
use Rattle.listing.specs.Listed.{train_bytes}
use Rattle.listing.proofs.Filled.{lent}
use Rattle.tables.specs.Tables.{train_chains}
use Rattle.tables.specs.Ready.{RunsHeld, ChainsHeld}
use Rattle.tables.proofs.Here.{runs-lent, chains-lent}
use Rattle.layout.specs.Blocks.{BlockOf}
use Rattle.formula.proofs.families.TrainPart.new.Goals as goal

pub invariant_of-result : goal.invariant_of-result
invariant_of-result c =
    let t = c.args.t.now in
    let i = c.args.train in
    let first = c.train_block.ensures in
    let same = sym first.train in
    let passed = t.runs_ready.counted.passed in
    record {
      block = subst (λ (j : ℕ). BlockOf t.book j 0 c.train_block.result) same first;
      runs_held = subst (λ (j : ℕ). RunsHeld (held t.book) j (lent (i * train_bytes) train_bytes t.runs.now)) same
          (runs-lent i c.requires t.runs_ready);
      chains_held = subst (λ (j : ℕ). ChainsHeld (held t.book) j (lent (i * train_chains) train_chains t.chains.now)) same
          (chains-lent i c.requires passed t.chains_ready);
      meets_ready = t.meets_ready;
    }
