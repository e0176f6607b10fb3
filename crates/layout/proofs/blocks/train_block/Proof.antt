-- `blocks::train_block` meets its contract. Assumes nothing.
use borrow.Author.Rules.{rules}
use native.Mathlib.Omega.{arith}
use mathlib.Core.Path.{refl, ◌∙◌}
use Rattle.tables.proofs.Here.{length-here, length-asks}
use Rattle.tables.proofs.Small.{first_below, base-first, passed-few}
use Rattle.layout.proofs.blocks.train_block.Statement.{statement}
use Rattle.layout.proofs.blocks.train_block.Tie as tie

returns : tie.Need-returns
returns c =
    let s = c.before.before.before in
    let a = s.args in
    let p = s.requires in
    let l = length-here a.b p.0.passed a.train p.1 c.length_in_segments-length.ensures in
    record {
      block = record {
        passed = p.0.passed;
        known = p.1;
        runs = p.0.runs a.train p.1;
        length = l.0;
        short = l.1;
        small = omega (arith, c.first_variable.ensures, first_below a.b a.counts p.0 a.train p.1);
      };
      train = refl;
      base = c.first_variable.ensures ∙ base-first _ (passed-few a.b p.0.passed) a.train;
    }

pub train_block_spec : {M : Type 1} → statement M
train_block_spec =
    tie.close
    (tie.spec
    (λ c. search rules)
    (λ c. search rules)
    (λ c κs. length-asks c.args.b c.requires.0.passed c.args.train c.requires.1)
    (λ c. search rules)
    (λ c. search rules)
    (λ c κs. let p = c.requires in (p.0, omega (arith, p.1)))
    returns)
