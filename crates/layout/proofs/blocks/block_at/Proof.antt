-- `blocks::block_at` meets its contract: the intervals before are as wide as the train's variables in one. Assumes nothing.
use native.Mathlib.Omega.{arith}
use mathlib.Core.Path.{◌≡◌, refl, sym, ap, ◌∙◌}
use Prim.Native.Nat.{ℕ, ◌+◌, ◌*◌}
use Rattle.spec.specs.Instance.{Instance, instance_of}
use Rattle.spec.specs.Formula as formula
use Rattle.spec.specs.Held.{held}
use Rattle.tables.proofs.Small.{runs-small, begins-small, base-first, base-at, passed-few}
use Rattle.layout.proofs.blocks.block_at.Statement.{statement}
use Rattle.layout.proofs.blocks.block_at.Tie as tie

module _ (s : tie.Start) where
  abbrev I : Instance
  I = instance_of (held s.args.b)

  abbrev train : ℕ
  train = s.args.first.train

  first-is : s.args.first.base ≡ formula.first_var I train
  first-is = let k = s.requires.0 in k.base ∙ sym (base-first I (passed-few s.args.b k.block.passed) train)

returns : tie.Need-returns
returns c =
    let s = c.before in
    let a = s.args in
    let h = s.requires.0.block in
    let e = c.base_from.ensures in (
      record {
        block = record {
          passed = h.passed;
          known = h.known;
          runs = h.runs;
          length = h.length;
          short = h.short;
          small = omega (arith, e.1);
        };
        train = refl;
        base =
            e.0
            ∙ ap (λ (x : ℕ). x + a.interval * (a.first.runs + 1 + a.b.segment_count)) (first-is s)
            ∙ base-at a.b h.passed (train s) h.known a.first.runs h.runs a.interval;
      },
      refl,
    )

pub block_at_spec : {M : Type 1} → statement M
block_at_spec =
    tie.close
    (tie.spec
    (λ c κs.
    let a = c.args in
    let h = c.requires.0.block in (
      omega (arith, first-is c, begins-small a.b h.passed (train c) h.known a.first.runs h.runs),
      runs-small a.b h.passed (train c) h.known a.first.runs h.runs,
      h.passed.packed.counts.segments,
      omega (arith, h.passed.packed.numbers.intervals, c.requires.1),
    ))
    returns)
