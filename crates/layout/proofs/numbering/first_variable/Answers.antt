-- `numbering::first_variable` meets its contract. Assumes nothing.
use Rattle.std.proofs.Common.{rules, ◌≡◌, ◌+◌, ◌*◌, ◌≤◌, ◌<◌, ℕ, sym, ap, ◌∙◌, subst, arith, length, get_or, take, length-take}
use Rattle.spec.specs.Instance.{instance_of}
use Rattle.spec.specs.Formula.{first_var}
use Rattle.spec.specs.Held.{held}
use Rattle.tables.proofs.Small.{first-none, nodes-is, few-runs, few-segments, first_below, first_then}
use Rattle.tables.proofs.Scans.{taken}
use Rattle.layout.proofs.numbering.first_variable.Goals as goal

pub loop-n-init : goal.loop-n-init
loop-n-init c = sym (first-none (instance_of (held c.args.b)) ∙ nodes-is c.args.b c.requires.0.passed)

pub base_from-first-requires : goal.base_from-first-requires
base_from-first-requires c =
    let a = c.args in
    let counted = c.requires.0 in
    let here = taken a.train a.counts c.loop-n.n-index 0 c.loop-n-test.true in
    let below : c.loop-n.n-index < a.b.train_count = omega (arith, here.0, c.requires.1) in (
      subst (λ (n : ℕ). n ≤ 168296544) (sym c.loop-n.invariant) (first_below a.b a.counts counted c.loop-n.n-index below),
      subst (λ (n : ℕ). n ≤ 256) (sym here.1) (few-runs a.b a.counts counted c.loop-n.n-index below),
      few-segments a.b a.counts counted c.loop-n.n-index below,
      omega (arith, counted.passed.packed.numbers.intervals),
    )

pub loop-n-preserved : goal.loop-n-preserved
loop-n-preserved c =
    let a = c.args in
    let here = taken a.train a.counts c.loop-n.n-index 0 c.loop-n-test.true in
    let below : c.loop-n.n-index < a.b.train_count = omega (arith, here.0, c.requires.1) in
    c.base_from-first.ensures.0
    ∙ ap (λ (n : ℕ). n + a.b.intervals * (get_or (take a.train a.counts) c.loop-n.n-index 0 + 1 + a.b.segment_count)) c.loop-n.invariant
    ∙ ap (λ (n : ℕ). first_var (instance_of (held a.b)) c.loop-n.n-index + a.b.intervals * (n + 1 + a.b.segment_count)) here.1
    ∙ first_then a.b a.counts c.requires.0 c.loop-n.n-index below

pub returns : goal.returns
returns c =
    let a = c.args in
    let many : length a.counts ≡ 8 = search rules in
    let e : c.loop-n.n-index ≡ a.train = omega (arith, length-take a.train a.counts, c.requires.1, c.requires.0.passed.packed.counts.trains) in
    c.loop-n.invariant ∙ ap (first_var (instance_of (held a.b))) e
