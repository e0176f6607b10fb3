-- Room, then the bytes of the variables are zeroed and the steps are checked. Assumes nothing.
use Rattle.std.proofs.Common.{rules, arith, ℕ, ◌≡◌, ◌≤◌, refl, ap, ◌∙◌, length, take}
use mathlib.Core.Logic.{⊎_elim}
use lib.Seq.{length-take-le}
use Rattle.spec.specs.Instance.{instance_of, under}
use Rattle.spec.specs.Formula.{formula, words_of}
use Rattle.spec.specs.Held.{held, held_cap}
use Rattle.spec.specs.Entry.{zeroed}
use Rattle.refutation_steps.specs.declared.one_step.Extent.{Extent}
use Rattle.refutations.specs.Lent.{lengths}
use Rattle.refutations.proofs.Lengths.{Room, short, checked}
use Rattle.refutations.proofs.Loaded.{room-iff, in-variables, said, ready}
use Rattle.refutations.proofs.check_loaded.Goals as goal

pub returns-then-words-formula : goal.returns-then-words-formula
returns-then-words-formula c = short _ _ _ λ r.
    ⊎_elim (λ x. omega (arith, r.words, x, ap (λ (f : Extent). f.words) c.requires.1))
    (λ x. omega (arith, r.clauses, x.1, ap (λ (f : Extent). f.clauses) c.requires.1)) c.then-words-formula.either

pub returns-then-values-variables : goal.returns-then-values-variables
returns-then-values-variables c = short _ _ _ λ r.
    ⊎_elim (λ x. omega (arith, r.values, x, c.variable_count-variables.ensures.0))
    (λ x. omega (arith, r.trail, x.1, c.variable_count-variables.ensures.0)) c.then-values-variables.either

pub check_steps-requires : goal.check_steps-requires
unfolding zeroed
check_steps-requires c =
    let I = under (held_cap c.args.cap) (instance_of (held c.args.b)) in
    let u = ap (λ (f : Extent). f.words) c.requires.1 in
    let k = ap (λ (f : Extent). f.clauses) c.requires.1 in
    let v = c.variable_count-variables.ensures in
    let w : length (words_of (formula I)) ≤ length c.args.words.now = omega (arith, u, c.if-words-formula.false) in
    let s : length (formula I) ≤ length c.args.starts.now = omega (arith, k, c.if-starts-formula.false) in
    let fits = (room-iff I c.args.words.now c.args.starts.now).1 (w, s) in
    let zeros : c.fill.new.self ≡ zeroed 0 (length c.args.values.now) = search rules in
    ready _ (formula I) (in-variables _ _ c.requires.0.passed v.0) c.args.words.now c.args.starts.now _ u k (c.requires.2.front fits)
    (c.requires.2.begins fits) w s zeros c.if-values-variables.false c.if-trail-variables.false (omega (arith, v.1))

pub returns : goal.returns
returns c =
    let I = under (held_cap c.args.cap) (instance_of (held c.args.b)) in
    let u = ap (λ (f : Extent). f.words) c.requires.1 in
    let k = ap (λ (f : Extent). f.clauses) c.requires.1 in
    let v = c.variable_count-variables.ensures in
    let w : length (words_of (formula I)) ≤ length c.args.words.now = omega (arith, u, c.if-words-formula.false) in
    let s : length (formula I) ≤ length c.args.starts.now = omega (arith, k, c.if-starts-formula.false) in
    let fits = (room-iff I c.args.words.now c.args.starts.now).1 (w, s) in
    let room : Room I (lengths c.args.words.now c.args.starts.now c.args.values.now c.args.trail.now) = record {
      words = w;
      clauses = s;
      values = omega (arith, v.0, c.if-values-variables.false);
      trail = omega (arith, v.0, c.if-trail-variables.false);
    } in
    let handed = length-take-le c.variable_count-variables.result c.fill.new.self
    (omega (arith, c.if-values-variables.false, c.fill.auto.self)) in
    checked I _ _ room refl refl (handed ∙ v.0)
    (said _ _ (in-variables _ _ c.requires.0.passed v.0) (ap (λ (n : ℕ). take n c.args.words.now) u ∙ c.requires.2.front fits))
    c.check_steps.ensures.answer
