-- No variable, a border, a train's, or the counter's.
use native.Mathlib.Omega.{arith}
use mathlib.Core.Path.{◌≡◌, ap, ◌∙◌, subst}
use Prim.Native.Nat.{ℕ, suc, ◌-◌, ◌≤◌}
use Rattle.spec.specs.Lists.{accepted}
use Rattle.spec.specs.Instance.{instance_of, under}
use Rattle.spec.specs.Formula.{first_var}
use Rattle.spec.specs.Held.{held, held_cap}
use Rattle.spec.specs.Library.{meaning_of}
use Rattle.tables.proofs.Small.{nodes-is, trains-is, first-none, own-variables}
use Rattle.gentupag.specs.Answers.{variable_answer}
use Rattle.gentupag.proofs.Standing.{answered, none-at, border-at}
use Rattle.gentupag.proofs.variables.variable_by.Goals as goal

pub returns-then-v-eq0 : goal.returns-then-v-eq0
returns-then-v-eq0 c =
    c.stands_for.ensures ∙ answered (none-at (under (held_cap c.args.cap) (instance_of (held c.args.b))) _ c.if-v-eq0.true)

pub returns-then-at-b : goal.returns-then-at-b
returns-then-at-b c =
    c.stands_for-then-at-b.ensures
    ∙ answered (border-at (under (held_cap c.args.cap) (instance_of (held c.args.b))) _ (omega (arith, c.if-v-eq0.false))
    (omega (arith, nodes-is c.args.b c.requires.passed, c.if-at-b.true)))

pub loop-train-init : goal.loop-train-init
loop-train-init c = omega (arith, first-none (instance_of (held c.args.b)), nodes-is c.args.b c.requires.passed, c.if-at-b.false)

pub returns-then-at-first_variable : goal.returns-then-at-first_variable
returns-then-at-first_variable c =
    let J = under (held_cap c.args.cap) (instance_of (held c.args.b)) in
    let some : suc (c.args.v - 1) ≡ c.args.v = omega (arith, c.if-v-eq0.false) in
    c.in_train.ensures (held_cap c.args.cap) ∙ ap (λ (k : ℕ). variable_answer (accepted (meaning_of J k))) some

pub in_counter-requires : goal.in_counter-requires
in_counter-requires c =
    let I = instance_of (held c.args.b) in
    let e : c.loop-train.train ≡ I.trains
    = omega (arith, trains-is c.args.b c.requires.passed, c.loop-train.auto, c.loop-train-test.false) in
    let k : first_var I I.trains ≤ c.args.v - 1 = subst (λ (i : ℕ). first_var I i ≤ c.args.v - 1) e c.loop-train.invariant in
    (c.requires, omega (arith, own-variables I, k))

pub returns : goal.returns
returns c =
    let J = under (held_cap c.args.cap) (instance_of (held c.args.b)) in
    let some : suc (c.args.v - 1) ≡ c.args.v = omega (arith, c.if-v-eq0.false) in
    c.in_counter.ensures ∙ ap (λ (k : ℕ). variable_answer (accepted (meaning_of J k))) some
