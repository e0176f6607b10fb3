-- `hints::truth` meets its contract: the byte of the literal's variable, turned round where the literal is negative. Assumes nothing.
use borrow.Author.Rules.{rules}
use native.Mathlib.Omega.{arith}
use mathlib.Core.Path.{◌≡◌, sym, ap, ◌∙◌}
use mathlib.Core.Bool.{Bool, true, false, cond}
use Prim.Native.Nat.{ℕ, ◌-◌}
use lib.ListN.{get_or}
use lib.IntN.{pos}
use lib.Signed.{lt_z}
use mir.Syntax.{w32}
use mir.Facts.{to_z-of_z}
use Rattle.spec.specs.Assignment as spec
use Rattle.spec.specs.Assignment.{Value, open', yes', no', deny}
use Rattle.spec.specs.Refutation.{variable_of}
use Rattle.demands.proofs.Refuting.{split}
use Rattle.propagation.specs.Known.{value_in, values_in, answered}
use Rattle.propagation.proofs.Signs.{sign_of, truth-by, byte-false}
use Rattle.propagation.proofs.hints.truth.Statement.{statement}
use Rattle.propagation.proofs.hints.truth.Tie as tie

-- the variable that was found is the literal's
module _ (c : tie.After-variable) where
  abbrev start : tie.Start
  start = c.before.before

  found : c.variable.result ≡ variable_of start.args.l
  found = c.variable.ensures ∙ ap variable_of (to_z-of_z {w = w32} start.ranges.l)

  abbrev byte : ℕ
  byte = get_or start.args.values.now (c.variable.result - 1) 0

  answer : (b : Bool) (x : Value) → lt_z start.args.l (pos 0) ≡ b → value_in byte ≡ x
      → answered (cond b (deny x) x) ≡ answered (spec.truth (values_in start.args.values.now) start.args.l)
  answer b x e h =
      let here : value_in (get_or start.args.values.now (variable_of start.args.l - 1) 0) ≡ x = rw (← found) h in
      ap answered (sym (truth-by _ _ b x start.requires.0 e here))

returns : tie.Need-returns-then-value-eq0
unfolding value_in deny
returns c =
    let v = c.before.before in
    split (lt_z (start v).args.l (pos 0))
    (λ e. answer v true open' e (ap value_in c.if-value-eq0.true))
    (λ e. answer v false open' e (ap value_in c.if-value-eq0.true))

returns-2 : tie.Need-returns-then-value-eq1
unfolding value_in deny
returns-2 c =
    let v = c.before.before.before.before in
    answer v true yes' (sign_of (start v).ranges.l c.if-l-lt0.true) (ap value_in c.if-value-eq1.true)

returns-3 : tie.Need-returns-else-value-eq1
unfolding deny
returns-3 c =
    let v = c.before.before.before.before in
    answer v true no' (sign_of (start v).ranges.l c.if-l-lt0.true)
    (byte-false (byte v) c.if-value-eq0.false c.if-value-eq1.false)

returns-4 : tie.Need-returns-then-value-eq1-2
unfolding value_in
returns-4 c =
    let v = c.before.before.before.before in
    answer v false yes' (sign_of (start v).ranges.l c.if-l-lt0.false) (ap value_in c.if-value-eq1-2.true)

returns-5 : tie.Need-returns-else-value-eq1-2
returns-5 c =
    let v = c.before.before.before.before in
    answer v false no' (sign_of (start v).ranges.l c.if-l-lt0.false)
    (byte-false (byte v) c.if-value-eq0.false c.if-value-eq1-2.false)

pub truth_spec : {M : Type 1} → statement M
truth_spec =
    tie.close
    (tie.spec
    (λ c κs. search rules)
    (λ c. omega (arith, found c, (start c).requires))
    (λ c. omega (arith, found c.before, (start c.before).requires))
    returns
    returns-2
    returns-3
    returns-4
    returns-5)
