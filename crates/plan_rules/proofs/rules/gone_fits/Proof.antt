-- `rules::gone_fits` meets its contract, case by case. Assumes nothing.
use borrow.Author.Rules.{rules}
use mathlib.Core.Path.{◌≡◌, refl, sym, ap, ap₂, ◌∙◌}
use mathlib.Core.Bool.{Bool, true, false, not, ◌&&◌, ◌||◌}
use Rattle.spec.specs.Instance.{instance_of}
use Rattle.spec.specs.Plan.{is_gone, runs}
use Rattle.spec.specs.Held.{held}
use Rattle.layout.specs.Moves.{held_move}
use Rattle.plan_rules.proofs.rules.gone_fits.Statement.{statement}
use Rattle.plan_rules.proofs.rules.gone_fits.Tie as tie

-- the answer, by whether the train is gone now, was gone before, and may be gone after the run before
abbrev answer : Bool → Bool → Bool → Bool → Bool
answer late gone was leaves = (not gone || (late && (was || leaves))) && (not was || gone)

gone-on : (late leaves : Bool) → late ≡ answer late true true leaves
gone-on true leaves = refl
gone-on false leaves = refl

goes : (leaves : Bool) → leaves ≡ answer true true false leaves
goes true = refl
goes false = refl

-- what the two moves are
module _ (c : tie.After-is_gone) where
  abbrev start : tie.Start
  start = c.before.before.before

  abbrev now : Bool
  now = is_gone (held_move start.args.m)

  abbrev was : Bool
  was = is_gone (held_move start.args.before)

  abbrev leaves : Bool
  leaves = runs (held_move start.args.before) (λ r. (instance_of (held start.args.b)).leaves start.args.train r)

  gone-now : {x : Bool} → c.is_gone-gone.result ≡ x → x ≡ now
  gone-now e = sym e ∙ c.is_gone-gone.ensures

  gone-before : {x : Bool} → c.is_gone.result ≡ x → x ≡ was
  gone-before e = sym e ∙ c.is_gone.ensures

  of-cases : (late : Bool) {x y : Bool} → x ≡ now → y ≡ was → answer late x y leaves ≡ answer late now was leaves
  of-cases late e f = ap₂ (λ (g w : Bool). answer late g w leaves) e f

returns : tie.Need-returns-then-gone
returns c =
    let k = c.before.before in
    gone-on (start k).args.late (leaves k)
    ∙ of-cases k (start k).args.late (gone-now k c.if-gone.true) (gone-before k c.if-is_gone.true)

returns-2 : tie.Need-returns-else-gone
returns-2 c =
    let k = c.before.before in
    c.if-gone.false ∙ of-cases k (start k).args.late (gone-now k c.if-gone.false) (gone-before k c.if-is_gone.true)

returns-3 : tie.Need-returns-then-not-gone
returns-3 c =
    let k = c.before.before in
    ap not c.if-not-gone.true
    ∙ of-cases k (start k).args.late (gone-now k c.if-not-gone.true) (gone-before k c.if-is_gone.false)

returns-4 : tie.Need-returns-then-late
returns-4 c =
    let e = c.before.before in
    let k = e.before.before in
    c.may_go.ensures
    ∙ goes (leaves k)
    ∙ of-cases k true (gone-now k e.if-not-gone.false) (gone-before k e.if-is_gone.false)
    ∙ ap (λ (late : Bool). answer late (now k) (was k) (leaves k)) (sym c.if-late.true)

returns-5 : tie.Need-returns-else-late
returns-5 c =
    let e = c.before in
    let k = e.before.before in
    c.if-late.false
    ∙ of-cases k false (gone-now k e.if-not-gone.false) (gone-before k e.if-is_gone.false)
    ∙ ap (λ (late : Bool). answer late (now k) (was k) (leaves k)) (sym c.if-late.false)

pub gone_fits_spec : {M : Type 1} → statement M
gone_fits_spec =
    tie.close
    (tie.spec
    (λ c κs. search rules)
    (λ c κs. search rules)
    returns
    returns-2
    (λ c κs. search rules)
    returns-3
    returns-4
    returns-5)
