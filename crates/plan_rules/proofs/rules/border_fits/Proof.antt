-- `rules::border_fits` meets its contract: with a border, and without. Assumes nothing.
use borrow.Author.Rules.{rules}
use mathlib.Core.Path.{◌≡◌, refl, sym, ap, ◌∙◌}
use mathlib.Core.Bool.{Bool, true, false, not, ◌&&◌, ◌||◌}
use Prim.Native.Nat.{ℕ}
use Rattle.spec.specs.Book.{denies_border, forces_border}
use Rattle.plan_rules.proofs.rules.border_fits.Statement.{statement}
use Rattle.plan_rules.proofs.rules.border_fits.Tie as tie

-- the answer by the kind and the border
abbrev answer : ℕ → Bool → Bool
answer kind border = (not (denies_border kind) || not border) && (not (forces_border kind) || border)

bordered : (denied forced : Bool) → not denied ≡ ((not denied || false) && (not forced || true))
bordered true forced = refl
bordered false true = refl
bordered false false = refl

bare : (denied forced : Bool) → not forced ≡ ((not denied || true) && (not forced || false))
bare true true = refl
bare true false = refl
bare false true = refl
bare false false = refl

returns : tie.Need-returns-then-border
returns c =
    let k = c.args.kind in
    ap not c.denies_border.ensures ∙ bordered (denies_border k) (forces_border k) ∙ ap (answer k) (sym c.if-border.true)

returns-2 : tie.Need-returns-else-border
returns-2 c =
    let k = c.args.kind in
    ap not c.forces_border.ensures ∙ bare (denies_border k) (forces_border k) ∙ ap (answer k) (sym c.if-border.false)

pub border_fits_spec : {M : Type 1} → statement M
border_fits_spec =
    tie.close (tie.spec (λ c κs. search rules) (λ c κs. search rules) returns returns-2)
