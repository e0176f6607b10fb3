-- `track::is_free` meets its contract: the two branches are the two ways of `&&`. Assumes nothing.
use borrow.Author.Rules.{rules}
use mathlib.Core.Path.{sym, ap, ◌∙◌}
use mathlib.Core.Bool.{Bool, not, ◌&&◌}
use Rattle.spec.specs.Book.{forces_border}
use Rattle.network.proofs.track.is_free.Statement.{statement}
use Rattle.network.proofs.track.is_free.Tie as tie

returns : tie.Need-returns-then-not-denies_border
returns c =
    let d = c.before.before in
    simp (sym d.denies_border.ensures ∙ c.if-not-denies_border.true, c.forces_border.ensures)

returns-2 : tie.Need-returns-else-not-denies_border
returns-2 c =
    let d = c.before in
    ap not c.if-not-denies_border.false ∙ sym (ap (λ (t : Bool). not t && not (forces_border d.args.kind)) (sym d.denies_border.ensures ∙ c.if-not-denies_border.false))

pub is_free_spec : {M : Type 1} → statement M
is_free_spec =
    tie.close
    (tie.spec
    (λ c κs. search rules)
    (λ c κs. search rules)
    returns
    returns-2)
