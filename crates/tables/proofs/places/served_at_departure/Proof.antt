-- `places::served_at_departure` meets its contract: the two branches are the two ways of `&&`. Assumes nothing.
use borrow.Author.Rules.{rules}
use mathlib.Core.Path.{sym, ap, ◌∙◌}
use mathlib.Core.Bool.{Bool, ◌&&◌}
use Rattle.spec.specs.Instance.{place_serves}
use Rattle.spec.specs.Held.{held, held_train}
use Rattle.tables.proofs.places.served_at_departure.Statement.{statement}
use Rattle.tables.proofs.places.served_at_departure.Tie as tie

in-window-requires : tie.Need-in_window-requires
in-window-requires c κs = search rules

given-serves-requires : tie.Need-given_serves-requires
given-serves-requires c κs = search rules

-- whether the given place serves the call
abbrev place : tie.Start → Bool
place s = place_serves (held s.args.b) s.args.c (held_train s.args.t).place

returns : tie.Need-returns-then-in_window
returns c =
    let w = c.before.before in
    c.given_serves.ensures ∙ ap (λ (x : Bool). x && place w.before) (sym c.if-in_window.true ∙ w.in_window.ensures)

returns-2 : tie.Need-returns-else-in_window
returns-2 c =
    let w = c.before in
    c.if-in_window.false ∙ ap (λ (x : Bool). x && place w.before) (sym c.if-in_window.false ∙ w.in_window.ensures)

pub served_at_departure_spec : {M : Type 1} → statement M
served_at_departure_spec = tie.close (tie.spec in-window-requires given-serves-requires returns returns-2)
