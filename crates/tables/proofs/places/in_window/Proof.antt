-- `places::in_window` meets its contract: the two branches are the two ways of `&&`. Assumes nothing.
use borrow.Author.Tests.{le-leb, lt-leb}
use mathlib.Core.Path.{sym, ap, ◌∙◌}
use mathlib.Core.Bool.{Bool, ◌&&◌}
use lib.Dec.{leb}
use Rattle.spec.specs.Read.{between}
use Rattle.tables.proofs.places.in_window.Statement.{statement}
use Rattle.tables.proofs.places.in_window.Tie as tie

returns : tie.Need-returns-then-c-time
unfolding between
returns c =
    let a = c.args in
    sym (ap (λ (t : Bool). t && leb a.time a.c.last) (le-leb _ _ c.if-c-time.true))

returns-2 : tie.Need-returns-else-c-time
unfolding between
returns-2 c =
    let a = c.args in
    let h = lt-leb a.c.first a.time c.if-c-time.false in
    h ∙ sym (ap (λ (t : Bool). t && leb a.time a.c.last) h)

pub in_window_spec : {M : Type 1} → statement M
in_window_spec = tie.close (tie.spec returns returns-2)
