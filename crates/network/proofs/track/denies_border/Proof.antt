-- `track::denies_border` meets its contract: the two branches are the two ways of `||`. Assumes nothing.
use borrow.Author.Rules.{rules}
use borrow.Author.Tests.{eq-eqb, ne_eqb}
use Rattle.spec.specs.Book.{denies_border}
use Rattle.network.proofs.track.denies_border.Statement.{statement}
use Rattle.network.proofs.track.denies_border.Tie as tie

returns : tie.Need-returns-then-kind-eq0
unfolding denies_border
returns c = let h = eq-eqb _ _ c.if-kind-eq0.true in simp h

returns-2 : tie.Need-returns-else-kind-eq0
unfolding denies_border
returns-2 c = let h = ne_eqb _ _ c.if-kind-eq0.false in simp h c.is_exit.ensures

pub denies_border_spec : {M : Type 1} → statement M
denies_border_spec = tie.close (tie.spec (λ c κs. search rules) returns returns-2)
