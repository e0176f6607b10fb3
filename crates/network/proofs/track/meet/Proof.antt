-- `track::meet` meets its contract: `same-ttd` and `first-touches` say what the flag is where the arms of each `&&` meet. Assumes
-- nothing.
use borrow.Author.Rules.{rules}
use borrow.Author.Tests.{eq-eqb, ne_eqb}
use mathlib.Core.Path.{◌≡◌, sym, ◌∙◌}
use mathlib.Core.Bool.{Bool, not, ◌&&◌}
use lib.Dec.{eqb}
use Rattle.spec.specs.Book.{touches}
use Rattle.network.proofs.track.meet.Statement.{statement}
use Rattle.network.proofs.track.meet.Tie as tie
use Rattle.network.proofs.track.meet.Lts.{else-first-second, else-s-t, then-first-second, then-s-t}

touches-requires : tie.Need-touches-requires
touches-requires c κs = search rules

touches-requires-2 : tie.Need-touches-requires-then-touches
touches-requires-2 c κs = search rules

-- two segments of one TTD
abbrev alike : tie.Start → Bool
alike c = not (eqb c.args.s c.args.t) && eqb c.args.first.ttd c.args.second.ttd

same-ttd : (c : tie.Joined-s-t) → c.if-s-t.t-8 ≡ alike c.before
same-ttd c =
    elim (c.if-s-t.branch) [ then-s-t w ↦ w.t-8-is ∙ simp (ne_eqb _ _ w.if-s-t.true) | else-s-t w ↦ w.t-8-is ∙ simp (eq-eqb _ _ w.if-s-t.false) ]

-- and the first of them touches the node
abbrev alike_here : tie.Start → Bool
alike_here c = alike c && touches c.args.first c.args.node

first-touches : (c : tie.Joined-first-second) → c.if-first-second.value ≡ alike_here c.before.before
first-touches c =
    let e = sym (same-ttd c.before) in
    elim (c.if-first-second.branch) [ then-first-second w ↦ w.value-is ∙ w.touches.ensures ∙ simp (e ∙ w.if-first-second.true-raw) | else-first-second w ↦ w.value-is ∙ w.if-first-second.false-raw ∙ simp (e ∙ w.if-first-second.false-raw) ]

returns : tie.Need-returns-then-touches
returns c = let f = sym (first-touches c.before.before) ∙ c.if-touches.true in c.touches-then-touches.ensures ∙ sym (simp f)

returns-2 : tie.Need-returns-else-touches
returns-2 c = let f = sym (first-touches c.before) ∙ c.if-touches.false in c.if-touches.false ∙ sym (simp f)

pub meet_spec : {M : Type 1} → statement M
meet_spec = tie.close (tie.spec touches-requires touches-requires-2 returns returns-2)
