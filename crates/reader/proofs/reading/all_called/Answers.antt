-- Train i lacks a call, or one behind it, or none does. Assumes nothing.
use Rattle.std.proofs.Common.{◌≡◌, ℕ, ◌<◌, ◌||◌, not, length, sym, ap, ◌∙◌, rules, arith}
use borrow.Author.Tests.{eq-eqb, ne_eqb}
use Rattle.laws.proofs.Loops.{any-start, any-turn, any_found, any-done}
use Rattle.spec.specs.Lists.{any, up_to, empty}
use Rattle.spec.specs.Book.{calls_of}
use Rattle.spec.specs.Held.{held}
use Rattle.network.proofs.Walks.{length-of-map}
use Rattle.listing.proofs.Trains.{trains-counted}
use Rattle.reader.proofs.Ends.{empty-counted, or-second, or-first}
use Rattle.reader.proofs.reading.all_called.Goals as goal

pub loop-i-init : goal.loop-i-init
loop-i-init c = any-start _ c.args.b.train_count

pub loop-i-preserved : goal.loop-i-preserved
loop-i-preserved c =
    any-turn (λ j. empty (calls_of (held c.args.b) j)) c.loop-i.invariant (omega arith)
    (empty-counted _ _ (sym c.calls_of.ensures.0) ∙ ne_eqb _ _ c.if-calls_of-eq0.false)

pub returns-then-calls_of-eq0 : goal.returns-then-calls_of-eq0
returns-then-calls_of-eq0 c =
    let t : length c.args.b.trains ≡ 8 = search (rules, length-of-map) in
    let n = trains-counted c.args.b (omega (arith, t, c.requires.trains)) in
    let found = any_found (λ j. empty (calls_of (held c.args.b) j)) c.loop-i.invariant (omega arith)
    (empty-counted _ _ (sym c.calls_of.ensures.0) ∙ eq-eqb _ _ c.if-calls_of-eq0.true) in
    sym (ap not (or-second (empty (held c.args.b).trains) (ap (λ (k : ℕ). any (λ j. empty (calls_of (held c.args.b) j)) (up_to k)) n ∙ sym found)))

pub returns : goal.returns
returns c =
    let t : length c.args.b.trains ≡ 8 = search (rules, length-of-map) in
    let n = trains-counted c.args.b (omega (arith, t, c.requires.trains)) in
    let e = any-done (λ j. empty (calls_of (held c.args.b) j)) c.loop-i.invariant (omega arith) in
    sym (ap not (or-first (empty (held c.args.b).trains) (ap (λ (k : ℕ). any (λ j. empty (calls_of (held c.args.b) j)) (up_to k)) n ∙ sym e) ∙ empty-counted (held c.args.b).trains _ n))
