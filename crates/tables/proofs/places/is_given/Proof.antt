-- `places::is_given` meets its contract: places of different lengths are not the same. Assumes nothing.
use borrow.Author.Rules.{rules}
use borrow.Author.Tests.{ne_eqb}
use native.Mathlib.Omega.{arith}
use native.Mathlib.Nat.{zero-add}
use mathlib.Core.Path.{◌≡◌, sym, ◌∙◌}
use Prim.Native.Nat.{◌+◌}
use lib.ListN.{length, take}
use lib.Seq.{slice, length-slice, length-take-le}
use Rattle.spec.specs.Held.{held_train}
use Rattle.listing.specs.Listed.{place_at}
use Rattle.tables.proofs.Rests.{same-lengths}
use Rattle.tables.proofs.places.is_given.Statement.{statement}
use Rattle.tables.proofs.places.is_given.Tie as tie

slice-aggregate-same-places : tie.Need-slice_bounds-same_places-end
slice-aggregate-same-places c = search rules

same-places-requires : tie.Need-same_places-requires
same-places-requires c κs =
    let s = c.before.before.before.before.before in
    let e : length s.args.t.place ≡ 8 = search rules in
    (s.requires.0, omega arith)

returns : tie.Need-returns-then-t-l
unfolding place_at held_train
returns c = c.same_places.ensures ∙ simp (zero-add, c.if-t-l.true)

returns-2 : tie.Need-returns-else-t-l
unfolding place_at held_train
returns-2 c =
    let a = c.args in
    let table = a.table.now in
    let e : length a.t.place ≡ 8 = search rules in
    let h : length (slice a.at (a.at + a.l) table) ≡ a.l = length-slice a.at (a.at + a.l) table (omega arith) ∙ omega arith in
    let k : length (take a.t.size a.t.place) ≡ a.t.size = length-take-le a.t.size a.t.place (omega arith) in
    ne_eqb _ _ c.if-t-l.false ∙ sym (same-lengths _ _ (λ g. c.if-t-l.false (sym k ∙ sym g ∙ h)))

pub is_given_spec : {M : Type 1} → statement M
is_given_spec =
    tie.close (tie.spec slice-aggregate-same-places same-places-requires returns returns-2)
