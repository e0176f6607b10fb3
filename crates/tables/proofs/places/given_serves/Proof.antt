-- `places::given_serves` meets its contract. Assumes nothing.
use borrow.Author.Rules.{rules}
use native.Mathlib.Omega.{arith}
use native.Mathlib.Nat.{zero-add}
use mathlib.Core.Path.{◌≡◌, ◌∙◌}
use lib.ListN.{length}
use Rattle.spec.specs.Held.{held_train}
use Rattle.listing.specs.Listed.{place_at}
use Rattle.tables.proofs.places.given_serves.Statement.{statement}
use Rattle.tables.proofs.places.given_serves.Tie as tie

slice-aggregate-serves : tie.Need-slice_bounds-serves-end
slice-aggregate-serves c = search rules

serves-requires : tie.Need-serves-requires
serves-requires c κs =
    let e : length c.args.t.place ≡ 8 = search rules in
    omega arith

returns : tie.Need-returns
unfolding place_at held_train
returns c = c.serves.ensures ∙ simp zero-add

pub given_serves_spec : {M : Type 1} → statement M
given_serves_spec = tie.close (tie.spec slice-aggregate-serves serves-requires returns)
