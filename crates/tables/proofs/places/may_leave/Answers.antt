-- `places::may_leave`: the goal is the train's, and the last directed segment of the place is the front.
use Rattle.std.proofs.Common.{◌≡◌, sym, ap, ◌∙◌, Bool, true, false, ◌&&◌, ℕ, ◌+◌, ◌-◌, ◌≤◌, length, get_or, arith}
use lib.Seq.{length-slice}
use Rattle.spec.specs.Lists.{Bytes, last_or}
use Rattle.spec.specs.Book.{Call, node_kind_at, goal_of, is_exit, end_node}
use Rattle.spec.specs.Instance.{place_serves, ends_at_exit, may_leave}
use Rattle.spec.specs.Held.{held}
use Rattle.laws.proofs.Last.{last-at}
use Rattle.demands.proofs.Wellformed.{end_known}
use Rattle.reader.proofs.Packing.{nodes-counted, segments-counted}
use Rattle.listing.specs.Listed.{place_at}
use Rattle.listing.proofs.Successors.{get_or-slice}
use Rattle.tables.proofs.places.may_leave.Goals as goal

-- the last directed segment of a place in a table
front_at : (table : Bytes) (at l : ℕ) → 1 ≤ l → at + l ≤ length table → last_or 0 (place_at table at l) ≡ get_or table (at + l - 1) 0
unfolding place_at
front_at table at l some fits =
    let size : length (place_at table at l) ≡ l = length-slice at (at + l) table fits ∙ omega arith in
    last-at (place_at table at l) 0 0 (omega arith)
    ∙ ap (λ (n : ℕ). get_or (place_at table at l) (n - 1) 0) size
    ∙ get_or-slice table at l (l - 1) 0 (omega arith)
    ∙ ap (λ (n : ℕ). get_or table n 0) (omega arith)

pub ends_at_exit-requires : goal.ends_at_exit-requires
ends_at_exit-requires c =
    let r = c.requires in
    let b = c.args.b in
    let front = c.from.ensures ∙ sym (front_at _ _ _ r.2 r.3) in
    let node = end_known (held b) r.0.formed c.from.result (omega (arith, front, r.4, segments-counted r.0.packed)) in
    (r.0.packed.counts, omega (arith, front, r.4), omega (arith, node, nodes-counted r.0.packed))

pub returns-then-serves : goal.returns-then-serves
unfolding may_leave ends_at_exit
returns-then-serves c =
    let r = c.requires in
    let b = held c.args.b in
    let place = place_at c.args.table.now c.args.at c.args.l in
    let served : place_serves b (goal_of b c.args.train) place ≡ true =
    ap (λ (to : Call). place_serves b to place) (sym r.1) ∙ sym c.serves.ensures ∙ c.if-serves.true in
    c.ends_at_exit.ensures
    ∙ ap (λ (d : ℕ). is_exit (node_kind_at b (end_node b d))) (c.from.ensures ∙ sym (front_at _ _ _ r.2 r.3))
    ∙ ap (λ (t : Bool). t && ends_at_exit b place) (sym served)

pub returns-else-serves : goal.returns-else-serves
unfolding may_leave
returns-else-serves c =
    let b = held c.args.b in
    let place = place_at c.args.table.now c.args.at c.args.l in
    let served : place_serves b (goal_of b c.args.train) place ≡ false =
    ap (λ (to : Call). place_serves b to place) (sym c.requires.1) ∙ sym c.serves.ensures ∙ c.if-serves.false in
    c.if-serves.false ∙ ap (λ (t : Bool). t && ends_at_exit b place) (sym served)
