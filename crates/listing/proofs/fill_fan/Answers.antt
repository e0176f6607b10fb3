-- `listing::fill_fan` meets its contract: a turn stores e where d leads to it. Assumes nothing.
use Rattle.std.proofs.Common.{◌≡◌, ◌+◌, ◌*◌, ◌≤◌, Bool, true, false, List, ℕ, length, set, refl, sym, ap, ap₂, ◌∙◌, length-append, arith, rules}
use Rattle.std.proofs.Math.Seq.{sets}
use Rattle.spec.specs.Lists.{up_to, count, pick, one}
use Rattle.spec.specs.Book.{joined}
use Rattle.spec.specs.Runs.{leads_to, directed}
use Rattle.spec.specs.Held.{held}
use Rattle.laws.proofs.Picks.{pick-taken, pick-left}
use Rattle.network.proofs.Walks.{length-of-map}
use Rattle.network.proofs.Held.{start-at}
use Rattle.listing.specs.Listed.{successors}
use Rattle.listing.proofs.Leaves.{sets-next}
use Rattle.listing.proofs.Lists.{held-segments}
use Rattle.listing.proofs.Successors.{leads-joined, leads-apart}
use Rattle.listing.proofs.fill_fan.Goals as goal
use Rattle.listing.proofs.fill_fan.Goals.{then-start_in-node+then-join_among, else-start_in-node}
use Rattle.listing.proofs.fill_fan.Goals.{else-start_in-node-via-then-start_in-node+else-join_among, else-start_in-node-via-else-start_in-node}

pub loop-e-init : goal.loop-e-init
unfolding up_to count pick
loop-e-init c = record { few = omega arith; counted = refl; stored = refl }

pub overflow_add-table : goal.overflow_add-table
overflow_add-table c = omega (arith, c.requires.0.segments, c.loop-e.invariant.few)

pub bounds-table-base : goal.bounds-table-base
bounds-table-base c = omega (arith, c.requires.0.segments, c.loop-e.invariant.few)

pub overflow_add-found : goal.overflow_add-found
overflow_add-found c = omega (arith, c.requires.0.segments, c.loop-e.invariant.few)

-- the successors below e + 1, where d leads to e and where it does not
module _ (leads : ℕ → Bool) (old table : List ℕ) (base found e : ℕ) (f : found ≤ e)
    (n : found ≡ length (pick leads (up_to e))) (t : table ≡ sets old base (pick leads (up_to e))) where
  abbrev After : List ℕ → ℕ → Type 0
  After table found =
      (found ≤ e + 1) × (found ≡ length (pick leads (up_to (e + 1)))) × (table ≡ sets old base (pick leads (up_to (e + 1))))

  taken : leads e ≡ true → After (set table (base + found) e) (found + 1)
  taken h =
      let p = pick-taken leads e h in (
        omega arith,
        omega (arith, n, ap length p, length-append (pick leads (up_to e)) (one e)),
        ap₂ (λ (table : List ℕ) (k : ℕ). set table (base + k) e) t n
            ∙ sets-next (pick leads (up_to e)) old base e
            ∙ ap (sets old base) (sym p),
      )

  left : leads e ≡ false → After table found
  left h = rw (pick-left leads e h) (omega arith, n, t)

pub loop-e-preserved : goal.loop-e-preserved
unfolding joined held
loop-e-preserved c =
    let b = held c.args.b in
    let d = c.args.d in
    let i = c.loop-e.invariant in
    let e = c.loop-e.e in
    let ends = c.end_node-node.ensures.0 in
    let starts = c.start_in.ensures.0 ∙ start-at c.args.b e c.loop-e-test.true in
    let joins = leads-joined b d e ends starts in
    let after : After (leads_to b d) c.args.table.now c.loop-e.table (d * 128) c.loop-e.found e i.few i.counted i.stored c.if-start_in-node.table c.if-start_in-node.found =
    elim c.if-start_in-node.branch [
      | then-start_in-node+then-join_among w ↦
          rw (w.table-is, w.found-is)
          (taken _ _ _ _ _ _ i.few i.counted i.stored (joins w.if-start_in-node.true ∙ sym w.join_among.ensures ∙ w.if-join_among.true))
      | else-start_in-node w ↦ rw (w.table-is, w.found-is)
          (left _ _ _ _ _ _ i.few i.counted i.stored (elim w.else-start_in-node.branch [
            | else-start_in-node-via-then-start_in-node+else-join_among v ↦
                joins v.if-start_in-node.true ∙ sym v.join_among.ensures ∙ v.if-join_among.false
            | else-start_in-node-via-else-start_in-node v ↦ leads-apart b d e ends starts v.if-start_in-node.false
          ]))
    ] in
    record { few = after.0; counted = after.1; stored = after.2 }

pub returns : goal.returns
unfolding successors directed
returns c =
    let a = c.args in
    let i = c.loop-e.invariant in
    let size : length a.b.segments ≡ 64 = search (rules, length-of-map) in
    let s = held-segments a.b c.requires.0 size in
    let done : c.loop-e.e ≡ 2 * length (held a.b).segments = omega arith in
    let all = ap (λ (n : ℕ). pick (leads_to (held a.b) a.d) (up_to n)) done in
    (i.counted ∙ ap length all, omega (arith, i.few, c.requires.0.segments), i.stored ∙ ap (sets a.table.now (a.d * 128)) all)
