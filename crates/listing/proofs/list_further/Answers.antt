-- `listing::list_further` meets its contract: a turn extends the places by one segment more. They stand before all that is written.
-- Assumes nothing.
use Rattle.std.proofs.Common.{◌≡◌, ◌+◌, ◌∙◌, arith}
use Rattle.listing.specs.Listed.{places_in, longer_by, further_by}
use Rattle.listing.proofs.Lists.{listed-none, listed_le, listed-from, listed-long, listed_next, each-nothing}
use Rattle.listing.proofs.Levels.{further-short, places-stay, covered-stay}
use Rattle.listing.proofs.list_further.Goals as goal

pub loop-j-init : goal.loop-j-init
unfolding further_by
loop-j-init c = rw each-nothing (listed-none _ _ (omega arith))

pub list_longer-found-requires : goal.list_longer-found-requires
list_longer-found-requires c =
    let i = c.loop-j.invariant in
    let p = c.requires in (
      listed-long i ∙ p.0,
      listed-from i p.1,
      listed_le i,
      p.2,
      omega arith,
      covered-stay i c.args.l (omega arith) p.4,
    )

pub loop-j-preserved : goal.loop-j-preserved
unfolding further_by
loop-j-preserved c =
    let a = c.args in
    let table = a.table.now in
    let widths = a.widths.now in
    let places = places_in a.runs.now a.l a.places in
    let i = c.loop-j.invariant in
    let e = c.list_longer-found.ensures in
    listed_next (λ j. longer_by table widths places (j + 1)) i (further-short table widths a.runs.now a.l a.places c.loop-j.j (omega arith))
    (rw (← places-stay i a.l (omega arith)) (record { counted = e.0; filled = e.1 }))

pub returns : goal.returns
returns c =
    let i = c.loop-j.invariant in
    let e : c.loop-j.j ≡ c.args.k = omega arith in
    let r = rw e at i in
    (r.counted, r.filled)
