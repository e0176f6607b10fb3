-- `listing::list_longer` meets its contract: a turn extends one place more. The runs that are read stand before those that are
-- written. Assumes nothing.
use Rattle.std.proofs.Common.{ℕ, ◌≤◌, inl, inr, List, sym, ap, ◌∙◌, subst, arith}
use Rattle.spec.specs.Lists.{last_or}
use Rattle.listing.specs.Listed.{Covered, extend_by, place_in}
use Rattle.listing.proofs.Lists.{listed-none, listed_le, listed-from, listed-long, listed_next, listed-end}
use Rattle.listing.proofs.Lists.{each-nothing, path-of, path-size, path-packed}
use Rattle.listing.proofs.Successors.{place-long}
use Rattle.listing.proofs.Levels.{listed-stays, from, longer-from, from-short}
use Rattle.listing.proofs.list_longer.Goals as goal

pub loop-place-init : goal.loop-place-init
loop-place-init c = rw each-nothing (listed-none _ _ (omega arith))

pub path_at-path-requires : goal.path_at-path-requires
path_at-path-requires c =
    let i = c.loop-place.invariant in
    (listed-long i ∙ c.requires.0, omega (arith, listed_le i, listed-from i c.requires.2), omega arith)

pub extend-found-requires : goal.extend-found-requires
extend-found-requires c =
    let a = c.args in
    let p = c.requires in
    let i = c.loop-place.invariant in
    let at = c.loop-place.place in
    let few : a.places ≤ 256 = omega (arith, listed_le i, listed-from i p.2) in
    let long = listed-long i ∙ p.0 in
    let place = place_in c.loop-place.runs a.l at in
    let stays = listed-stays i a.l (omega arith) at (omega arith) in
    let e = c.path_at-path.ensures in
    let size = path-size place e ∙ place-long c.loop-place.runs a.l at (omega (arith, long)) in (
      subst (λ (path : List ℕ). Covered a.table.now a.widths.now (last_or 0 path)) (sym (path-of place e ∙ stays))
          (p.5 few at (omega arith)),
      long,
      omega (arith, listed_le i),
      path-packed place e,
      omega (arith, size),
      omega (arith, size),
    )

pub loop-place-preserved : goal.loop-place-preserved
loop-place-preserved c =
    let a = c.args in
    let i = c.loop-place.invariant in
    let few : a.places ≤ 256 = omega (arith, listed_le i, listed-from i c.requires.2) in
    let stays = listed-stays i a.l (omega arith) c.loop-place.place (omega arith) in
    let same = path-of _ c.path_at-path.ensures ∙ stays in
    let on = ap (extend_by a.table.now a.widths.now a.missing) (sym same) in
    let e = c.extend-found.ensures in
    listed_next (from a.table.now a.widths.now a.runs.now a.l a.missing) i
    (from-short a.table.now a.widths.now a.runs.now a.l c.loop-place.place a.missing c.requires.4)
    (rw on (record { counted = e.0; filled = e.1 }))

pub returns-after-loop-place : goal.returns-after-loop-place
returns-after-loop-place c =
    let a = c.args in
    let r = rw (← longer-from a.table.now a.widths.now a.runs.now a.l a.places a.missing) at
    (listed-end (from a.table.now a.widths.now a.runs.now a.l a.missing) c.loop-place.invariant
    (from-short a.table.now a.widths.now a.runs.now a.l c.loop-place.place a.missing c.requires.4) a.places (omega arith) (inl (omega arith))) in
    (r.counted, r.filled)

pub returns-then-found-eq-STOP : goal.returns-then-found-eq-STOP
returns-then-found-eq-STOP c =
    let a = c.args in
    let r = rw (← longer-from a.table.now a.widths.now a.runs.now a.l a.places a.missing) at
    (listed-end (from a.table.now a.widths.now a.runs.now a.l a.missing) c.loop-place.invariant
    (from-short a.table.now a.widths.now a.runs.now a.l c.loop-place.place a.missing c.requires.4) a.places (omega arith) (inr (omega arith))) in
    (r.counted, r.filled)
