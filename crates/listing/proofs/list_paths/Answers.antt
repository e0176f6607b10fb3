-- `listing::list_paths` meets its contract: a turn lists the paths over one directed segment. Assumes nothing.
use Rattle.std.proofs.Common.{ℕ, ◌-◌, ◌≤◌, inl, inr, List, refl, ◌∙◌, arith}
use Rattle.std.proofs.Math.Dec.{T}
use Rattle.spec.specs.Lists.{Bytes, up_to, each, one, all, last_or}
use Rattle.spec.specs.Held.{padded}
use Rattle.listing.specs.Listed.{path_of, packed_path, extend_by, paths_by}
use Rattle.listing.proofs.Lists.{listed-none, listed_le, listed-long, listed_next, listed-end}
use Rattle.listing.proofs.Lists.{short, each-nothing, each-short, extend-short}
use Rattle.listing.proofs.list_paths.Goals as goal

-- the paths that start over a directed segment
abbrev over : Bytes → Bytes → ℕ → ℕ → List (List ℕ)
over table widths size d = extend_by table widths (size - 1) (one d)

over-short : (table widths : Bytes) (size d : ℕ) → size ≤ 16 → 1 ≤ size → T (all short (each (up_to d) (over table widths size)))
over-short table widths size d h k =
    each-short (over table widths size) d (λ i _. extend-short table widths (size - 1) (one i) (omega arith))

pub loop-d-init : goal.loop-d-init
loop-d-init c = rw each-nothing (listed-none _ _ (omega arith))

pub extend-found-requires : goal.extend-found-requires
unfolding path_of packed_path padded last_or
extend-found-requires c =
    let i = c.loop-d.invariant in (
      c.requires.0 c.loop-d.d c.loop-d-test.true,
      listed-long i ∙ c.requires.1,
      omega (arith, listed_le i),
      refl,
      omega arith,
      omega arith,
    )

pub loop-d-preserved : goal.loop-d-preserved
unfolding path_of
loop-d-preserved c =
    let a = c.args in
    let e = c.extend-found.ensures in
    listed_next (over a.table.now a.widths.now a.size) c.loop-d.invariant (over-short a.table.now a.widths.now a.size c.loop-d.d (omega arith) (omega arith))
    (record { counted = e.0; filled = e.1 })

pub returns-after-loop-d : goal.returns-after-loop-d
unfolding paths_by
returns-after-loop-d c =
    let a = c.args in
    let r = listed-end (over a.table.now a.widths.now a.size) c.loop-d.invariant (over-short a.table.now a.widths.now a.size c.loop-d.d (omega arith) (omega arith))
    a.directed (omega arith) (inl (omega arith)) in
    (r.counted, r.filled)

pub returns-then-found-eq-STOP : goal.returns-then-found-eq-STOP
unfolding paths_by
returns-then-found-eq-STOP c =
    let a = c.args in
    let r = listed-end (over a.table.now a.widths.now a.size) c.loop-d.invariant (over-short a.table.now a.widths.now a.size c.loop-d.d (omega arith) (omega arith))
    a.directed (omega arith) (inr (omega arith)) in
    (r.counted, r.filled)
