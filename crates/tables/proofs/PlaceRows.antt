-- The table that `listing::list_runs` fills holds the runs: each run is a part of its entry, and so are the places that it starts and
-- ends at. Assumes nothing.
use mathlib.Core.Path.{◌≡◌, refl, sym, ap, ◌∙◌}
use Prim.Native.Nat.{ℕ, ◌+◌, ◌-◌, ◌≤◌, ◌<◌}
use native.Mathlib.Nat.{add-zero, zero-add}
use native.Mathlib.Omega.{arith}
use mathlib.Core.List.{List, [], ◌++◌, append-nil}
use lib.ListN.{length, get_or, take, drop, length-drop, take-append-drop}
use lib.Seq.{slice, length-take-le}
use lib.Dec.{T}
use Rattle.spec.specs.Lists.{Bytes, all}
use Rattle.spec.specs.Runs.{start_place, end_place}
use Rattle.laws.proofs.Parts.{Part, part_in}
use Rattle.listing.specs.Listed.{train_bytes, runs_after, place_at, start_at}
use Rattle.listing.proofs.Leaves.{part_slice}
use Rattle.listing.proofs.Lists.{short}
use Rattle.listing.proofs.Levels.{size-kept, part-kept}
use Rattle.tables.specs.Placed.{size_at, end_at, run_held}

-- ---- parts

module _ {ℓ} {A : Type ℓ} where
  -- the first n of a row, and what is behind them
  part-take : (n : ℕ) (ys : List A) → Part ys 0 (take n ys)
  part-take n ys = record { front = []; rest = drop n ys; whole = sym (take-append-drop n ys); place = refl }

  part-drop : (n : ℕ) (ys : List A) → n ≤ length ys → Part ys n (drop n ys)
  part-drop n ys h = record {
    front = take n ys;
    rest = [];
    whole = sym (ap (λ (l : List A). take n ys ++ l) (append-nil (drop n ys)) ∙ take-append-drop n ys);
    place = length-take-le n ys h;
  }

-- ---- the table

module _ (runs : List (List ℕ)) (kept₀ : Bytes) (room : length kept₀ ≡ train_bytes) (few : length runs ≤ 256) (fit : T (all short runs))
    (r : ℕ) (h : r < length runs) where
  abbrev run : List ℕ
  run = get_or runs r []

  abbrev kept : Bytes
  kept = runs_after 0 runs kept₀

  pub size-held : size_at kept r ≡ length run
  size-held = rw zero-add at (size-kept 0 runs kept₀ room (omega arith) fit r h)

  -- the run is a part of the table
  part-run : Part kept (start_at r) run
  part-run = rw zero-add at (part-kept 0 runs kept₀ room (omega arith) fit r h)

  pub run-held : run_held kept r ≡ run
  unfolding run_held place_at
  run-held = ap (λ (k : ℕ). slice (start_at r) (start_at r + k) kept) size-held ∙ part_slice (length run) part-run refl

  module _ (l : ℕ) (k : l ≤ length run) where
    pub start-held : place_at kept (start_at r) l ≡ start_place l run
    unfolding place_at start_place
    start-held = part_slice l (rw add-zero at (part_in part-run (part-take l run))) (length-take-le l run k)

    pub end-held : place_at kept (end_at kept r l) l ≡ end_place l run
    unfolding place_at end_at end_place
    end-held =
        let e : length (drop (length run - l) run) ≡ l = omega (arith, length-drop (length run - l) run) in
        rw size-held (part_slice l (part_in part-run (part-drop (length run - l) run (omega arith))) e)
