-- A train of a book that passed: its runs are few, and how long they are. Assumes nothing.
use mathlib.Core.Path.{◌≡◌, ap}
use Prim.Native.Nat.{ℕ, ◌≤◌, ◌<◌}
use native.Mathlib.Omega.{arith}
use mathlib.Core.List.{List, [], Memᴰ}
use lib.ListN.{length, get_or}
use lib.Dec.{T}
use Rattle.model.specs.declared.Book.{Book as BookStruct}
use Rattle.spec.specs.Lists.{all}
use Rattle.spec.specs.Book.{Book, Train, length_in_segments}
use Rattle.spec.specs.Runs.{runs_of}
use Rattle.spec.specs.Read.{growing, well_formed, reach_fits}
use Rattle.spec.specs.Instance.{train_length}
use Rattle.spec.specs.Held.{held, held_train}
use Rattle.laws.proofs.Tests.{and-iff, leb-iff, all-iff, get_or-mem}
use Rattle.demands.proofs.Wellformed.{parts}
use Rattle.demands.proofs.RunLists.{runs-iff}
use Rattle.listing.specs.Listed.{runs_at}
use Rattle.listing.proofs.Lists.{short, reach}
use Rattle.listing.proofs.Trains.{no_train, train-passes, train-held, runs-held, reach_here}
use Rattle.tables.specs.Tables.{Passed}

-- ---- runs

module _ (b : Book) (t : Train) (fits : T (reach_fits b t)) where
  pub run_length : (run : List ℕ) → Memᴰ run (runs_of b t) → (length_in_segments b t ≤ length run) × (length run ≤ 16)
  run_length run m =
      let n = reach b t fits in
      let j = ((runs-iff b t n.0 run).0 m).2 in
      (omega arith, omega arith)

  runs-short : T (all short (runs_of b t))
  runs-short = (all-iff short (runs_of b t)).1 (λ run m. (leb-iff (length run) 16).1 (run_length run m).1)

-- ---- a train of the struct

module _ (b : BookStruct) (h : Passed b) where
  pub grows : T (growing (held b))
  unfolding well_formed
  grows = ((and-iff (growing (held b)) _).0 h.formed).0

  module _ (i : ℕ) (below : i < b.train_count) (fits : b.train_count ≤ length b.trains) where
    length-held : train_length (held b) i ≡ length_in_segments (held b) (held_train (get_or b.trains i no_train))
    unfolding train_length
    length-held = ap (length_in_segments (held b)) (train-held b fits i below)

    -- it has 256 runs at most
    few-here : length (runs_of (held b) (held_train (get_or b.trains i no_train))) ≤ 256
    few-here =
        let p = simp (and-iff, leb-iff) at (train-passes _ b i no_train below fits (parts (held b) h.formed).trains) in p.1

-- ---- the table of a train

module _ (b : BookStruct) (h : Passed b) (i : ℕ) (below : i < b.train_count) (fits : b.train_count ≤ length b.trains) where
  abbrev runs : List (List ℕ)
  runs = runs_at (held b) i

  abbrev reached : ℕ
  reached = train_length (held b) i

  same_runs : runs ≡ runs_of (held b) (held_train (get_or b.trains i no_train))
  same_runs = runs-held b fits i below

  pub few : length runs ≤ 256
  few = rw same_runs (few-here b h i below fits)

  fit : T (reach_fits (held b) (held_train (get_or b.trains i no_train)))
  fit = reach_here b (grows b h) i below fits

  pub are-short : T (all short runs)
  are-short = rw same_runs (runs-short (held b) _ fit)

  pub are-long : (r : ℕ) → r < length runs → reached ≤ length (get_or runs r [])
  are-long r m =
      rw (same_runs, length-held b h i below fits) (run_length (held b) _ fit _ (get_or-mem _ r [] (rw same_runs at m))).0
