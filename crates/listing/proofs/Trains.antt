-- A train of the struct: what every train of a growing book passes, it passes; and its runs, by its number. Assumes nothing.
use mathlib.Core.Path.{◌≡◌, ap, ◌∙◌}
use mathlib.Core.Bool.{Bool, ◌&&◌}
use Prim.Native.Nat.{ℕ, ◌≤◌, ◌<◌}
use native.Mathlib.Omega.{arith}
use mathlib.Core.List.{[]}
use lib.ListN.{length, get_or, take, length-map, length-take}
use lib.Seq.{get_or-take}
use lib.Dec.{T, ltb}
use Rattle.model.specs.declared.Book.{Book as BookStruct}
use Rattle.model.specs.declared.Train.{Train as TrainStruct}
use Rattle.spec.specs.Lists.{all}
use Rattle.spec.specs.Book.{Train, train_at}
use Rattle.spec.specs.BookFile.{FitsFields}
use Rattle.spec.specs.Runs.{runs_of}
use Rattle.spec.specs.Read.{growing, train_all_fits, head_fits, reach_fits}
use Rattle.spec.specs.Instance.{run_lists}
use Rattle.spec.specs.Held.{held, held_train}
use Rattle.laws.proofs.Tests.{and-iff, ltb_iff, leb-iff}
use Rattle.laws.proofs.Rows.{all_map}
use Rattle.demands.proofs.Growing.{Few, growing-parts}
use Rattle.demands.proofs.Wellformed.{map_at}
use Rattle.network.proofs.Walks.{all-take-at}
use Rattle.listing.specs.Listed.{runs_at}

-- past the end of an array of trains
abbrev pub no_train : TrainStruct
no_train = record { metres = 0; speed = 0; departure = 0; size = 0; place = [] }

-- what every train of the book passes, the one at i passes
pub train-passes : (f : Train → Bool) (b : BookStruct) (i : ℕ) (d : TrainStruct) → i < b.train_count
    → b.train_count ≤ length b.trains → T (all f (held b).trains) → T (f (held_train (get_or b.trains i d)))
unfolding held
train-passes f b i d l fits h = all-take-at (λ t. f (held_train t)) b.trains b.train_count i d l fits (rw all_map at h)

module _ (b : BookStruct) (g : T (growing (held b))) where
  -- a segment's metres are 1 at least
  pub metres-some : 1 ≤ b.segment_metres
  unfolding head_fits held
  metres-some = let p = simp (and-iff, leb-iff) at (growing-parts _ g).head in p.0.0

  module _ (i : ℕ) (l : i < b.train_count) (fits : b.train_count ≤ length b.trains) where
    -- a train's l and k fit
    pub reach_here : T (reach_fits (held b) (held_train (get_or b.trains i no_train)))
    unfolding Few train_all_fits
    reach_here = let p = simp and-iff at (train-passes (train_all_fits (held b)) b i no_train l fits (growing-parts _ g).trains.1) in p.0.1

    -- and its numbers are those of two bytes
    pub numbers-here : FitsFields (held b) → ((get_or b.trains i no_train).metres < 65536) × ((get_or b.trains i no_train).speed < 65536)
    unfolding held_train
    numbers-here f =
        simp (and-iff, ltb_iff) at
        (train-passes (λ t. ltb t.metres 65536 && ltb t.speed 65536) b i no_train l fits f.trains)

-- ---- a train and its runs, by its number

module _ (b : BookStruct) (fits : b.train_count ≤ length b.trains) where
  pub trains-counted : length (held b).trains ≡ b.train_count
  unfolding held
  trains-counted = rw (length-map, length-take) (omega arith)

  module _ (i : ℕ) (below : i < b.train_count) where
    pub train-held : train_at (held b) i ≡ held_train (get_or b.trains i no_train)
    unfolding train_at held
    train-held =
        map_at held_train (take b.train_count b.trains) i no_train _ (rw length-take (omega arith))
        ∙ ap held_train (get_or-take b.train_count b.trains i no_train below)

    pub runs-held : runs_at (held b) i ≡ runs_of (held b) (held_train (get_or b.trains i no_train))
    unfolding runs_at run_lists held train_at
    runs-held =
        map_at (runs_of (held b)) (held b).trains i _ [] (simp (length-map, length-take) (omega arith))
        ∙ ap (runs_of (held b)) train-held
