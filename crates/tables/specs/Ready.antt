-- What the tables of a book that passed hold: how many runs each train has, its runs, and which of them follow a run. They are
-- tables of the code, which no demand speaks of. Assumes nothing.
use Rattle.std.specs.Prelude.{◌≡◌, ℕ, ◌+◌, ◌*◌, ◌≤◌, ◌<◌, List, length, get_or}
use Rattle.std.proofs.Math.Seq.{slice}
use Rattle.std.proofs.lemmas.List.Edits.{sets}
use Rattle.model.specs.declared.Book.{Book as BookStruct}
use Rattle.spec.specs.Lists.{Bytes}
use Rattle.spec.specs.Book.{Book}
use Rattle.spec.specs.Read.{max_runs}
use Rattle.spec.specs.Runs.{start_place, end_place}
use Rattle.spec.specs.Instance.{instance_of, run_lists, run_at, train_length}
use Rattle.spec.specs.Held.{held}
use Rattle.listing.specs.Listed.{run_segments, train_bytes, table_bytes, place_at, start_at}
use Rattle.tables.specs.Placed.{size_at, end_at, run_held}
use Rattle.tables.specs.Tables.{Passed, first_follower, next_alike, train_chains, all_chains}
use Rattle.tables.specs.Meets.{meet_table}

-- of each train: its number of runs
pub record Counted (b : BookStruct) (counts : List ℕ) : Type 0 where
  pub passed : Passed b
  pub runs : (i : ℕ) → i < b.train_count → get_or counts i 0 ≡ (instance_of (held b)).runs i

-- of one train: each run, its length, and the places that it starts at and ends at
pub record RunsHeld (b : Book) (i : ℕ) (runs : Bytes) : Type 0 where
  pub long : length runs ≡ train_bytes
  pub few : (instance_of b).runs i ≤ max_runs
  pub run : (r : ℕ) → r < (instance_of b).runs i → run_held runs r ≡ run_at (run_lists b) i r
  pub size : (r : ℕ) → r < (instance_of b).runs i → size_at runs r ≡ length (run_at (run_lists b) i r)
  pub least : (r : ℕ) → r < (instance_of b).runs i → train_length b i ≤ size_at runs r
  pub most : (r : ℕ) → r < (instance_of b).runs i → size_at runs r ≤ run_segments
  pub starting : (r : ℕ) → r < (instance_of b).runs i
      → place_at runs (start_at r) (train_length b i) ≡ start_place (train_length b i) (run_at (run_lists b) i r)
  pub ending : (r : ℕ) → r < (instance_of b).runs i
      → place_at runs (end_at runs r (train_length b i)) (train_length b i) ≡ end_place (train_length b i) (run_at (run_lists b) i r)

-- and the runs that follow a run, as a chain: two numbers a run, the first that follows it and the next that starts where it does
pub record ChainsHeld (b : Book) (i : ℕ) (chains : List ℕ) : Type 0 where
  pub long : length chains ≡ train_chains
  pub first : (r : ℕ) → r < (instance_of b).runs i → get_or chains (2 * r) 0 ≡ first_follower b i r
  pub next : (r : ℕ) → r < (instance_of b).runs i → get_or chains (2 * r + 1) 0 ≡ next_alike b i r

-- every train's runs, each train in its part of the table
pub record RunsReady (b : BookStruct) (counts : List ℕ) (runs : Bytes) : Type 0 where
  pub counted : Counted b counts
  pub long : length runs ≡ table_bytes
  pub held' : (i : ℕ) → i < b.train_count → RunsHeld (held b) i (slice (i * train_bytes) (i * train_bytes + train_bytes) runs)

-- and every train's chains
pub record ChainsReady (b : BookStruct) (chains : List ℕ) : Type 0 where
  pub long : length chains ≡ all_chains
  pub held' : (i : ℕ) → i < b.train_count → ChainsHeld (held b) i (slice (i * train_chains) (i * train_chains + train_chains) chains)

-- what meets
abbrev pub MeetsReady : BookStruct → Bytes → Type 0
MeetsReady b meets = meets ≡ meet_table (instance_of (held b))

-- what listing it leaves of the table that was there: its bytes from the first on, as many as are answered
abbrev pub MeetsFilled : BookStruct → ℕ → Bytes → Bytes → Type 0
MeetsFilled b size old meets =
    (size ≡ length (meet_table (instance_of (held b)))) × (meets ≡ sets old 0 (meet_table (instance_of (held b))))
