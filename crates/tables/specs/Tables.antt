-- The tables that the formula and the checks look things up in: each train's runs, and the chains of the runs that follow a run. They
-- are tables of the code, which no demand speaks of. Assumes nothing.
use Rattle.std.specs.Prelude.{ℕ, ◌+◌, ◌*◌, ◌-◌, List, ◌∷◌, T}
use Rattle.std.proofs.lemmas.List.Edits.{sets}
use Rattle.model.specs.declared.Book.{Book as BookStruct}
use Rattle.spec.specs.Lists.{up_to, each, one, same}
unfoldable pub use Rattle.spec.specs.Lists.{least_from}
use Rattle.spec.specs.Book.{Book}
use Rattle.spec.specs.BookFile.{FitsFields}
use Rattle.spec.specs.Runs.{start_place}
use Rattle.spec.specs.Read.{max_trains, max_runs, well_formed}
use Rattle.spec.specs.Instance.{instance_of, run_lists, run_at, train_length}
use Rattle.spec.specs.Held.{held}
use Rattle.listing.specs.Listed.{filled}
use Rattle.reader.specs.Added.{Packed}

-- the struct holds a book that passed
pub record Passed (b : BookStruct) : Type 0 where
  pub packed : Packed b
  pub formed : T (well_formed (held b))
  pub fields : FitsFields (held b)

-- The first run of a train that follows each run; and of each run the next that starts at the same place. The number of runs where
-- there is none.
unfoldable pub first_follower : Book → ℕ → ℕ → ℕ
first_follower b i r = least_from ((instance_of b).follows i r) 0 ((instance_of b).runs i)

unfoldable pub next_alike : Book → ℕ → ℕ → ℕ
next_alike b i q =
    let start : ℕ → List ℕ = λ r. start_place (train_length b i) (run_at (run_lists b) i r) in
    least_from (λ p. same (start q) (start p)) (q + 1) ((instance_of b).runs i - (q + 1))

-- the chains of a train's runs: these two numbers for each
unfoldable pub chains_of : Book → ℕ → List ℕ
chains_of b i = each (up_to ((instance_of b).runs i)) λ r. first_follower b i r ∷ one (next_alike b i r)

-- how many numbers a train's chains have room for, and all trains'
abbrev pub train_chains : ℕ
train_chains = 2 * max_runs

abbrev pub all_chains : ℕ
all_chains = max_trains * train_chains

-- the chains of all trains, a part each
abbrev pub chain_table : BookStruct → List ℕ → List ℕ
chain_table b old = filled (λ i part. sets part 0 (chains_of (held b) i)) train_chains b.train_count old
