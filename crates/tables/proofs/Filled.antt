-- What reading and `chain_trains` leave, of a book that passed: each train's part of the tables holds the train's runs
-- (`runs-ready`) and their chains (`chains-ready`). Assumes nothing.
use mathlib.Core.Path.{◌≡◌, ap, ◌∙◌}
use Prim.Native.Nat.{ℕ, suc, ◌+◌, ◌*◌, ◌≤◌, ◌<◌}
use native.Mathlib.Nat.{mul-le-mul_right, suc-mul}
use native.Mathlib.Omega.{arith}
use mathlib.Core.List.{List, []}
use lib.ListN.{length, get_or}
use lib.Seq.{slice, sets, length-sets, length-slice}
use lib.Dec.{T, leb→le}
use Rattle.model.specs.declared.Book.{Book as BookStruct}
use Rattle.spec.specs.Lists.{Bytes, all}
use Rattle.spec.specs.Instance.{instance_of, compile, run_at, train_length}
use Rattle.spec.specs.Held.{held}
use Rattle.laws.proofs.Tests.{all-at}
use Rattle.listing.specs.Listed.{train_bytes, table_bytes, runs_after, count_after, runs_at, filled, run_table, run_counts}
use Rattle.listing.proofs.Lists.{short, length-runs_after}
use Rattle.listing.proofs.Filled.{length-filled, filled-part}
use Rattle.listing.proofs.Trains.{trains-counted}
use Rattle.reader.proofs.Ends.{count_at}
use Rattle.tables.proofs.PlaceRows.{size-held, run-held, start-held, end-held}
use Rattle.tables.specs.Placed.{size_at}
use Rattle.tables.specs.Tables.{Passed, chains_of, chain_table, train_chains, all_chains}
use Rattle.tables.specs.Ready.{Counted, RunsHeld, RunsReady, ChainsReady}
use Rattle.tables.proofs.Trains.{few, are-short, are-long}
use Rattle.tables.proofs.Here.{trains-fit, in-instance}
use Rattle.tables.proofs.Small.{passed-few}
use Rattle.tables.proofs.Links.{chains-held}

-- ---- one train

module _ (b : BookStruct) (p : Passed b) (i : ℕ) (below : i < b.train_count) (old : Bytes) (room : length old ≡ train_bytes) where
  abbrev runs : List (List ℕ)
  runs = runs_at (held b) i

  fewest : length runs ≤ 256
  fewest = few b p i below (trains-fit b p)

  shortest : T (all short runs)
  shortest = are-short b p i below (trains-fit b p)

  longest : (r : ℕ) → r < length runs → train_length (held b) i ≤ length (get_or runs r [])
  longest = are-long b p i below (trains-fit b p)

  -- a length in the table is the run's
  size_is : (r : ℕ) → r < length runs → size_at (runs_after 0 runs old) r ≡ length (get_or runs r [])
  size_is r h = size-held runs old room fewest shortest r h

  -- the train's table says what its runs are
  runs-held : RunsHeld (held b) i (runs_after 0 runs old)
  unfolding instance_of compile run_at runs_at
  runs-held = record {
    long = length-runs_after 0 runs old ∙ room;
    few = fewest;
    run = λ r h. run-held runs old room fewest shortest r h;
    size = size_is;
    least = λ r h. omega (arith, size_is r h, longest r h);
    most = λ r h. omega (arith, size_is r h, leb→le (length (get_or runs r [])) 16 (all-at short runs r [] shortest h));
    starting = λ r h. start-held runs old room fewest shortest r h (train_length (held b) i) (longest r h);
    ending = λ r h. end-held runs old room fewest shortest r h (train_length (held b) i) (longest r h);
  }

-- ---- a table of eight parts

-- the first n parts of a table were replaced, each by one of its length
record Parted (f : ℕ → List ℕ → List ℕ) (width n : ℕ) (old table : List ℕ) : Type 0 where
  keeps : (i : ℕ) (xs : List ℕ) → length (f i xs) ≡ length xs
  most : n ≤ 8
  size : length old ≡ 8 * width
  same : table ≡ filled f width n old

module _ {f : ℕ → List ℕ → List ℕ} {width n : ℕ} {old table : List ℕ} (t : Parted f width n old table) where
  -- the first n parts fit
  room : n * width ≤ length old
  room = let m = mul-le-mul_right width t.most in omega (arith, t.size)

  -- the table keeps its length
  long : length table ≡ 8 * width
  long = ap length t.same ∙ length-filled f t.keeps width old n room ∙ t.size

  module _ (i : ℕ) (l : i < n) where
    -- a part of it is what f made of the part that was there
    part-is : slice (i * width) (i * width + width) table ≡ f i (slice (i * width) (i * width + width) old)
    part-is = ap (slice (i * width) (i * width + width)) t.same ∙ filled-part f t.keeps width old n i room l

    -- and that had its width
    part-long : length (slice (i * width) (i * width + width) old) ≡ width
    part-long =
        let m : suc i * width ≤ n * width = mul-le-mul_right width l in
        length-slice (i * width) (i * width + width) old (omega (arith, suc-mul i width, room)) ∙ omega arith

-- ---- all trains

module _ (b : BookStruct) (p : Passed b) where
  trains : length (held b).trains ≡ b.train_count
  trains = trains-counted b (trains-fit b p)

  -- the counts of runs
  counts-ready : {counts : List ℕ} → counts ≡ run_counts (held b) → Counted b counts
  unfolding instance_of compile runs_at count_after
  counts-ready c = record {
    passed = p;
    runs = λ i l.
        ap (λ (xs : List ℕ). get_or xs i 0) c
        ∙ count_at (held b) i (omega (arith, trains))
        ∙ omega (arith, few b p i l (trains-fit b p));
  }

  -- what reading leaves is ready
  pub runs-ready : (counts : List ℕ) (old : Bytes) → length old ≡ table_bytes → {runs : Bytes}
      → counts ≡ run_counts (held b) → runs ≡ run_table (held b) old → RunsReady b counts runs
  unfolding run_table
  runs-ready counts old room {runs} c r =
      let t : Parted (λ i. runs_after 0 (runs_at (held b) i)) train_bytes b.train_count old runs =
      record {
        keeps = λ i xs. length-runs_after 0 (runs_at (held b) i) xs;
        most = p.packed.counts.trains;
        size = room;
        same = rw trains at r;
      } in
      record {
        counted = counts-ready c;
        long = long t;
        held' = λ i l. rw (part-is t i l) (runs-held b p i l _ (part-long t i l));
      }

  -- what `chain_trains` leaves is ready
  pub chains-ready : (old : List ℕ) → length old ≡ all_chains → {chains : List ℕ}
      → chains ≡ chain_table b old → ChainsReady b chains
  chains-ready old room {chains} f =
      let t : Parted (λ i part. sets part 0 (chains_of (held b) i)) train_chains b.train_count old chains =
      record {
        keeps = λ i xs. length-sets xs 0 (chains_of (held b) i);
        most = p.packed.counts.trains;
        size = room;
        same = f;
      } in
      record {
        long = long t;
        held' = λ i l. rw (part-is t i l) (chains-held (held b) i ((passed-few b p).runs i (in-instance b p i l)) _ (part-long t i l));
      }
