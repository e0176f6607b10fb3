-- Run lists as the code holds them: the successors of each directed segment, its fan, in a stretch of one table, with their number;
-- an entry a run. These are tables of the code, which no demand speaks of. Assumes nothing.
use Rattle.std.specs.Prelude.{◌≡◌, true, false, ℕ, zero, suc, ◌+◌, ◌*◌, ◌-◌, ◌≤◌, ◌<◌, min, List, [], ◌∷◌, ◌++◌, map, length, get_or, take, drop}
use Rattle.std.proofs.lemmas.List.Edits.{sets}
use Rattle.std.proofs.Math.Seq.{slice}
use Rattle.spec.specs.Lists.{Bytes, up_to, each, one, pick, has, last_or}
use Rattle.spec.specs.Book.{Book, segment_of}
use Rattle.spec.specs.Runs.{leads_to, directed}
use Rattle.spec.specs.Read.{max_segments, max_trains, max_reach, max_runs}
use Rattle.spec.specs.Instance.{run_lists}
use Rattle.spec.specs.Held.{padded}
use Rattle.listing.specs.declared.Path.{Path}

-- ---- a path by value

-- its directed segments
unfoldable pub path_of : Path → List ℕ
path_of p = take p.n p.at

-- a run has at most l + k segments
abbrev pub run_segments : ℕ
run_segments = 2 * max_reach

-- the struct that holds a list of directed segments: zeros stand behind it
unfoldable pub packed_path : List ℕ → Path
packed_path ds = record { at = padded run_segments 0 ds; n = length ds }

-- ---- the successors of directed segments

-- the directed segments that d leads to, by rising number
unfoldable pub successors : Book → ℕ → List ℕ
successors b d = pick (leads_to b d) (directed b)

-- a directed segment has at most as many successors as there are directed segments: the bytes of its fan, and of the table
abbrev pub fan_bytes : ℕ
fan_bytes = 2 * max_segments

abbrev pub successor_bytes : ℕ
successor_bytes = fan_bytes * fan_bytes

-- the table after the fans of the first n directed segments were written, one behind the other
unfoldable pub successor_table : Book → ℕ → Bytes → Bytes
successor_table b zero old = old
successor_table b (suc n) old = sets (successor_table b n old) (n * fan_bytes) (successors b n)

-- how wide the fans of the first n directed segments are: how many successors each has
unfoldable pub fan_widths : Book → ℕ → Bytes
fan_widths b n = map (λ d. length (successors b d)) (up_to n)

-- the successors of d, as the table of fans and their widths have them
unfoldable pub successors_by : Bytes → Bytes → ℕ → List ℕ
successors_by table widths d = slice (d * fan_bytes) (d * fan_bytes + get_or widths d 0) table

-- the tables hold the successors of each directed segment of the book
pub record SuccessorsHeld (b : Book) (table widths : Bytes) : Type 0 where
  pub table_long : length table ≡ successor_bytes
  pub widths_long : length widths ≡ fan_bytes
  pub few : length b.segments ≤ max_segments
  pub fan_fits : (d : ℕ) → d < 2 * length b.segments → get_or widths d 0 ≤ fan_bytes
  pub fan : (d : ℕ) → d < 2 * length b.segments → successors_by table widths d ≡ successors b d

-- d is a directed segment of a book whose successors the tables hold: a path may be followed from there on
pub record Covered (table widths : Bytes) (d : ℕ) : Type 0 where
  pub book : Book
  pub held : SuccessorsHeld book table widths
  pub below : d < 2 * length book.segments

-- ---- a run's entry in a table of runs

-- how many bytes an entry has, and the entries of a train's runs
abbrev pub entry_bytes : ℕ
entry_bytes = 1 + run_segments

abbrev pub train_bytes : ℕ
train_bytes = max_runs * entry_bytes

-- where the entry of the run with a number begins, and its directed segments behind their number
abbrev pub entry_at : ℕ → ℕ
entry_at r = r * entry_bytes

abbrev pub start_at : ℕ → ℕ
start_at r = entry_at r + 1

-- a run's entry: how many directed segments it has, then these, zeros behind
unfoldable pub entry_of : List ℕ → Bytes
entry_of run = length run ∷ padded run_segments 0 run

-- ---- listing by the tables

-- the paths that extend a path by `missing` segments, as the tables have it
unfoldable pub extend_by : Bytes → Bytes → ℕ → List ℕ → List (List ℕ)
extend_by table widths zero path = one path
extend_by table widths (suc missing) path =
    each (successors_by table widths (last_or 0 path)) λ d.
    elim (has (segment_of d) (map segment_of path)) [ true ↦ [] | false ↦ extend_by table widths missing (path ++ one d) ]

-- the paths of `size` segments that start over one of the first n directed segments
unfoldable pub paths_by : Bytes → Bytes → ℕ → ℕ → List (List ℕ)
paths_by table widths n size = each (up_to n) λ d. extend_by table widths (size - 1) (one d)

-- the place of l directed segments from `at` on
unfoldable pub place_at : Bytes → ℕ → ℕ → List ℕ
place_at table at l = slice at (at + l) table

-- the first l segments of the run that stands in a table of runs under a number
abbrev pub place_in : Bytes → ℕ → ℕ → List ℕ
place_in kept l r = place_at kept (start_at r) l

-- the places: those of the first n runs there, which have l segments each
unfoldable pub places_in : Bytes → ℕ → ℕ → List (List ℕ)
places_in kept l n = map (place_in kept l) (up_to n)

-- where they were all kept, each ends over a directed segment of a book whose successors the tables hold
abbrev pub PlacesCovered : Bytes → Bytes → Bytes → ℕ → ℕ → Type 0
PlacesCovered table widths kept l n = n ≤ max_runs → (r : ℕ) → r < n → Covered table widths (last_or 0 (place_in kept l r))

-- the paths that extend places by j segments
unfoldable pub longer_by : Bytes → Bytes → List (List ℕ) → ℕ → List (List ℕ)
longer_by table widths places j = each places (extend_by table widths j)

-- the paths that extend places by 1 to k segments, by their number
unfoldable pub further_by : Bytes → Bytes → List (List ℕ) → ℕ → List (List ℕ)
further_by table widths places k = each (up_to k) λ j. longer_by table widths places (j + 1)

-- ---- a table of runs

-- of further runs behind the first `count`, those that still fit
unfoldable pub kept_of : ℕ → List (List ℕ) → List (List ℕ)
kept_of count runs = take (max_runs - count) runs

-- the table with further runs behind the first `count`
unfoldable pub runs_after : ℕ → List (List ℕ) → Bytes → Bytes
runs_after count runs old = sets old (entry_at count) (each (kept_of count runs) entry_of)

-- how many runs there are then, as far as one more than are kept
unfoldable pub count_after : ℕ → List (List ℕ) → ℕ
count_after count runs = min (max_runs + 1) (count + length runs)

-- ---- the runs of all trains

-- a train's runs, by its number
unfoldable pub runs_at : Book → ℕ → List (List ℕ)
runs_at b i = get_or (run_lists b) i []

-- a table after its first n parts, each `width` long, were replaced
unfoldable pub filled {ℓ} : {A : Type ℓ} → (ℕ → List A → List A) → ℕ → ℕ → List A → List A
filled f width zero old = old
filled f width (suc n) old =
    let before = filled f width n old in
    take (n * width) before
    ++ (f n (slice (n * width) (n * width + width) before) ++ drop (n * width + width) before)

-- the table of all trains, a part each
abbrev pub table_bytes : ℕ
table_bytes = max_trains * train_bytes

unfoldable pub run_table : Book → Bytes → Bytes
run_table b old = filled (λ i. runs_after 0 (runs_at b i)) train_bytes (length b.trains) old

-- how many runs each train has, as far as one more than are kept, zeros behind
unfoldable pub run_counts : Book → List ℕ
run_counts b = padded max_trains 0 (map (λ i. count_after 0 (runs_at b i)) (up_to (length b.trains)))
