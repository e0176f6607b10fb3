-- `listing::list_runs` meets its contract: the paths of l segments, as they are read back from the table, and further. Assumes nothing.
use borrow.Author.Rules.{rules}
use Prim.Native.Nat.{ℕ, ◌*◌, ◌≤◌}
use native.Mathlib.Omega.{arith}
use mathlib.Core.Path.{◌≡◌, ap₂, ◌∙◌}
use mathlib.Core.Logic.{⊎_elim}
use mathlib.Core.List.{List}
use lib.ListN.{length}
use lib.Dec.{T}
use Rattle.spec.specs.Lists.{Bytes, all}
use Rattle.spec.specs.Book.{Book, Train}
use Rattle.spec.specs.Runs.{runs_of}
use Rattle.spec.specs.Held.{held, held_train}
use Rattle.network.proofs.Walks.{length-of-map}
use Rattle.laws.proofs.Tests.{le-or-lt}
use Rattle.listing.specs.Listed.{paths_by, places_in, further_by, count_after}
use Rattle.listing.proofs.Lists.{Listed, listed_le, listed-long, listed-any, listed_more, short, reach, held-segments}
use Rattle.listing.proofs.Levels.{runs-further, fits, fits-long, fits-short, paths-fit, places-covered, read_back}
use Rattle.listing.proofs.list_runs.Statement.{statement}
use Rattle.listing.proofs.list_runs.Tie as tie

-- the book's segments are as many as its struct says
segments : (s : tie.Start) → length (held s.args.b).segments ≡ s.args.b.segment_count
segments s =
    let e : length s.args.b.segments ≡ 64 = search (rules, length-of-map) in
    held-segments s.args.b s.requires.0 e

module _ (c : tie.After-speed_in_segments-k) where
  abbrev start : tie.Start
  start = c.before.before.before.before.before

  abbrev b : Book
  b = held start.args.b

  abbrev t : Train
  t = held_train start.args.t

  abbrev l : ℕ
  l = c.length_in_segments-l.result

  abbrev k : ℕ
  k = c.speed_in_segments-k.result

  abbrev directed : ℕ
  directed = 2 * start.args.b.segment_count

  directed-is : directed ≡ 2 * length b.segments
  directed-is = omega (arith, segments start)

  bounds : (1 ≤ l) × (l ≤ 8) × (k ≤ 8)
  bounds =
      omega (arith, c.length_in_segments-l.ensures, c.speed_in_segments-k.ensures, reach b t start.requires.5)

  -- the paths of l segments
  abbrev first : List (List ℕ)
  first = paths_by start.args.table.now start.args.widths.now directed l

  first-fit : T (all (fits b l) first)
  first-fit = paths-fit start.requires.6 directed l directed-is bounds.0

  first_short : T (all short first)
  first_short = fits-short b l first first-fit (omega (arith, bounds))

-- when they are listed
module _ (c : tie.After-list_paths-places) where
  abbrev known : tie.After-speed_in_segments-k
  known = c.before.before.before

  abbrev given : tie.Start
  given = start known

  abbrev found : ℕ
  found = c.list_paths-places.result

  abbrev runs : Bytes
  runs = c.list_paths-places.new.runs

  listed : Listed 0 given.args.runs.now (first known) found runs
  listed = let e = c.list_paths-places.ensures in record { counted = e.0; filled = e.1 }

  back : found ≤ 256 → places_in runs (l known) found ≡ first known
  unfolding count_after
  back few =
      ap₂ (λ (kept : Bytes) (n : ℕ). places_in kept (l known) n) listed.filled listed.counted
      ∙ read_back (first known) given.args.runs.now (l known) given.requires.7 (omega (arith, listed.counted)) (first_short known)
      (fits-long (b known) (l known) (first known) (first-fit known))

list-paths-requires : tie.Need-list_paths-places-requires
list-paths-requires c κs =
    let a = c.before.before in
    let s = start a in
    let n = bounds a in (
      λ d h. record { book = b a; held = s.requires.6; below = omega (arith, directed-is a) },
      s.requires.7,
      omega (arith, segments s, s.requires.6.few),
      omega arith,
      omega arith,
    )

list-further-requires : tie.Need-list_further-requires
list-further-requires c κs =
    let a = c.before.before.before in
    let s = given a in
    let n = bounds (known a) in (
      listed-long (listed a) ∙ s.requires.7,
      listed_le (listed a),
      omega arith,
      omega arith,
      λ few. places-covered s.requires.6 (runs a) (l (known a)) (found a) (rw (back a few) (first-fit (known a))),
    )

-- at the end all runs are listed
module _ (c : tie.After-list_further) where
  abbrev a : tie.After-list_paths-places
  a = c.before.before.before.before

  abbrev table : Bytes
  table = (given a).args.table.now

  abbrev widths : Bytes
  widths = (given a).args.widths.now

  -- the tables and the count after further runs
  abbrev After : List (List ℕ) → Type 0
  After further =
      Listed (found a) (runs a) further c.list_further.result c.list_further.new.runs

  came : After (further_by table widths (places_in (runs a) (l (known a)) (found a)) (k (known a)))
  came = let e = c.list_further.ensures in record { counted = e.0; filled = e.1 }

  more : After (further_by table widths (first (known a)) (k (known a)))
  more =
      ⊎_elim
      (λ few. rw (back a few) at came)
      (λ full. listed-any came (further_by table widths (first (known a)) (k (known a))) full)
      (le-or-lt (found a) 256)

  all_listed : Listed 0 (given a).args.runs.now (runs_of (b (known a)) (t (known a)))
      c.list_further.result c.list_further.new.runs
  all_listed =
      rw
      (runs-further (given a).requires.6 (t (known a)) (directed (known a)) (l (known a)) (k (known a)) (directed-is (known a))
      (known a).length_in_segments-l.ensures (known a).speed_in_segments-k.ensures (bounds (known a)).0)
      (listed_more (listed a) (first_short (known a)) more)

pub list_runs_spec : {M : Type 1} → statement M
list_runs_spec =
    tie.close
    (tie.spec
    (λ c κs. search rules)
    (λ c κs. search rules)
    (λ c. search rules)
    list-paths-requires
    list-further-requires
    (λ c. search rules)
    (λ c. let r = all_listed c.before.before in (r.counted, r.filled)))
