-- The successors of directed segments in lent tables: what the filler leaves holds a book's, and listing by tables that hold them is
-- listing by the book. Assumes nothing.
use mathlib.Core.Path.{◌≡◌, refl, sym, ap, ap₂, ◌∙◌}
use mathlib.Core.Logic.{⊎_elim}
use mathlib.Core.Bool.{Bool, true, false, not, ◌&&◌}
use borrow.Author.Tests.{eq-eqb, ne_eqb}
use Prim.Native.Nat.{ℕ, zero, suc, ◌+◌, ◌*◌, ◌-◌, ◌/◌, ◌≤◌, ◌<◌}
use native.Mathlib.Nat.{add-zero, zero-add}
use native.Mathlib.Omega.{arith}
use native.Mathlib.Numerals.{add-one}
use mathlib.Core.List.{List, [], ◌∷◌, ◌++◌, map, append-nil}
use lib.ListN.{length, get_or, set, take, drop, length-map, length-take, length-drop}
use lib.Seq.{sets, slice, length-sets, take-set-le, take-suc, take-length, length-take-le}
use lib.Seq.{slice_empty, length-slice, get_or-take, get_or-drop, drop-append-le}
use lib.Dec.{T, ltb}
use Rattle.model.specs.declared.Book.{Book as BookStruct}
use Rattle.spec.specs.Lists.{Bytes, up_to, each, only, one, all, has, last_or}
use Rattle.spec.specs.Book.{Book, segment_of, start_node, end_node, joined}
use Rattle.spec.specs.Held.{held, padded, CountsFit}
use Rattle.spec.specs.Runs.{leads_to, goes_on, extend, paths_of, directed}
use Rattle.laws.proofs.Tests.{ltb_iff, all-at, all-up_to, le-or-lt}
use Rattle.laws.proofs.Arrays.{padded-next}
use Rattle.laws.proofs.Parts.{length-up_to, each_append, each_same, map_at}
use Rattle.listing.specs.Listed.{successors, successor_table, fan_widths, successors_by, SuccessorsHeld, Covered, extend_by, paths_by}
use Rattle.listing.specs.Listed.{entry_at, entry_of, place_at, place_in, kept_of, runs_after}
use Rattle.laws.proofs.Picks.{all-pick, each-pick, pick-most}
use Rattle.laws.proofs.Last.{last-append}
use Rattle.listing.proofs.Leaves.{part_slice, part-sets}
use Rattle.laws.proofs.Stores.{get_or-sets-in}
use Rattle.listing.proofs.Lists.{each-nothing, each_next, unless, onward, held-segments}

-- ---- rows

-- the rows of the elements of a list, by their places
module _ {ℓ κ} {A : Type ℓ} {B : Type κ} (f : A → List B) (d : A) where
  pub each-taken : (xs : List A) (n : ℕ) → n ≤ length xs → each (up_to n) (λ i. f (get_or xs i d)) ≡ each (take n xs) f
  unfolding each
  each-taken xs zero h = each-nothing (λ i. f (get_or xs i d))
  each-taken xs (suc n) h =
      ap (λ (k : ℕ). each (up_to k) (λ i. f (get_or xs i d))) (sym (add-one n))
      ∙ each_next (λ i. f (get_or xs i d)) n
      ∙ ap₂ ◌++◌ (each-taken xs n (omega arith)) (sym (append-nil (f (get_or xs n d))))
      ∙ sym (each_append (take n xs) (one (get_or xs n d)) f)
      ∙ ap (λ (l : List A). each l f) (sym (take-suc xs n d h))

  pub each_at : (xs : List A) → each (up_to (length xs)) (λ i. f (get_or xs i d)) ≡ each xs f
  each_at xs = each-taken xs (length xs) (omega arith) ∙ ap (λ (l : List A). each l f) (take-length xs)

module _ {ℓ} {A : Type ℓ} where
  -- an element of a part of a list
  pub get_or-slice : (xs : List A) (base n i : ℕ) (d : A) → i < n → get_or (slice base (base + n) xs) i d ≡ get_or xs (base + i) d
  get_or-slice xs base n i d h = get_or-drop base (take (base + n) xs) i d ∙ get_or-take (base + n) xs (base + i) d (omega arith)

  pub length_part : (xs : List A) (base n : ℕ) → base + n ≤ length xs → length (slice base (base + n) xs) ≡ n
  length_part xs base n h = length-slice base (base + n) xs h ∙ omega arith

  -- a part that is one element longer
  pub slice_snoc : (xs : List A) (base i : ℕ) (d : A) → base + i < length xs
      → slice base (base + (i + 1)) xs ≡ slice base (base + i) xs ++ one (get_or xs (base + i) d)
  slice_snoc xs base i d h =
      let e : base + (i + 1) ≡ suc (base + i) = omega arith in
      let l : base ≤ length (take (base + i) xs) = omega (arith, length-take-le (base + i) xs (omega arith)) in
      ap (λ (k : ℕ). slice base k xs) e
      ∙ ap (drop base) (take-suc xs (base + i) d h)
      ∙ drop-append-le base (take (base + i) xs) (one (get_or xs (base + i) d)) l

  -- a row that is copied, element by element, into an array of n: none is there, or one more
  module _ (n : ℕ) (z : A) (xs : List A) (base : ℕ) where
    pub copied_none : {row : List A} → row ≡ padded n z [] → row ≡ padded n z (slice base (base + 0) xs)
    copied_none e = e ∙ ap (padded n z) (sym (ap (λ (k : ℕ). slice base k xs) (add-zero base) ∙ slice_empty base xs))

    pub copied_next : {row : List A} (i : ℕ) → i < n → base + i < length xs → row ≡ padded n z (slice base (base + i) xs)
        → set row i (get_or xs (base + i) z) ≡ padded n z (slice base (base + (i + 1)) xs)
    copied_next i room inside e =
        ap (λ (r : List A). set r i (get_or xs (base + i) z)) e
        ∙ padded-next n i z (get_or xs (base + i) z) (slice base (base + i) xs) (length_part xs base i (omega arith)) room
        ∙ ap (padded n z) (sym (slice_snoc xs base i z inside))

  -- the rows of the elements of a part of a list
  pub each-slice {κ} : {B : Type κ} (f : A → List B) (d : A) (xs : List A) (base n : ℕ) → base + n ≤ length xs
      → each (up_to n) (λ i. f (get_or xs (base + i) d)) ≡ each (slice base (base + n) xs) f
  each-slice f d xs base n h =
      each_same (λ i. f (get_or xs (base + i) d)) (λ i. f (get_or (slice base (base + n) xs) i d)) n
      (λ i l. ap f (sym (get_or-slice xs base n i d l)))
      ∙ ap (λ (k : ℕ). each (up_to k) (λ i. f (get_or (slice base (base + n) xs) i d))) (sym (length_part xs base n h))
      ∙ each_at f d (slice base (base + n) xs)

  -- stores leave what stands before them
  take-sets-le : (l : List A) (i : ℕ) (vs : List A) (n : ℕ) → n ≤ i → take n (sets l i vs) ≡ take n l
  take-sets-le l i [] n h = refl
  take-sets-le l i (v ∷ vs) n h = take-sets-le (set l i v) (suc i) vs n (omega arith) ∙ take-set-le n l i v h

  pub slice-sets-below : (l : List A) (i : ℕ) (vs : List A) (a n : ℕ) → n ≤ i → slice a n (sets l i vs) ≡ slice a n l
  slice-sets-below l i vs a n h = ap (drop a) (take-sets-le l i vs n h)

-- a place in a table of runs is no longer than it should be, and stays where further runs are kept behind it
pub place_short : (kept : Bytes) (l r : ℕ) → length (place_in kept l r) ≤ l
unfolding place_at
place_short kept l r = rw (length-drop, length-take) (omega arith)

pub place-long : (kept : Bytes) (l r : ℕ) → entry_at r + 1 + l ≤ length kept → length (place_in kept l r) ≡ l
unfolding place_at
place-long kept l r h = length_part kept (entry_at r + 1) l h

pub place-stays : (count : ℕ) (runs : List (List ℕ)) (kept : Bytes) (l r : ℕ) → l ≤ 16 → r < count
    → place_in (runs_after count runs kept) l r ≡ place_in kept l r
unfolding place_at runs_after
place-stays count runs kept l r h k =
    slice-sets-below kept (entry_at count) (each (kept_of count runs) entry_of) (entry_at r + 1) (entry_at r + 1 + l) (omega arith)

-- ---- the tables

-- d leads to e: by the nodes where d ends and e begins and, where they are one, the join there
module _ (b : Book) (d e : ℕ) {node start : ℕ} (ends : node ≡ end_node b d) (starts : start ≡ start_node b e) where
  pub leads-joined : start ≡ node → leads_to b d e ≡ joined b node (d / 2) (e / 2)
  unfolding leads_to segment_of
  leads-joined h = simp (← ends, ← starts, h, eq-eqb node node refl)

  pub leads-apart : (start ≡ node → ⊥) → leads_to b d e ≡ false
  unfolding leads_to
  leads-apart h = simp (← ends, ← starts, ne_eqb node start (λ k. h (sym k)))

module _ (b : Book) where
  pub successors-most : (d : ℕ) → length (successors b d) ≤ 2 * length b.segments
  unfolding successors directed
  successors-most d =
      omega (arith, pick-most (leads_to b d) (up_to (2 * length b.segments)), length-up_to (2 * length b.segments))

  -- successors are directed segments of the book
  pub successors-below : (d : ℕ) → T (all (λ e. ltb e (2 * length b.segments)) (successors b d))
  unfolding successors directed
  successors-below d =
      all-pick (leads_to b d) (λ e. ltb e (2 * length b.segments)) (up_to (2 * length b.segments))
      ((all-up_to (λ e. ltb e (2 * length b.segments)) (2 * length b.segments)).1
      (λ e h. (ltb_iff e (2 * length b.segments)).1 h))

  pub length-successor_table : (n : ℕ) (old : Bytes) → length (successor_table b n old) ≡ length old
  unfolding successor_table
  length-successor_table zero old = refl
  length-successor_table (suc n) old =
      length-sets (successor_table b n old) (n * 128) (successors b n) ∙ length-successor_table n old

  module _ (few : length b.segments ≤ 64) (old : Bytes) (room : length old ≡ 16384) where
    -- the fan of a directed segment
    fan-at : (n d : ℕ) → n ≤ 2 * length b.segments → d < n
        → slice (d * 128) (d * 128 + length (successors b d)) (successor_table b n old) ≡ successors b d
    unfolding successor_table
    fan-at zero d h k = let no' : ⊥ = omega arith in absurd no'
    fan-at (suc n) d h k =
        ⊎_elim
        (λ m.
        slice-sets-below (successor_table b n old) (n * 128) (successors b n) (d * 128) (d * 128 + length (successors b d))
        (omega (arith, successors-most d))
        ∙ fan-at n d (omega arith) m)
        (λ m.
        let same : d ≡ n = omega arith in
        rw same
        (part_slice (length (successors b n))
        (part-sets (successors b n) (successor_table b n old) (n * 128) (omega (arith, successors-most n, length-successor_table n old))) refl))
        (le-or-lt (suc d) n)

    module _ (fans₀ : Bytes) (space : length fans₀ ≡ 128) where
      abbrev widths : Bytes
      widths = sets fans₀ 0 (fan_widths b (2 * length b.segments))

      width-at : (d : ℕ) → d < 2 * length b.segments → get_or widths d 0 ≡ length (successors b d)
      unfolding fan_widths
      width-at d h =
          let e = length-map (up_to (2 * length b.segments)) (λ d. length (successors b d)) in
          let l = length-up_to (2 * length b.segments) in
          ap (λ (k : ℕ). get_or widths k 0) (sym (zero-add d))
          ∙ get_or-sets-in fans₀ 0 (fan_widths b (2 * length b.segments)) d 0 (omega arith) (omega arith)
          ∙ map_at (λ d. length (successors b d)) (2 * length b.segments) d 0 h

      -- what the filler leaves holds the successors
      pub successors-held : SuccessorsHeld b (successor_table b (2 * length b.segments) old) widths
      unfolding successors_by
      successors-held = record {
        table_long = length-successor_table (2 * length b.segments) old ∙ room;
        widths_long = length-sets fans₀ 0 (fan_widths b (2 * length b.segments)) ∙ space;
        few = few;
        fan_fits = λ d h. omega (arith, width-at d h, successors-most d);
        fan = λ d h.
            ap (λ (k : ℕ). slice (d * 128) (d * 128 + k) (successor_table b (2 * length b.segments) old)) (width-at d h)
            ∙ fan-at (2 * length b.segments) d (omega arith) h;
      }

-- the same, of the struct that is filled from
pub filled-held : (b : BookStruct) → CountsFit b → length b.segments ≡ 64 → (table₀ fans₀ table widths : Bytes)
    → length table₀ ≡ 16384 → length fans₀ ≡ 128 → table ≡ successor_table (held b) (2 * b.segment_count) table₀
    → widths ≡ sets fans₀ 0 (fan_widths (held b) (2 * b.segment_count)) → SuccessorsHeld (held b) table widths
filled-held b fits e table₀ fans₀ table widths room space et ef =
    let n = held-segments b fits e in
    let m : 2 * b.segment_count ≡ 2 * length (held b).segments = omega arith in
    rw (et, ef, m) (successors-held (held b) (omega arith) table₀ room fans₀ space)

-- ---- listing by tables that hold the successors

-- a row where two tests agree
both : (a u : Bool) {xs ys : List (List ℕ)} → xs ≡ ys → only a (unless u xs) ≡ elim (a && not u) [ true ↦ ys | false ↦ [] ]
unfolding only
both true true e = refl
both true false e = e
both false u e = refl

module _ {b : Book} {table widths : Bytes} (h : SuccessorsHeld b table widths) where
  pub extend_same : (missing : ℕ) (path : List ℕ) → last_or 0 path < 2 * length b.segments
      → extend_by table widths missing path ≡ extend b missing path
  unfolding extend_by extend successors directed goes_on
  extend_same zero path k = refl
  extend_same (suc missing) path k =
      ap (λ (ds : List ℕ). each ds (onward table widths missing path)) (h.fan (last_or 0 path) k)
      ∙ each-pick (leads_to b (last_or 0 path)) (onward table widths missing path) (up_to (2 * length b.segments))
      ∙ each_same (λ d. only (leads_to b (last_or 0 path) d) (onward table widths missing path d))
      (λ d. elim (goes_on b path d) [ true ↦ extend b missing (path ++ one d) | false ↦ [] ])
      (2 * length b.segments)
      (λ d l. both (leads_to b (last_or 0 path) d) (has (segment_of d) (map segment_of path))
      (extend_same missing (path ++ one d) (rw last-append l)))

  pub paths-same : (size n : ℕ) → n ≡ 2 * length b.segments → paths_by table widths n size ≡ paths_of b size
  unfolding paths_by paths_of directed last_or
  paths-same size n e =
      rw e
      (each_same (λ d. extend_by table widths (size - 1) (one d)) (λ d. extend b (size - 1) (one d)) (2 * length b.segments)
      (λ d l. extend_same (size - 1) (one d) l))

-- ---- what stands in the fan of a directed segment

module _ {table widths : Bytes} {d : ℕ} (c : Covered table widths d) where
  pub covered-number : d < 128
  covered-number = omega (arith, c.below, c.held.few)

  pub covered-width : get_or widths d 0 ≤ 128
  covered-width = c.held.fan_fits d c.below

  -- each successor is such a directed segment again
  pub covered_next : (i : ℕ) → i < get_or widths d 0 → Covered table widths (get_or table (d * 128 + i) 0)
  unfolding successors_by
  covered_next i l =
      let s : length (successors_by table widths d) ≡ get_or widths d 0 =
      length_part table (d * 128) (get_or widths d 0) (omega (arith, covered-number, covered-width, c.held.table_long)) in
      let k : i < length (successors_by table widths d) = omega arith in
      let passes = rw (sym (c.held.fan d c.below)) at (successors-below c.book d) in
      let below = all-at (λ e. ltb e (2 * length c.book.segments)) (successors_by table widths d) i 0 passes k in
      record {
        book = c.book;
        held = c.held;
        below = (ltb_iff _ _).0 (rw (get_or-slice table (d * 128) (get_or widths d 0) i 0 l) at below);
      }
