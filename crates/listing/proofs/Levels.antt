-- Paths by their length: extending in two steps is extending at once, so the paths of a further length are the places, each extended
-- by what is missing; the places are read back from the table. Assumes nothing.
use mathlib.Core.Path.{◌≡◌, refl, sym, ap, ap₂, ◌∙◌, subst}
use mathlib.Core.Logic.{◌↔◌}
use mathlib.Core.Bool.{Bool, true, false, ◌&&◌}
use Prim.Native.Nat.{ℕ, zero, suc, ◌+◌, ◌*◌, ◌-◌, ◌≤◌, ◌<◌}
use native.Mathlib.Nat.{add-zero, zero-add, suc-add}
use native.Mathlib.Omega.{arith}
use mathlib.Core.List.{List, [], ◌∷◌, ◌++◌, map, append-nil, append_assoc}
use lib.ListN.{length, get_or, replicate, length-append, length-map}
use lib.Seq.{ext_get_or}
use lib.Dec.{T, eqb, ltb}
use Rattle.spec.specs.Lists.{Bytes, up_to, each, one, all, has, last_or}
use Rattle.spec.specs.Book.{Book, Train, segment_of, length_in_segments, speed_in_segments}
use Rattle.spec.specs.Held.{padded}
use Rattle.spec.specs.Runs.{runs_of, paths_of}
use Rattle.laws.proofs.Tests.{and-iff, eqb-iff, ltb_iff, leb-iff, all-iff, all-at, all-up_to}
use Rattle.laws.proofs.Rows.{all_one, all-each, all_map}
use Rattle.laws.proofs.Parts.{Part, part-here, part-behind, part_in, part_at, each_append, each_map, each-mem-same, length-up_to, map_at, map_same}
use Rattle.listing.specs.Listed.{successors_by, SuccessorsHeld, Covered, extend_by, paths_by}
use Rattle.listing.specs.Listed.{place_at, place_in, places_in, PlacesCovered, longer_by, further_by}
use Rattle.listing.specs.Listed.{train_bytes, entry_at, entry_of, runs_after, count_after}
use Rattle.laws.proofs.Last.{last-append}
use Rattle.listing.proofs.Leaves.{part-sets, part_slice}
use Rattle.listing.proofs.Lists.{short, unless, unless-all, onward, each-nothing, each_next, each-short, extend-short}
use Rattle.listing.proofs.Lists.{kept-first, length-entry, length-entries, Listed}
use Rattle.listing.proofs.Successors.{paths-same, successors-below, place_short, place-stays}

-- ---- rows of rows

module _ {ℓ κ} {A : Type ℓ} {B : Type κ} where
  pub each-each {μ} : {C : Type μ} (xs : List A) (f : A → List B) (g : B → List C) → each (each xs f) g ≡ each xs (λ x. each (f x) g)
  unfolding each
  each-each [] f g = refl
  each-each {C = C} (x ∷ xs) f g =
      each_append (f x) (each xs f) g ∙ ap (λ (l : List C). each (f x) g ++ l) (each-each xs f g)

-- the first row, and the others
pub each_first {ℓ} : {B : Type ℓ} (f : ℕ → List B) (k : ℕ) → each (up_to (k + 1)) f ≡ f 0 ++ each (up_to k) (λ i. f (i + 1))
each_first f zero = each_next f 0 ∙ rw (each-nothing f, each-nothing (λ i. f (i + 1))) (sym (append-nil (f 0)))
each_first {B = B} f (suc k) =
    let e : suc k ≡ k + 1 = omega arith in
    ap (λ (n : ℕ). each (up_to (n + 1)) f) e
    ∙ each_next f (k + 1)
    ∙ ap (λ (l : List B). l ++ f (k + 1)) (each_first f k)
    ∙ append_assoc (f 0) (each (up_to k) (λ i. f (i + 1))) (f (k + 1))
    ∙ ap (λ (l : List B). f 0 ++ l) (sym (each_next (λ i. f (i + 1)) k))
    ∙ ap (λ (n : ℕ). f 0 ++ each (up_to n) (λ i. f (i + 1))) (sym e)

-- ---- paths in two steps

module _ (table widths : Bytes) where
  pub extend-add : (m j : ℕ) (path : List ℕ) → extend_by table widths (m + j) path ≡ each (extend_by table widths m path) (extend_by table widths j)
  unfolding extend_by each
  extend-add zero j path =
      ap (λ (n : ℕ). extend_by table widths n path) (zero-add j) ∙ sym (append-nil (extend_by table widths j path))
  extend-add (suc m) j path =
      ap (λ (n : ℕ). extend_by table widths n path) (suc-add m j)
      ∙ each-mem-same (onward table widths (m + j) path) (λ d. each (onward table widths m path d) (extend_by table widths j))
      (successors_by table widths (last_or 0 path))
      (λ d _. step (has (segment_of d) (map segment_of path)) _ (extend-add m j (path ++ one d)))
      ∙ sym (each-each (successors_by table widths (last_or 0 path)) (onward table widths m path) (extend_by table widths j))
    where
      step : (u : Bool) {xs : List (List ℕ)} (ys : List (List ℕ)) → xs ≡ each ys (extend_by table widths j)
          → unless u xs ≡ each (unless u ys) (extend_by table widths j)
      step true ys e = refl
      step false ys e = e

  pub paths-add : (n l j : ℕ) → 1 ≤ l → paths_by table widths n (l + j) ≡ each (paths_by table widths n l) (extend_by table widths j)
  unfolding paths_by
  paths-add n l j h =
      let e : l + j - 1 ≡ l - 1 + j = omega arith in
      ap (λ (m : ℕ). each (up_to n) λ d. extend_by table widths m (one d)) e
      ∙ each-mem-same (λ d. extend_by table widths (l - 1 + j) (one d))
      (λ d. each (extend_by table widths (l - 1) (one d)) (extend_by table widths j)) (up_to n) (λ d _. extend-add (l - 1) j (one d))
      ∙ sym (each-each (up_to n) (λ d. extend_by table widths (l - 1) (one d)) (extend_by table widths j))

  pub longer-none : (places : List (List ℕ)) → longer_by table widths places 0 ≡ places
  unfolding longer_by extend_by each
  longer-none [] = refl
  longer-none (p ∷ ps) = ap (λ (l : List (List ℕ)). p ∷ l) (longer-none ps)

-- a train's runs: the paths of l segments, and further
pub runs-further : {b : Book} {table widths : Bytes} → SuccessorsHeld b table widths → (t : Train) (n l k : ℕ) → n ≡ 2 * length b.segments
    → l ≡ length_in_segments b t → k ≡ speed_in_segments b t → 1 ≤ l
    → runs_of b t ≡ paths_by table widths n l ++ further_by table widths (paths_by table widths n l) k
unfolding runs_of further_by longer_by
runs-further {b} {table} {widths} h t n l k en el ek some =
    let places = paths_by table widths n l in
    ap₂ (λ (a m : ℕ). each (up_to (m + 1)) (λ j. paths_of b (a + j))) (sym el) (sym ek)
    ∙ each-mem-same (λ j. paths_of b (l + j)) (longer_by table widths places) (up_to (k + 1))
    (λ j _. sym (paths-same h (l + j) n en) ∙ paths-add table widths n l j some)
    ∙ each_first (longer_by table widths places) k
    ∙ ap (λ (runs : List (List ℕ)). runs ++ further_by table widths places k) (longer-none table widths places)

-- ---- what listed paths are like

-- a path of n segments that ends over a directed segment of the book
abbrev pub fits : Book → ℕ → List ℕ → Bool
fits b n path = eqb (length path) n && ltb (last_or 0 path) (2 * length b.segments)

pub fits_iff : (b : Book) (n : ℕ) (path : List ℕ) → T (fits b n path) ↔ ((length path ≡ n) × (last_or 0 path < 2 * length b.segments))
fits_iff b n path = simp (and-iff, eqb-iff, ltb_iff) (λ h. h, λ h. h)

module _ {b : Book} {table widths : Bytes} (h : SuccessorsHeld b table widths) where
  extend_fits : (m n : ℕ) (path : List ℕ) → length path + m ≡ n → last_or 0 path < 2 * length b.segments
      → T (all (fits b n) (extend_by table widths m path))
  unfolding extend_by
  extend_fits zero n path e k = rw all_one ((fits_iff b n path).1 (omega arith, k))
  extend_fits (suc m) n path e k =
      let below = subst (λ (ds : List ℕ). T (all (λ d. ltb d (2 * length b.segments)) ds)) (sym (h.fan (last_or 0 path) k))
      (successors-below b (last_or 0 path)) in
      rw all-each
      ((all-iff (λ d. all (fits b n) (onward table widths m path d)) (successors_by table widths (last_or 0 path))).1
      (λ d mem. unless-all (fits b n) (has (segment_of d) (map segment_of path)) (extend_by table widths m (path ++ one d))
      (extend_fits m n (path ++ one d) (omega (arith, length-append path (one d)))
      (rw last-append ((ltb_iff d (2 * length b.segments)).0 ((all-iff (λ d. ltb d (2 * length b.segments)) _).0 below d mem))))))

  pub paths-fit : (n l : ℕ) → n ≡ 2 * length b.segments → 1 ≤ l → T (all (fits b l) (paths_by table widths n l))
  unfolding paths_by last_or
  paths-fit n l e some =
      rw all-each
      ((all-up_to (λ d. all (fits b l) (extend_by table widths (l - 1) (one d))) n).1
      (λ d k. extend_fits (l - 1) l (one d) (omega arith) (omega arith)))

  -- places that fit may be followed from their last segments on
  pub places-covered : (kept : Bytes) (l n : ℕ) → T (all (fits b l) (places_in kept l n)) → (r : ℕ) → r < n
      → Covered table widths (last_or 0 (place_in kept l r))
  unfolding places_in
  places-covered kept l n k r m = record {
    book = b;
    held = h;
    below = ((fits_iff b l (place_in kept l r)).0 ((all-up_to (λ r. fits b l (place_in kept l r)) n).0 (rw all_map at k) r m)).1;
  }

-- what such paths pass
module _ (b : Book) (n : ℕ) (paths : List (List ℕ)) (h : T (all (fits b n) paths)) where
  each_fits : (f : List ℕ → Bool) → ((p : List ℕ) → length p ≡ n → last_or 0 p < 2 * length b.segments → T (f p)) → T (all f paths)
  each_fits f k = (all-iff f paths).1 (λ p mem. let q = (fits_iff b n p).0 ((all-iff (fits b n) paths).0 h p mem) in k p q.0 q.1)

  pub fits-long : T (all (λ p. eqb (length p) n) paths)
  fits-long = each_fits (λ p. eqb (length p) n) (λ p e _. (eqb-iff (length p) n).1 e)

  pub fits-short : n ≤ 16 → T (all short paths)
  fits-short k = each_fits short (λ p e _. (leb-iff (length p) 16).1 (omega arith))

-- the first runs stay where further ones are listed behind them, and so may be followed still
module _ {n : ℕ} {kept₀ : Bytes} {runs : List (List ℕ)} {found : ℕ} {kept : Bytes}
    (more : Listed n kept₀ runs found kept) (l : ℕ) (fit : l ≤ 16) where
  pub listed-stays : (r : ℕ) → r < n → place_in kept l r ≡ place_in kept₀ l r
  listed-stays r h = ap (λ (kept : Bytes). place_in kept l r) more.filled ∙ place-stays n runs kept₀ l r fit h

  pub places-stay : places_in kept l n ≡ places_in kept₀ l n
  unfolding places_in
  places-stay = map_same (place_in kept l) (place_in kept₀ l) n listed-stays

  pub covered-stay : {table widths : Bytes} → PlacesCovered table widths kept₀ l n → PlacesCovered table widths kept l n
  covered-stay c few r h = rw (listed-stays r h) (c few r h)

-- the paths that extend places
module _ (table widths kept : Bytes) (l : ℕ) where
  -- by j segments, the place with a number
  abbrev pub from : ℕ → ℕ → List (List ℕ)
  from j r = extend_by table widths j (place_in kept l r)

  pub longer-from : (n j : ℕ) → longer_by table widths (places_in kept l n) j ≡ each (up_to n) (from j)
  unfolding longer_by places_in
  longer-from n j = each_map (up_to n) (place_in kept l) (extend_by table widths j)

  pub from-short : (n j : ℕ) → l + j ≤ 16 → T (all short (each (up_to n) (from j)))
  from-short n j h =
      each-short (from j) n (λ r _. extend-short table widths j (place_in kept l r) (omega (arith, place_short kept l r)))

  pub further-short : (n k : ℕ) → l + k ≤ 16 → T (all short (further_by table widths (places_in kept l n) k))
  unfolding further_by
  further-short n k h =
      each-short (λ j. longer_by table widths (places_in kept l n) (j + 1)) k
      (λ j m. rw (longer-from n (j + 1)) (from-short n (j + 1) (omega arith)))

-- ---- what is kept is read back

-- the entry of the run with a number
part-entry : (xs : List (List ℕ)) (r : ℕ) → T (all short xs) → r < length xs → Part (each xs entry_of) (entry_at r) (entry_of (get_or xs r []))
unfolding all each
part-entry [] r s h = let no' : ⊥ = omega arith in absurd no'
part-entry (x ∷ xs) zero s h = part-here (entry_of x) (each xs entry_of)
part-entry (x ∷ xs) (suc r) s h =
    let p = (and-iff (short x) (all short xs)).0 s in
    let e : length (entry_of x) + entry_at r ≡ entry_at (suc r) = omega (arith, length-entry x p.0) in
    rw e at (part_in (part-behind (entry_of x) (each xs entry_of)) (part-entry xs r p.1 (omega arith)))

module _ (n : ℕ) (runs : List (List ℕ)) (kept : Bytes) (room : length kept ≡ train_bytes) (few : n + length runs ≤ 256)
    (fit : T (all short runs)) (r : ℕ) (h : r < length runs) where
  abbrev run : List ℕ
  run = get_or runs r []

  -- the entry of a run that was kept behind the first n is a part of the table
  entry_kept : Part (runs_after n runs kept) (entry_at (n + r)) (entry_of run)
  unfolding runs_after
  entry_kept =
      let stored = part-sets (each runs entry_of) kept (entry_at n) (omega (arith, length-entries runs fit)) in
      let e : entry_at n + entry_at r ≡ entry_at (n + r) = omega arith in
      rw (kept-first n runs [] few) (rw e at (part_in stored (part-entry runs r fit h)))

  -- it tells how long the run is, and then the run
  pub size-kept : get_or (runs_after n runs kept) (entry_at (n + r)) 0 ≡ length run
  unfolding entry_of
  size-kept = rw add-zero at (part_at entry_kept 0 0 (omega arith))

  pub part-kept : Part (runs_after n runs kept) (entry_at (n + r) + 1) run
  unfolding entry_of padded
  part-kept =
      let behind = part-behind (one (length run)) (padded 16 0 run) in
      rw add-zero at (part_in (part_in entry_kept behind) (part-here run (replicate (16 - length run) 0)))

-- runs that were kept from the first entry on are read back, where they are of one length
pub read_back : (runs : List (List ℕ)) (kept : Bytes) (l : ℕ) → length kept ≡ train_bytes → length runs ≤ 256 → T (all short runs)
    → T (all (λ run. eqb (length run) l) runs) → places_in (runs_after 0 runs kept) l (count_after 0 runs) ≡ runs
unfolding places_in place_at count_after
read_back runs kept l room few fit long =
    let e : count_after 0 runs ≡ length runs = omega arith in
    let place : ℕ → List ℕ = place_in (runs_after 0 runs kept) l in
    let m = length-map (up_to (length runs)) place ∙ length-up_to (length runs) in
    ap (λ (k : ℕ). map place (up_to k)) e
    ∙ ext_get_or [] (map place (up_to (length runs))) runs m
    (λ r h.
    let k : r < length runs = omega arith in
    map_at place (length runs) r [] k
    ∙ part_slice l (rw zero-add at (part-kept 0 runs kept room (omega arith) fit r k))
    ((eqb-iff (length (get_or runs r [])) l).0 (all-at (λ run. eqb (length run) l) runs r [] long k)))
