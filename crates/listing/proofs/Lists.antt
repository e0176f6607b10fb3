-- Run lists in the lent table: runs that are kept behind runs that were kept, a listing an element at a time, and how long listed
-- paths are. Assumes nothing.
use mathlib.Core.Path.{◌≡◌, refl, sym, ap, ap₂, ◌∙◌, subst}
use mathlib.Core.Logic.{◌⊎◌, inl, inr, ⊎_elim}
use mathlib.Core.Bool.{Bool, true, false}
use Prim.Native.Nat.{ℕ, zero, suc, ◌+◌, ◌-◌, ◌≤◌, ◌<◌}
use native.Mathlib.Omega.{arith}
use native.Mathlib.Numerals.{add-one}
use mathlib.Core.List.{List, [], ◌∷◌, ◌++◌, map, append-nil}
use lib.ListN.{length, take, replicate, length-append, length-replicate}
use lib.Seq.{length-sets, length-take-le, take-append_seam, take_all, take-nil, take-append-le, take-append-add}
use lib.Dec.{T, leb, leb→le, le→leb}
use Rattle.spec.specs.Lists.{Bytes, count, up_to, range, each, one, all, has, last_or}
use Rattle.model.specs.declared.Book.{Book as BookStruct}
use Rattle.spec.specs.Book.{Book, Train, segment_of, length_in_segments, speed_in_segments}
use Rattle.spec.specs.Read.{between, reach_fits}
use Rattle.spec.specs.Held.{padded, held, CountsFit}
use Rattle.laws.proofs.Tests.{and-iff, leb-iff, all-iff, all-up_to, le-or-lt}
use Rattle.laws.proofs.Rows.{all_one, all-each}
use Rattle.laws.proofs.Parts.{up_to-split, up_to-suc, each_append}
use Rattle.laws.proofs.Stores.{sets-append}
use Rattle.listing.specs.declared.Path.{Path}
use Rattle.listing.specs.Listed.{path_of, packed_path, successors_by, extend_by}
use Rattle.listing.specs.Listed.{entry_bytes, entry_at, entry_of, kept_of, runs_after, count_after}
use Rattle.listing.proofs.Leaves.{runs-full}

-- ---- runs that are kept behind runs

-- a run of at most 16 segments
abbrev pub short : List ℕ → Bool
short run = leb (length run) 16

pub length-padded : (run : List ℕ) → length run ≤ 16 → length (padded 16 0 run) ≡ 16
unfolding padded
length-padded run h = omega (arith, length-append run (replicate (16 - length run) 0), length-replicate {A = ℕ} (16 - length run) 0)

pub length-entry : (run : List ℕ) → T (short run) → length (entry_of run) ≡ entry_bytes
unfolding entry_of
length-entry run h = omega (arith, length-padded run (leb→le (length run) 16 h))

pub length-entries : (xs : List (List ℕ)) → T (all short xs) → length (each xs entry_of) ≡ entry_at (length xs)
unfolding all each
length-entries [] h = refl
length-entries (x ∷ xs) h =
    let p = (and-iff (short x) (all short xs)).0 h in
    omega (arith, length-append (entry_of x) (each xs entry_of), length-entry x p.0, length-entries xs p.1)

-- with no runs, nothing changes
pub count_none : (n : ℕ) → n ≤ 257 → count_after n [] ≡ n
unfolding count_after
count_none n h = omega arith

pub runs_none : (n : ℕ) (old : Bytes) → runs_after n [] old ≡ old
unfolding runs_after kept_of each
runs_none n old = rw (take-nil {A = List ℕ} (256 - n))

pub count-one : (n : ℕ) (run : List ℕ) → n ≤ 256 → n + 1 ≡ count_after n (one run)
unfolding count_after
count-one n run h = omega arith

-- at 257 nothing is added
pub count-full : (xs : List (List ℕ)) → count_after 257 xs ≡ 257
unfolding count_after
count-full xs = omega arith

-- the table keeps its length
pub length-runs_after : (n : ℕ) (xs : List (List ℕ)) (old : Bytes) → length (runs_after n xs old) ≡ length old
unfolding runs_after
length-runs_after n xs old = length-sets old (entry_at n) (each (kept_of n xs) entry_of)

pub count_after-le : (n : ℕ) (xs : List (List ℕ)) → count_after n xs ≤ 257
unfolding count_after
count_after-le n xs = omega arith

-- runs, and runs behind them
pub count-more : (n : ℕ) (xs ys : List (List ℕ)) → count_after (count_after n xs) ys ≡ count_after n (xs ++ ys)
unfolding count_after
count-more n xs ys = omega (arith, length-append xs ys)

module _ (n : ℕ) (xs ys : List (List ℕ)) where
  -- all of the first fit
  module _ (h : n + length xs ≤ 256) where
    count_fits : count_after n xs ≡ n + length xs
    unfolding count_after
    count_fits = omega arith

    pub kept-first : kept_of n xs ≡ xs
    unfolding kept_of
    kept-first = take_all (256 - n) xs (omega arith)

    kept-both : kept_of n (xs ++ ys) ≡ xs ++ kept_of (n + length xs) ys
    unfolding kept_of
    kept-both =
        let e : 256 - n ≡ length xs + (256 - (n + length xs)) = omega arith in
        ap (λ (k : ℕ). take k (xs ++ ys)) e ∙ take-append-add xs ys (256 - (n + length xs))

  -- they do not
  module _ (h : 256 < n + length xs) where
    count-over : count_after n xs ≡ 257
    unfolding count_after
    count-over = omega arith

    kept-over : kept_of n (xs ++ ys) ≡ kept_of n xs
    unfolding kept_of
    kept-over = take-append-le (256 - n) xs ys (omega arith)

  pub runs-more : (old : Bytes) → T (all short xs) → runs_after (count_after n xs) ys (runs_after n xs old) ≡ runs_after n (xs ++ ys) old
  unfolding runs_after
  runs-more old s = ⊎_elim fit over (le-or-lt (n + length xs) 256)
    where
      fit : n + length xs ≤ 256 → runs_after (count_after n xs) ys (runs_after n xs old) ≡ runs_after n (xs ++ ys) old
      fit h =
          let e : entry_at (n + length xs) ≡ entry_at n + length (each xs entry_of) = omega (arith, length-entries xs s) in
          rw (count_fits h, kept-first h, kept-both h, each_append xs (kept_of (n + length xs) ys) entry_of, e)
          (sym (sets-append old (entry_at n) (each xs entry_of) (each (kept_of (n + length xs) ys) entry_of)))

      over : 256 < n + length xs → runs_after (count_after n xs) ys (runs_after n xs old) ≡ runs_after n (xs ++ ys) old
      over h = rw (count-over h, kept-over h) (runs-full 257 ys (runs_after n xs old) (omega arith))

-- ---- a listing under way

-- the table and the count, when `runs` were listed behind the first `count`
pub record Listed (count : ℕ) (kept₀ : Bytes) (runs : List (List ℕ)) (found : ℕ) (kept : Bytes) : Type 0 where
  pub counted : found ≡ count_after count runs
  pub filled : kept ≡ runs_after count runs kept₀

-- nothing yet
pub listed-none : (count : ℕ) (kept : Bytes) → count ≤ 257 → Listed count kept [] count kept
listed-none count kept h =
    record { counted = sym (count_none count h); filled = sym (runs_none count kept) }

module _ {count : ℕ} {kept₀ : Bytes} {runs : List (List ℕ)} {found : ℕ} {kept : Bytes}
    (l : Listed count kept₀ runs found kept) where
  pub listed_le : found ≤ 257
  listed_le = omega (arith, l.counted, count_after-le count runs)

  pub listed-from : count ≤ 257 → count ≤ found
  unfolding count_after
  listed-from h = omega (arith, l.counted)

  pub listed-long : length kept ≡ length kept₀
  listed-long = ap length l.filled ∙ length-runs_after count runs kept₀

  -- more, behind them
  pub listed_more : {more : List (List ℕ)} {found' : ℕ} {kept' : Bytes} → T (all short runs)
      → Listed found kept more found' kept' → Listed count kept₀ (runs ++ more) found' kept'
  listed_more {more} s k = record {
    counted = k.counted ∙ ap (λ (n : ℕ). count_after n more) l.counted ∙ count-more count runs more;
    filled = k.filled ∙ ap₂ (λ (n : ℕ) (r : Bytes). runs_after n more r) l.counted l.filled ∙ runs-more count runs more kept₀ s;
  }

  -- at 257, it is the same whatever is listed
  pub listed-any : (more : List (List ℕ)) → 257 ≤ count → Listed count kept₀ more found kept
  unfolding count_after
  listed-any more h = record {
    counted = omega (arith, l.counted);
    filled = l.filled ∙ runs-full count runs kept₀ (omega arith) ∙ sym (runs-full count more kept₀ (omega arith));
  }

  -- at 257, whatever more there is adds nothing
  pub listed-full : (more : List (List ℕ)) → T (all short runs) → 257 ≤ found → Listed count kept₀ (runs ++ more) found kept
  listed-full more s h =
      let e : found ≡ 257 = omega (arith, listed_le) in
      listed_more s
      (subst (λ (n : ℕ). Listed n kept more n kept) (sym e)
      (record {
        counted = sym (count-full more);
        filled = sym (runs-full 257 more kept (omega arith));
      }))

-- ---- rows of runs, an element at a time

module _ {ℓ} {B : Type ℓ} (f : ℕ → List B) where
  pub each-nothing : each (up_to 0) f ≡ []
  unfolding up_to count each
  each-nothing = refl

  pub each_next : (d : ℕ) → each (up_to (d + 1)) f ≡ each (up_to d) f ++ f d
  unfolding each
  each_next d = rw (add-one, up_to-suc, each_append) (ap (λ (l : List B). each (up_to d) f ++ l) (append-nil (f d)))

  -- the rows of the first d, and the others
  pub each-rest : (n d : ℕ) → d < n → (rest : List B) × (each (up_to n) f ≡ each (up_to d) f ++ rest)
  each-rest n d h = (
    each (d ∷ range (suc d) n) f,
    ap (λ (l : List ℕ). each l f) (up_to-split n d h) ∙ each_append (up_to d) (d ∷ range (suc d) n) f,
  )

module _ (f : ℕ → List (List ℕ)) where
  pub each-short : (n : ℕ) → ((i : ℕ) → i < n → T (all short (f i))) → T (all short (each (up_to n) f))
  each-short n s = rw all-each ((all-up_to (λ i. all short (f i)) n).1 s)

  module _ {count : ℕ} {kept₀ : Bytes} {d found : ℕ} {kept : Bytes}
      (l : Listed count kept₀ (each (up_to d) f) found kept) (s : T (all short (each (up_to d) f))) where
    -- the runs of one element more
    pub listed_next : {found' : ℕ} {kept' : Bytes} → Listed found kept (f d) found' kept'
        → Listed count kept₀ (each (up_to (d + 1)) f) found' kept'
    listed_next k = rw each_next (listed_more l s k)

    -- one element more that has none
    pub listed-skip : f d ≡ [] → Listed count kept₀ (each (up_to (d + 1)) f) found kept
    listed-skip e = listed_next (rw e (listed-none found kept (listed_le l)))

    -- all elements are through, or the table is full
    pub listed-end : (n : ℕ) → d ≤ n → (n ≤ d) ⊎ (257 ≤ found) → Listed count kept₀ (each (up_to n) f) found kept
    listed-end n h (inl k) = let e : n ≡ d = omega arith in rw e l
    listed-end n h (inr k) =
        ⊎_elim
        (λ k'. let e : n ≡ d = omega arith in rw e l)
        (λ k'. let r = each-rest f n d k' in rw r.1 (listed-full l r.0 s k))
        (le-or-lt n d)

-- ---- listing by the tables of successors

-- a row where the test does not hold, else nothing
abbrev pub unless : Bool → List (List ℕ) → List (List ℕ)
unless b xs = elim b [ true ↦ [] | false ↦ xs ]

pub unless-all : (f : List ℕ → Bool) (b : Bool) (xs : List (List ℕ)) → T (all f xs) → T (all f (unless b xs))
unfolding all
unless-all f true xs h = tt
unless-all f false xs h = h

-- the paths that extend a path by d and `missing` more
abbrev pub onward : Bytes → Bytes → ℕ → List ℕ → ℕ → List (List ℕ)
onward table widths missing path d = unless (has (segment_of d) (map segment_of path)) (extend_by table widths missing (path ++ one d))

module _ (table widths : Bytes) where
  pub extend-none : (path : List ℕ) → extend_by table widths 0 path ≡ one path
  unfolding extend_by
  extend-none path = refl

  pub extend-more : (missing : ℕ) (path : List ℕ) → 1 ≤ missing
      → extend_by table widths missing path ≡ each (successors_by table widths (last_or 0 path)) (onward table widths (missing - 1) path)
  unfolding extend_by
  extend-more zero path h = let no' : ⊥ = omega arith in absurd no'
  extend-more (suc missing) path h = let e : suc missing - 1 ≡ missing = omega arith in rw e

  pub onward-taken : (missing : ℕ) (path : List ℕ) (d : ℕ) → has (segment_of d) (map segment_of path) ≡ false
      → onward table widths missing path d ≡ extend_by table widths missing (path ++ one d)
  onward-taken missing path d e = ap (λ (b : Bool). unless b (extend_by table widths missing (path ++ one d))) e

  pub onward-left : (missing : ℕ) (path : List ℕ) (d : ℕ) → has (segment_of d) (map segment_of path) ≡ true
      → onward table widths missing path d ≡ []
  onward-left missing path d e = ap (λ (b : Bool). unless b (extend_by table widths missing (path ++ one d))) e

  -- no listed path is longer than the one that is extended and what is missing
  pub extend-short : (missing : ℕ) (path : List ℕ) → length path + missing ≤ 16 → T (all short (extend_by table widths missing path))
  unfolding extend_by
  extend-short zero path h = rw all_one (le→leb (length path) 16 (omega arith))
  extend-short (suc missing) path h =
      rw all-each
      ((all-iff (λ d. all short (onward table widths missing path d)) (successors_by table widths (last_or 0 path))).1
      (λ d _. unless-all short (has (segment_of d) (map segment_of path)) (extend_by table widths missing (path ++ one d))
      (extend-short missing (path ++ one d) (omega (arith, length-append path (one d))))))

  pub onward-short : (missing : ℕ) (path : List ℕ) → length path + missing < 16 → (d : ℕ) → T (all short (onward table widths missing path d))
  onward-short missing path h d =
      unless-all short (has (segment_of d) (map segment_of path)) (extend_by table widths missing (path ++ one d))
      (extend-short missing (path ++ one d) (omega (arith, length-append path (one d))))

-- what a train's numbers may be
pub reach : (b : Book) (t : Train) → T (reach_fits b t)
    → (1 ≤ length_in_segments b t) × (length_in_segments b t ≤ 8) × (speed_in_segments b t ≤ 8)
unfolding reach_fits between
reach b t h = let p = simp (and-iff, leb-iff) at h in (p.0.0, p.0.1, p.1.1)

-- the book's segments are as many as its struct says
pub held-segments : (b : BookStruct) → CountsFit b → length b.segments ≡ 64 → length (held b).segments ≡ b.segment_count
unfolding held
held-segments b fits e = length-take-le b.segment_count b.segments (omega arith)

-- ---- a path by value

-- the struct that holds a row
module _ {p : Path} (ds : List ℕ) (e : p ≡ packed_path ds) where
  pub path-of : path_of p ≡ ds
  unfolding path_of packed_path padded
  path-of = rw e (take-append_seam ds (replicate (16 - length ds) 0))

  pub path-size : p.n ≡ length ds
  unfolding packed_path
  path-size = ap (λ (q : Path). q.n) e

  pub path-packed : p ≡ packed_path (path_of p)
  path-packed = rw path-of e
