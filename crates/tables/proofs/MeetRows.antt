-- Rows that are listed one behind another into a table: what a turn adds, and how long the rows are; and the rows of a book's
-- struct, by its counts. Assumes nothing.
use mathlib.Core.Path.{◌≡◌, refl, sym, ap, ap₂, ◌∙◌}
use mathlib.Core.Bool.{Bool, true, false}
use Prim.Native.Nat.{ℕ, zero, suc, ◌+◌, ◌*◌, ◌≤◌, ◌<◌}
use native.Mathlib.Nat.{add-zero}
use native.Mathlib.Numerals.{towards_suc}
use native.Mathlib.Omega.{arith}
use mathlib.Core.List.{List, [], ◌∷◌, ◌++◌}
use lib.ListN.{length, set, length-append}
use lib.Seq.{sets, length-take-le}
use Rattle.model.specs.declared.Book.{Book as BookStruct}
use Rattle.spec.specs.Lists.{Bytes, count, up_to, each, only, sum_to}
use Rattle.spec.specs.Book.{Book, segment_at, touches, share_node}
use Rattle.spec.specs.Instance.{instance_of, compile}
use Rattle.spec.specs.Held.{held, CountsFit}
use Rattle.laws.proofs.Tests.{and-iff, false_of, from_false}
use Rattle.laws.proofs.Parts.{length-each, sum-constant}
use Rattle.laws.proofs.Stores.{sets-append}
use Rattle.listing.proofs.Lists.{each_next, held-segments}
use Rattle.tables.specs.Meets.{meets_of, meets_at, meet_table}

-- ---- rows in a table

-- the first i rows stand in the table from `at` on, and end there
pub record Listed (f : ℕ → Bytes) (old : Bytes) (at i : ℕ) (table : Bytes) (end : ℕ) : Type 0 where
  pub ends : end ≡ at + length (each (up_to i) f)
  pub stored : table ≡ sets old at (each (up_to i) f)

module _ (f : ℕ → Bytes) (old : Bytes) (at : ℕ) where
  pub listed-none : Listed f old at 0 old at
  unfolding up_to count each
  listed-none = record { ends = sym (add-zero at); stored = refl }

  -- a turn stores a row behind them
  pub listed_next : {i end next : ℕ} {table after : Bytes} → Listed f old at i table end
      → next ≡ end + length (f i) → after ≡ sets table end (f i) → Listed f old at (i + 1) after next
  listed_next {i} {end} {next} {table} {after} l e s = record {
    ends = rw each_next (omega (arith, l.ends, length-append (each (up_to i) f) (f i)));
    stored =
        s
        ∙ ap₂ (λ (t : Bytes) (k : ℕ). sets t k (f i)) l.stored l.ends
        ∙ sym (sets-append old at (each (up_to i) f) (f i))
        ∙ ap (sets old at) (sym (each_next f i));
  }

  -- a row that is empty needs no store
  pub listed_same : {i end next : ℕ} {table after : Bytes} → Listed f old at i table end
      → f i ≡ [] → next ≡ end → after ≡ table → Listed f old at (i + 1) after next
  listed_same {i} {end} {next} {table} {after} l e n s =
      listed_next l (n ∙ sym (ap (λ (v : Bytes). end + length v) e ∙ add-zero end)) (s ∙ sym (ap (sets table end) e))

  -- at the end all rows are listed
  pub listed-all : {i n end : ℕ} {table rows : Bytes} → Listed f old at i table end → i ≡ n → each (up_to n) f ≡ rows
      → (end ≡ at + length rows) × (table ≡ sets old at rows)
  listed-all {i} {n} l e r =
      let same = ap (λ (k : ℕ). each (up_to k) f) e ∙ r in
      (l.ends ∙ ap (λ (v : Bytes). at + length v) same, l.stored ∙ ap (sets old at) same)

-- ---- how long rows are

-- a sum of smaller parts is smaller
pub sum-le : (f g : ℕ → ℕ) (n : ℕ) → ((i : ℕ) → i < n → f i ≤ g i) → sum_to f n ≤ sum_to g n
unfolding sum_to
sum-le f g zero h = omega arith
sum-le f g (suc n) h = omega (arith, sum-le f g n (λ i l. h i (omega arith)), h n (omega arith))

pub each-sum : (f : ℕ → Bytes) (n : ℕ) → length (each (up_to n) f) ≡ sum_to (λ i. length (f i)) n
each-sum f n = length-each f (λ i. length (f i)) (λ i. refl) n

each-most : (f : ℕ → Bytes) (m : ℕ) → ((i : ℕ) → length (f i) ≤ m) → (n : ℕ) → length (each (up_to n) f) ≤ n * m
each-most f m h n = omega (arith, each-sum f n, sum-le (λ i. length (f i)) (λ _. m) n (λ i _. h i), sum-constant m n)

only-most : (b : Bool) (xs : Bytes) → length (only b xs) ≤ length xs
unfolding only
only-most true xs = omega arith
only-most false xs = omega arith

-- the stores of a row of three
pub stored-three : (table : Bytes) (k x y z : ℕ) → set (set (set table k x) (k + 1) y) (k + 2) z ≡ sets table k (x ∷ y ∷ z ∷ [])
stored-three table k x y z = simp towards_suc

-- rows that are all empty
each_none : (f : ℕ → Bytes) → ((i : ℕ) → f i ≡ []) → (xs : List ℕ) → each xs f ≡ []
unfolding each
each_none f h [] = refl
each_none f h (x ∷ xs) = ap₂ ◌++◌ (h x) (each_none f h xs)

-- ---- what meets

-- the bytes of one pair
abbrev pub pair : Book → ℕ → ℕ → ℕ → Bytes
pair b n s u = only (share_node b n s u) (n ∷ s ∷ u ∷ [])

pub pair-most : (b : Book) (n s u : ℕ) → length (pair b n s u) ≤ 3
pair-most b n s u = only-most (share_node b n s u) (n ∷ s ∷ u ∷ [])

pub pairs-most : (b : Book) (n s k : ℕ) → length (each (up_to k) (pair b n s)) ≤ k * 3
pairs-most b n s k = each-most (pair b n s) 3 (pair-most b n s) k

module _ (b : Book) (n s u : ℕ) {meet : Bool} (e : meet ≡ share_node b n s u) where
  pub pair-listed : meet ≡ true → pair b n s u ≡ n ∷ s ∷ u ∷ []
  unfolding only
  pair-listed h = ap (λ (m : Bool). only m (n ∷ s ∷ u ∷ [])) (sym e ∙ h)

  pub pair-none : meet ≡ false → pair b n s u ≡ []
  unfolding only
  pair-none h = ap (λ (m : Bool). only m (n ∷ s ∷ u ∷ [])) (sym e ∙ h)

-- a segment that does not touch the node meets none there
apart : (b : Book) (n s u : ℕ) → touches (segment_at b s) n ≡ false → share_node b n s u ≡ false
unfolding share_node
apart b n s u e = false_of (share_node b n s u) (λ h. let p = simp and-iff at h in from_false e p.0.1)

pub of_none : (b : Book) (n s : ℕ) → touches (segment_at b s) n ≡ false → meets_of (instance_of b) n s ≡ []
unfolding meets_of instance_of compile
of_none b n s e = each_none (pair b n s) (λ u. pair-none b n s u refl (apart b n s u e)) (up_to (length b.segments))

-- ---- by the counts of a book's struct

module _ (b : BookStruct) (fits : CountsFit b) (full : length b.segments ≡ 64) where
  pub meets-of : (node s : ℕ) → each (up_to b.segment_count) (pair (held b) node s) ≡ meets_of (instance_of (held b)) node s
  unfolding meets_of instance_of compile
  meets-of node s = ap (λ (n : ℕ). each (up_to n) (pair (held b) node s)) (sym (held-segments b fits full))

  pub meets_at_lem : (node : ℕ) → each (up_to b.segment_count) (meets_of (instance_of (held b)) node) ≡ meets_at (instance_of (held b)) node
  unfolding meets_at instance_of compile
  meets_at_lem node = ap (λ (n : ℕ). each (up_to n) (meets_of (instance_of (held b)) node)) (sym (held-segments b fits full))

  pub meets-all : length b.nodes ≡ 96 → each (up_to b.node_count) (meets_at (instance_of (held b))) ≡ meet_table (instance_of (held b))
  unfolding meet_table instance_of compile held
  meets-all e =
      ap (λ (n : ℕ). each (up_to n) (meets_at (instance_of (held b)))) (sym (length-take-le b.node_count b.nodes (omega arith)))

  -- the bytes of one first segment, and of the first n
  of-most : (node s : ℕ) → length (meets_of (instance_of (held b)) node s) ≤ 192
  of-most node s = rw (← meets-of node s) (omega (arith, pairs-most (held b) node s b.segment_count))

  pub firsts-most : (node n : ℕ) → length (each (up_to n) (meets_of (instance_of (held b)) node)) ≤ n * 192
  firsts-most node n = each-most (meets_of (instance_of (held b)) node) 192 (of-most node) n

  -- the bytes of one node, and of the first n
  at_most : (node : ℕ) → length (meets_at (instance_of (held b)) node) ≤ 12288
  at_most node = rw (← meets_at_lem node) (omega (arith, firsts-most node b.segment_count))

  pub nodes-most : (n : ℕ) → length (each (up_to n) (meets_at (instance_of (held b)))) ≤ n * 12288
  nodes-most n = each-most (meets_at (instance_of (held b))) 12288 at_most n
