-- The table of what meets is short: a segment meets at most 63 others at a node, and it touches at most two nodes. So a table of
-- 24,192 bytes holds what meets in any book of at most 64 segments. Assumes nothing.
use mathlib.Core.Path.{◌≡◌, refl, sym, ap, ◌∙◌}
use mathlib.Core.Bool.{Bool, true, false, ◌||◌, cond}
use mathlib.Core.Logic.{inl, inr}
use Prim.Native.Nat.{ℕ, zero, suc, ◌+◌, ◌*◌, ◌≤◌, ◌<◌}
use native.Mathlib.Omega.{arith}
use lib.ListN.{length}
use lib.Dec.{eqb, eqb_refl}
use Rattle.spec.specs.Lists.{sum_to}
use Rattle.spec.specs.Book.{Book, segment_at, touches, share_node}
use Rattle.spec.specs.Instance.{instance_of, compile}
use Rattle.laws.proofs.Tests.{and-iff, eqb-iff, not_iff, true_of, false_of, le-or-lt, decide, denied-of}
use Rattle.laws.proofs.Parts.{sum-add, sum-constant}
use Rattle.tables.specs.Meets.{meets_of, meets_at, meet_table}
use Rattle.tables.proofs.MeetRows.{sum-le, each-sum, pair, pair-most, pair-none, of_none}

-- ---- sums

-- by rows or by columns
sum-swap : (f : ℕ → ℕ → ℕ) (n m : ℕ) → sum_to (λ i. sum_to (f i) m) n ≡ sum_to (λ j. sum_to (λ i. f i j) n) m
unfolding sum_to
sum-swap f zero m = omega (arith, sum-constant 0 m)
sum-swap f (suc n) m = ap (λ (k : ℕ). k + sum_to (f n) m) (sum-swap f n m) ∙ sym (sum-add (λ j. sum_to (λ i. f i j) n) (f n) m)

-- parts of at most three, one of them nothing
sum-but-one : (f : ℕ → ℕ) (n s : ℕ) → ((i : ℕ) → f i ≤ 3) → f s ≡ 0 → s < n → sum_to f n + 3 ≤ n * 3
unfolding sum_to
sum-but-one f zero s h e l = let no : ⊥ = omega arith in absurd no
sum-but-one f (suc n) s h e l =
    elim (le-or-lt n s) [
      | inl m ↦ (let z : f n ≡ 0 = last (omega arith) in omega (arith, sum-le f (λ _. 3) n (λ i _. h i), sum-constant 3 n))
      | inr m ↦ omega (arith, sum-but-one f n s h e m, h n)
    ]
  where
    last : s ≡ n → f n ≡ 0
    last same = rw same at e

-- k where a number is a, nothing elsewhere
abbrev only_at : ℕ → ℕ → ℕ → ℕ
only_at k a i = cond (eqb a i) k 0

sum-before : (k a n : ℕ) → n ≤ a → sum_to (only_at k a) n ≡ 0
unfolding sum_to
sum-before k a zero h = refl
sum-before k a (suc n) h =
    let off : eqb a n ≡ false = false_of (eqb a n) (λ t. let e = (eqb-iff a n).0 t in omega arith) in
    rw off (omega (arith, sum-before k a n (omega arith)))

sum-once : (k a n : ℕ) → sum_to (only_at k a) n ≤ k
unfolding sum_to
sum-once k a zero = omega arith
sum-once k a (suc n) =
    decide (eqb a n)
    (λ t. rw (true_of (eqb a n) t) (let e = (eqb-iff a n).0 t in omega (arith, sum-before k a n (omega arith))))
    (λ t. rw (denied-of (eqb a n) t) (omega (arith, sum-once k a n)))

either-most : (k : ℕ) (a b : Bool) → cond (a || b) k 0 ≤ cond a k 0 + cond b k 0
either-most k true b = omega arith
either-most k false b = omega arith

-- ---- what meets

module _ (b : Book) (few : length b.segments ≤ 64) where
  -- 63 pairs of three bytes where the segment touches the node
  abbrev share : ℕ → ℕ → ℕ
  share n s = cond (touches (segment_at b s) n) 189 0

  -- no segment meets itself
  alone : (n s : ℕ) → share_node b n s s ≡ false
  unfolding share_node
  alone n s = false_of (share_node b n s s) (λ h. let p = simp (and-iff, not_iff) at h in p.0.0.0 (eqb_refl s))

  of-few : (n s : ℕ) → s < length b.segments → length (meets_of (instance_of b) n s) ≤ 189
  unfolding meets_of instance_of compile
  of-few n s l =
      let none = ap length (pair-none b n s s refl (alone n s)) in
      omega (
        arith,
        each-sum (pair b n s) (length b.segments),
        sum-but-one (λ u. length (pair b n s u)) (length b.segments) s (pair-most b n s) none l,
      )

  of-share : (n s : ℕ) → s < length b.segments → length (meets_of (instance_of b) n s) ≤ share n s
  of-share n s l =
      decide (touches (segment_at b s) n)
      (λ t. rw (true_of (touches (segment_at b s) n) t) (of-few n s l))
      (λ t. let e = denied-of (touches (segment_at b s) n) t in rw e (omega (arith, ap length (of_none b n s e))))

  -- a segment touches at most two nodes
  two-nodes : (s n : ℕ) → sum_to (λ i. share i s) n ≤ 378
  unfolding touches
  two-nodes s n =
      let a = (segment_at b s).a in
      let z = (segment_at b s).b in
      omega (
        arith,
        sum-le (λ i. share i s) (λ i. only_at 189 a i + only_at 189 z i) n (λ i _. either-most 189 (eqb a i) (eqb z i)),
        sum-add (only_at 189 a) (only_at 189 z) n,
        sum-once 189 a n,
        sum-once 189 z n,
      )

  at-share : (n : ℕ) → length (meets_at (instance_of b) n) ≤ sum_to (share n) (length b.segments)
  unfolding meets_at instance_of compile
  at-share n =
      omega (
        arith,
        each-sum (meets_of (instance_of b) n) (length b.segments),
        sum-le (λ s. length (meets_of (instance_of b) n s)) (share n) (length b.segments) (of-share n),
      )

  pub meets-few : length (meet_table (instance_of b)) ≤ 24192
  unfolding meet_table instance_of compile
  meets-few =
      let nodes = length b.nodes in
      let segments = length b.segments in
      omega (
        arith,
        each-sum (meets_at (instance_of b)) nodes,
        sum-le (λ n. length (meets_at (instance_of b) n)) (λ n. sum_to (share n) segments) nodes (λ n _. at-share n),
        sum-swap share nodes segments,
        sum-le (λ s. sum_to (λ n. share n s) nodes) (λ _. 378) segments (λ s _. two-nodes s nodes),
        sum-constant 378 segments,
      )
