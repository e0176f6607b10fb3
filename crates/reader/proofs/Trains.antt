-- What a train's tests tell of its payload, and that length and speed in segments are of its first two numbers alone.
-- Assumes nothing.
use mathlib.Core.Path.{◌≡◌, sym, ◌∙◌}
use mathlib.Core.Bool.{Bool, true, ◌&&◌}
use Prim.Native.Nat.{ℕ, ◌*◌, ◌≤◌}
use mathlib.Core.List.{List}
use lib.ListN.{length, drop}
use lib.Dec.{T, ltb, eqb}
use Rattle.laws.proofs.Tests.{and-iff, leb-iff, eqb-iff, from-true}
use Rattle.spec.specs.Lists.{Bytes, all}
use Rattle.spec.specs.Numbers.{field}
use Rattle.spec.specs.Frames.{Format, train_fixed}
use Rattle.spec.specs.Book.{Book, Train, length_in_segments, speed_in_segments}
use Rattle.spec.specs.Runs.{is_path}
use Rattle.spec.specs.Read.{train_fits, reach_fits, place_fits, train_in, between, max_reach}
use Rattle.spec.specs.Held.{packed_train, padded}

module _ (b : Book) where
  -- the row is of directed segments
  pub train-inside : (F : Format) (p : Bytes) → train_fits b (train_in F p) ≡ true → T (all (λ d. ltb d (2 * length b.segments)) (drop (train_fixed F) p))
  unfolding train_fits train_in
  train-inside F p e = let q = simp and-iff at (from-true e) in q.1

  -- l is at most 8
  pub train-short : (t : Train) → reach_fits b t ≡ true → length_in_segments b t ≤ max_reach
  unfolding reach_fits between
  train-short t e = let q = simp (and-iff, leb-iff) at (from-true e) in q.0.1

  -- the numbers alone
  pub length-same : (s t : Train) → s.metres ≡ t.metres → length_in_segments b s ≡ length_in_segments b t
  unfolding length_in_segments
  length-same s t e = rw e

  pub reach-same : (s t : Train) → s.metres ≡ t.metres → s.speed ≡ t.speed → reach_fits b s ≡ reach_fits b t
  unfolding reach_fits length_in_segments speed_in_segments
  reach-same s t e f = rw (e, f)

  -- 8, by l and the row
  pub place_same : (F : Format) (p : Bytes) (l : ℕ) → l ≡ length_in_segments b (train_in F p)
      → (eqb (length (drop (train_fixed F) p)) l && is_path b (drop (train_fixed F) p)) ≡ place_fits b (train_in F p)
  unfolding place_fits train_in
  place_same F p l e = rw e

  -- then the row has l directed segments
  pub place-length : (F : Format) (p : Bytes) (l : ℕ) {r : Bool} → r ≡ (eqb (length (drop (train_fixed F) p)) l && is_path b (drop (train_fixed F) p)) → r ≡ true
      → length (drop (train_fixed F) p) ≡ l
  place-length F p l f e =
      let q = (and-iff (eqb (length (drop (train_fixed F) p)) l) (is_path b (drop (train_fixed F) p))).0 (from-true (sym f ∙ e)) in
      (eqb-iff (length (drop (train_fixed F) p)) l).0 q.0

-- the struct that the code fills
pub train-packed : (F : Format) (p : Bytes) (m s d n : ℕ) (row : List ℕ) → m ≡ field p 0 2 → s ≡ field p 2 2 → d ≡ field p 4 F.time_width
    → n ≡ length (drop (train_fixed F) p) → row ≡ padded max_reach 0 (drop (train_fixed F) p)
    → record { metres = m; speed = s; departure = d; size = n; place = row } ≡ packed_train (train_in F p)
unfolding packed_train train_in
train-packed F p m s d n row e f g h k = λ i. record { metres = e i; speed = f i; departure = g i; size = h i; place = k i }
