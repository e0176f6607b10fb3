-- The tables of faults of a frame's kinds: which number is found, by the tests that led there. Assumes nothing.
use mathlib.Core.Path.{◌≡◌}
use mathlib.Core.Bool.{true, false}
use mathlib.Core.Option.{none, some}
use Prim.Native.Nat.{ℕ, ◌+◌, ◌≤◌, ◌<◌}
use native.Mathlib.Omega.{arith}
use lib.ListN.{length, get_or}
use borrow.Author.Tests.{lt-leb, le-leb, lt-ltb, le-ltb}
use Rattle.laws.proofs.Numbers.{field-one}
use Rattle.laws.proofs.Tests.{and-iff, leb-iff, false_of}
use Rattle.spec.specs.Lists.{Bytes, first_fault}
use Rattle.spec.specs.Numbers.{field}
use Rattle.spec.specs.Frames.{Format, is_kind, kind_number, head_kind, node_kind, segment_kind, join_kind, train_kind, call_kind, unbreakable_kind}
use Rattle.spec.specs.Book.{Book, greatest_node_kind, calls_of}
use Rattle.spec.specs.Read.{content_faults, add, head_fits, segment_fits, segment_in, join_fits, join_in, join_repeats, train_fits, train_in, reach_fits, place_fits, call_fits, call_in, some_has, may_divide, max_nodes, max_segments, max_joins, max_trains, max_calls, between}

module _ (F : Format) (b : Book) (p : Bytes) where
  -- Node
  pub node-full : max_nodes ≤ length b.nodes → first_fault (content_faults F b node_kind p) ≡ some 5
  unfolding content_faults first_fault
  node-full h = simp (le-leb _ _ h)

  pub node-wrong : length b.nodes < max_nodes → greatest_node_kind < field p 0 1 → first_fault (content_faults F b node_kind p) ≡ some 6
  unfolding content_faults first_fault
  node-wrong h k = simp (lt-leb _ _ h, lt-ltb _ _ k)

  pub node-fine : length b.nodes < max_nodes → field p 0 1 ≤ greatest_node_kind → first_fault (content_faults F b node_kind p) ≡ none
  unfolding content_faults first_fault
  node-fine h k = simp (lt-leb _ _ h, le-ltb _ _ k)

  -- Head
  pub head-wrong : (1 ≤ field p 0 2 → 1 ≤ field p 2 2 → 1 ≤ field p 4 F.time_width → field p 4 F.time_width ≤ F.greatest_t → ⊥)
      → first_fault (content_faults F b head_kind p) ≡ some 6
  unfolding content_faults first_fault head_fits add is_kind kind_number between
  head-wrong h =
      simp (false_of (head_fits F (add F b head_kind p)) (λ t. let q = simp (and-iff, leb-iff) at t in h q.0.0 q.0.1 q.1.0 q.1.1))

  pub head-fine : 1 ≤ field p 0 2 → 1 ≤ field p 2 2 → 1 ≤ field p 4 F.time_width → field p 4 F.time_width ≤ F.greatest_t
      → first_fault (content_faults F b head_kind p) ≡ none
  unfolding content_faults first_fault head_fits add is_kind kind_number between
  head-fine m s t l = simp (le-leb _ _ m, le-leb _ _ s, le-leb _ _ t, le-leb _ _ l)

  -- Segment
  pub segment-full : max_segments ≤ length b.segments → first_fault (content_faults F b segment_kind p) ≡ some 5
  unfolding content_faults first_fault
  segment-full h = simp (le-leb _ _ h)

  pub segment-wrong : length b.segments < max_segments → segment_fits b (segment_in p) ≡ false
      → first_fault (content_faults F b segment_kind p) ≡ some 6
  unfolding content_faults first_fault
  segment-wrong h e = simp (lt-leb _ _ h, e)

  pub segment-fine : length b.segments < max_segments → segment_fits b (segment_in p) ≡ true
      → first_fault (content_faults F b segment_kind p) ≡ none
  unfolding content_faults first_fault
  segment-fine h e = simp (lt-leb _ _ h, e)

  -- Join
  pub join-full : max_joins ≤ length b.joins → first_fault (content_faults F b join_kind p) ≡ some 5
  unfolding content_faults first_fault
  join-full h = simp (le-leb _ _ h)

  pub join-wrong : length b.joins < max_joins → join_fits b (join_in p) ≡ false → first_fault (content_faults F b join_kind p) ≡ some 6
  unfolding content_faults first_fault
  join-wrong h e = simp (lt-leb _ _ h, e)

  pub join-again : length b.joins < max_joins → join_fits b (join_in p) ≡ true → join_repeats b.joins (join_in p) ≡ true
      → first_fault (content_faults F b join_kind p) ≡ some 6
  unfolding content_faults first_fault
  join-again h e f = simp (lt-leb _ _ h, e, f)

  pub join-fine : length b.joins < max_joins → join_fits b (join_in p) ≡ true → join_repeats b.joins (join_in p) ≡ false
      → first_fault (content_faults F b join_kind p) ≡ none
  unfolding content_faults first_fault
  join-fine h e f = simp (lt-leb _ _ h, e, f)

  -- Train
  pub train-full : max_trains ≤ length b.trains → first_fault (content_faults F b train_kind p) ≡ some 5
  unfolding content_faults first_fault
  train-full h = simp (le-leb _ _ h)

  module _ (room : length b.trains < max_trains) where
    pub train-wrong : train_fits b (train_in F p) ≡ false → first_fault (content_faults F b train_kind p) ≡ some 6
    unfolding content_faults first_fault
    train-wrong e = simp (lt-leb _ _ room, e)

    pub train-far : train_fits b (train_in F p) ≡ true → reach_fits b (train_in F p) ≡ false → first_fault (content_faults F b train_kind p) ≡ some 7
    unfolding content_faults first_fault
    train-far e f = simp (lt-leb _ _ room, e, f)

    pub train-off : train_fits b (train_in F p) ≡ true → reach_fits b (train_in F p) ≡ true → place_fits b (train_in F p) ≡ false
        → first_fault (content_faults F b train_kind p) ≡ some 8
    unfolding content_faults first_fault
    train-off e f g = simp (lt-leb _ _ room, e, f, g)

    pub train-fine : train_fits b (train_in F p) ≡ true → reach_fits b (train_in F p) ≡ true → place_fits b (train_in F p) ≡ true
        → first_fault (content_faults F b train_kind p) ≡ none
    unfolding content_faults first_fault
    train-fine e f g = simp (lt-leb _ _ room, e, f, g)

  -- Call
  pub call-full : max_calls ≤ length (calls_of b (call_in F p).train) → first_fault (content_faults F b call_kind p) ≡ some 5
  unfolding content_faults first_fault
  call-full h = simp (le-leb _ _ h)

  pub call-wrong : length (calls_of b (call_in F p).train) < max_calls → call_fits b (call_in F p) ≡ false
      → first_fault (content_faults F b call_kind p) ≡ some 6
  unfolding content_faults first_fault
  call-wrong h e = simp (lt-leb _ _ h, e)

  pub call-fine : length (calls_of b (call_in F p).train) < max_calls → call_fits b (call_in F p) ≡ true
      → first_fault (content_faults F b call_kind p) ≡ none
  unfolding content_faults first_fault
  call-fine h e = simp (lt-leb _ _ h, e)

  -- Unbreakable TTD
  pub unbreakable-wrong : some_has b (field p 0 1) ≡ false → first_fault (content_faults F b unbreakable_kind p) ≡ some 6
  unfolding content_faults first_fault
  unbreakable-wrong e = simp e

  pub unbreakable-divided : some_has b (field p 0 1) ≡ true → may_divide b (field p 0 1) ≡ true
      → first_fault (content_faults F b unbreakable_kind p) ≡ some 9
  unfolding content_faults first_fault
  unbreakable-divided e f = simp (e, f)

  pub unbreakable-fine : some_has b (field p 0 1) ≡ true → may_divide b (field p 0 1) ≡ false
      → first_fault (content_faults F b unbreakable_kind p) ≡ none
  unfolding content_faults first_fault
  unbreakable-fine e f = simp (e, f)

-- ---- the entries that payloads hold, byte by byte

module _ (p : Bytes) where
  pub segment-read : length p ≡ 3 → record { a = get_or p 0 0; b = get_or p 1 0; ttd = get_or p 2 0 } ≡ segment_in p
  unfolding segment_in
  segment-read e = simp (field-one p 0 (omega arith), field-one p 1 (omega arith), field-one p 2 (omega arith))

  pub join-read : length p ≡ 3 → record { node = get_or p 0 0; left = get_or p 1 0; right = get_or p 2 0 } ≡ join_in p
  unfolding join_in
  join-read e = simp (field-one p 0 (omega arith), field-one p 1 (omega arith), field-one p 2 (omega arith))

  pub call-read : (F : Format) → 2 ≤ length p → {first last : ℕ} → first ≡ field p 2 F.time_width
      → last ≡ field p (2 + F.time_width) F.time_width → record { train = get_or p 0 0; segment = get_or p 1 0; first = first; last = last } ≡ call_in F p
  unfolding call_in
  call-read F h e f = rw (e, f) (simp (field-one p 0 (omega arith), field-one p 1 (omega arith)))
