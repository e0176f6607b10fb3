-- A train's run in an interval, as the table of all trains' runs holds it: its stretch has the segments of its path. Assumes nothing.
use mathlib.Core.Logic.{◌⊎◌, inl, inr}
use mathlib.Core.Path.{◌≡◌, refl, sym, ap, ◌∙◌}
use Prim.Native.Nat.{ℕ, ◌+◌, ◌*◌, ◌≤◌, ◌<◌}
use native.Mathlib.Omega.{arith}
use mathlib.Core.List.Memᴰ
use mathlib.Core.List.{List, map, Memᴰ}
use lib.ListN.{length, get_or, take, drop, length-drop}
use lib.Seq.{slice, take-take, drop-drop}
use lib.Dec.{T}
use Rattle.model.specs.declared.Book.{Book as BookStruct}
use Rattle.spec.specs.Lists.{Bytes}
use Rattle.spec.specs.Book.{segment_of}
use Rattle.spec.specs.Instance.{instance_of, compile, run_lists, run_at}
use Rattle.spec.specs.Plan.{Move, run, absent, gone, of_run, is_move}
use Rattle.spec.specs.Held.{held}
use Rattle.laws.proofs.Tests.{ltb_iff}
use Rattle.demands.proofs.Wellformed.{sound}
use Rattle.listing.specs.Listed.{train_bytes, entry_at, place_at, start_at}
use Rattle.listing.proofs.Filled.{slice-tail}
use Rattle.listing.proofs.Successors.{get_or-slice}
use Rattle.tables.specs.Placed.{size_at, run_held}
use Rattle.tables.specs.Ready.{RunsHeld, RunsReady}
use Rattle.tables.proofs.Here.{few-trains, in-instance}
use Rattle.layout.specs.declared.moves.Move.{Move as HeldMove}
use Rattle.layout.specs.declared.moves.Move.TheVariants.{Absent, Gone}
use Rattle.layout.specs.Moves.{held_move}
use Rattle.plan_rules.specs.Marks.{stretch_of}

-- ---- a part of a part

module _ {ℓ} {A : Type ℓ} (xs : List A) (base width : ℕ) (fits : base + width ≤ length xs) where
  slice-slice : (a n : ℕ) → a + n ≤ width
      → slice a (a + n) (slice base (base + width) xs) ≡ slice (base + a) (base + a + n) xs
  slice-slice a n h =
      ap (slice a (a + n)) (slice-tail xs base width (omega arith))
      ∙ ap (drop a) (take-take (a + n) width (drop base xs) h)
      ∙ slice-tail (drop base xs) a n (rw length-drop (omega arith))
      ∙ ap (take n) (drop-drop a base xs)
      ∙ sym (slice-tail xs (base + a) n (omega arith))

-- ---- the stretch of a move

-- of a move as the code holds it: for the case that it is, and where it is none
pub stretch-told : (runs : Bytes) (i : ℕ) {m case : HeldMove} → m ≡ case → stretch_of runs i (held_move case) ≡ stretch_of runs i (held_move m)
stretch-told runs i e = ap (λ (o : HeldMove). stretch_of runs i (held_move o)) (sym e)

pub stretch-none : (runs : Bytes) (i : ℕ) {m : HeldMove} → (m ≡ Absent) ⊎ (m ≡ Gone) → record { at = 0; size = 0 } ≡ stretch_of runs i (held_move m)
unfolding stretch_of
stretch-none runs i (inl e) = stretch-told runs i e
stretch-none runs i (inr e) = stretch-told runs i e

-- the run with a number in a train's part of the table, found in the table of all trains
module _ {b : BookStruct} {counts : List ℕ} {runs : Bytes} (h : RunsReady b counts runs) (i : ℕ) (known : i < b.train_count) where
  abbrev own : Bytes
  own = slice (i * train_bytes) (i * train_bytes + train_bytes) runs

  abbrev table : RunsHeld (held b) i own
  table = h.held' i known

  few : i < 8
  few = few-trains b h.counted.passed i known

  module _ (r : ℕ) (below : r < (instance_of (held b)).runs i) where
    few-runs : r < 256
    few-runs = omega (arith, table.few)

    abbrev size : ℕ
    size = get_or runs (i * train_bytes + entry_at r) 0

    size-here : size_at own r ≡ size
    size-here = get_or-slice runs (i * train_bytes) train_bytes (entry_at r) 0 (omega (arith, few-runs))

    size-most : size ≤ 16
    size-most = omega (arith, size-here, table.most r below)

    run-here : place_at runs (i * train_bytes + start_at r) size ≡ run_at (run_lists (held b)) i r
    unfolding place_at run_held
    run-here =
        sym (slice-slice runs (i * train_bytes) train_bytes (omega (arith, few, h.long)) (start_at r) size (omega (arith, few-runs, size-most)))
        ∙ ap (λ (n : ℕ). slice (start_at r) (start_at r + n) own) (sym size-here)
        ∙ table.run r below

  path-is : (r : ℕ) → map segment_of (run_at (run_lists (held b)) i r) ≡ (instance_of (held b)).path i r
  unfolding instance_of compile
  path-is r = refl

  -- of a move of the train: its stretch lies in the table, has the segments of its run, and they are segments of the book
  pub stretch-inside : (m : Move) → T (is_move (instance_of (held b)) i m) → (stretch_of runs i m).at + (stretch_of runs i m).size ≤ length runs
  unfolding stretch_of is_move
  stretch-inside (run r) v =
      let k = (ltb_iff r ((instance_of (held b)).runs i)).0 v in
      omega (arith, few, few-runs r k, size-most r k, h.long)
  stretch-inside absent v = omega arith
  stretch-inside gone v = omega arith

  pub stretch-segments : (m : Move) → T (is_move (instance_of (held b)) i m)
      → map segment_of (place_at runs (stretch_of runs i m).at (stretch_of runs i m).size) ≡ of_run m (λ r. (instance_of (held b)).path i r)
  unfolding stretch_of is_move of_run place_at
  stretch-segments (run r) v = ap (map segment_of) (run-here r ((ltb_iff r ((instance_of (held b)).runs i)).0 v)) ∙ path-is r
  stretch-segments absent v = refl
  stretch-segments gone v = refl

  pub stretch-known : (m : Move) → T (is_move (instance_of (held b)) i m)
      → (s : ℕ) → Memᴰ s (of_run m (λ r. (instance_of (held b)).path i r)) → s < (instance_of (held b)).segments
  unfolding of_run is_move
  stretch-known (run r) v s mem =
      let p = h.counted.passed in
      (sound (held b) p.formed).inside i r (in-instance b p i known) ((ltb_iff r _).0 v) s mem
  stretch-known absent v s mem = absurd (Memᴰ.not-nil mem)
  stretch-known gone v s mem = absurd (Memᴰ.not-nil mem)
