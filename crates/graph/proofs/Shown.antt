-- What is shown of a train's run, as the table of its runs holds it: the first and the last segment, and how many more they are
-- than the train is long. Assumes nothing.
use mathlib.Core.Path.{◌≡◌, sym, ap, ap₂, ◌∙◌}
use Prim.Native.Nat.{ℕ, ◌+◌, ◌-◌, ◌/◌, ◌≤◌, ◌<◌}
use native.Mathlib.Omega.{arith}
use native.Mathlib.Nat.{add-zero}
use mathlib.Core.List.{List, map}
use lib.ListN.{length, get_or, length-map, get_or-map}
use Rattle.model.specs.declared.Book.{Book as BookStruct}
use Rattle.spec.specs.Lists.{Bytes, last_or}
use Rattle.spec.specs.Book.{segment_of}
use Rattle.spec.specs.Instance.{Instance, instance_of, compile, run_lists, run_at}
use Rattle.spec.specs.Plan.{run}
use Rattle.spec.specs.Page.{shown_run, shown_move, cell}
use Rattle.spec.specs.Held.{held}
use Rattle.layout.specs.declared.moves.Move.{Move}
use Rattle.layout.specs.Moves.{held_move}
use Rattle.listing.specs.Listed.{place_at, start_at}
use Rattle.laws.proofs.Last.{last-at}
use Rattle.listing.proofs.Successors.{get_or-slice}
use Rattle.tables.specs.Placed.{size_at, run_held}
use Rattle.demands.proofs.RunLists.{train-reach}
use Rattle.tables.proofs.Here.{in-instance}
use Rattle.plan_rules.specs.Kept.{TrainReady}

-- the segment at a place of a path
segment-at : (ds : List ℕ) (j : ℕ) → get_or (map segment_of ds) j 0 ≡ get_or ds j 0 / 2
unfolding segment_of
segment-at ds j = get_or-map segment_of ds j 0

module _ {b : BookStruct} {i l : ℕ} {runs : Bytes} (h : TrainReady b i l runs) (r : ℕ) (k : r < (instance_of (held b)).runs i) where
  abbrev path : List ℕ
  path = run_at (run_lists (held b)) i r

  pub run-some : 1 ≤ size_at runs r
  unfolding instance_of compile
  run-some =
      let long = train-reach (held b) h.passed.formed i (in-instance b h.passed i h.known) in
      omega (arith, long.0, h.table.least r k)

  path-at : (j : ℕ) → j < size_at runs r → get_or path j 0 ≡ get_or runs (start_at r + j) 0
  unfolding run_held place_at
  path-at j m = ap (λ (ds : List ℕ). get_or ds j 0) (sym (h.table.run r k)) ∙ get_or-slice runs (start_at r) (size_at runs r) j 0 m

  rear : get_or (map segment_of path) 0 0 ≡ get_or runs (start_at r) 0 / 2
  rear = segment-at path 0 ∙ ap (λ (d : ℕ). d / 2) (path-at 0 run-some ∙ ap (λ (at : ℕ). get_or runs at 0) (add-zero (start_at r)))

  front : last_or 0 (map segment_of path) ≡ get_or runs (start_at r + size_at runs r - 1) 0 / 2
  front =
      let size : length (map segment_of path) ≡ size_at runs r = length-map path segment_of ∙ sym (h.table.size r k) in
      last-at (map segment_of path) 0 0 (omega (arith, size, run-some))
      ∙ ap (λ (n : ℕ). get_or (map segment_of path) (n - 1) 0) size
      ∙ segment-at path (size_at runs r - 1)
      ∙ ap (λ (d : ℕ). d / 2) (path-at (size_at runs r - 1) (omega (arith, run-some)))
      ∙ ap (λ (at : ℕ). get_or runs at 0 / 2) (omega (arith, run-some))

  moved : length path - l ≡ size_at runs r - l
  moved = ap (λ (n : ℕ). n - l) (sym (h.table.size r k))

  pub shown-run : shown_move (instance_of (held b)) i (run r)
      ≡ shown_run (get_or runs (start_at r) 0 / 2) (get_or runs (start_at r + size_at runs r - 1) 0 / 2) (size_at runs r - l)
  unfolding shown_move instance_of compile
  shown-run =
      ap₂ (λ (a f : ℕ). shown_run a f ((instance_of (held b)).moved i r)) rear front
      ∙ ap (shown_run (get_or runs (start_at r) 0 / 2) (get_or runs (start_at r + size_at runs r - 1) 0 / 2))
      (ap (λ (n : ℕ). length path - n) (sym h.reached) ∙ moved)

-- the cell of a move, for the case that it is
pub told : (I : Instance) (i : ℕ) {m case : Move} → m ≡ case → cell (shown_move I i (held_move case)) ≡ cell (shown_move I i (held_move m))
told I i e = ap (λ (o : Move). cell (shown_move I i (held_move o))) (sym e)
