-- A run's first and last segment are read from its entry; the other cases are marks.
use native.Mathlib.Omega.{arith}
use mathlib.Core.Path.{◌≡◌, sym, ap, ◌∙◌}
use Prim.Native.Nat.{ℕ, ◌+◌, ◌-◌, ◌/◌, ◌≤◌, ◌<◌}
use lib.Dec.{T}
use lib.ListN.{length, get_or}
use Rattle.model.specs.declared.Book.{Book as BookStruct}
use Rattle.spec.specs.Lists.{Bytes}
use Rattle.spec.specs.Instance.{instance_of}
use Rattle.spec.specs.Plan.{run, is_move}
use Rattle.spec.specs.Page.{shown_run, shown_move, cell}
use Rattle.spec.specs.Held.{held}
use Rattle.layout.specs.declared.moves.Move.{Move}
use Rattle.layout.specs.declared.moves.Move.TheVariants.{Run}
use Rattle.layout.specs.Moves.{held_move}
use Rattle.listing.specs.Listed.{start_at}
use Rattle.tables.specs.Placed.{size_at}
use Rattle.plan_rules.specs.Kept.{TrainReady}
use Rattle.plan_rules.proofs.Ready.{below, run-asks}
use Rattle.graph.proofs.Shown.{run-some, shown-run, told}
use Rattle.graph.proofs.cells.cell_of.Goals as goal

-- the run is one of the train's, and its entry is inside the table
module _ {b : BookStruct} {i l : ℕ} {runs : Bytes} {m : Move} {r : ℕ} (h : TrainReady b i l runs)
    (own : T (is_move (instance_of (held b)) i (held_move m))) (is : m ≡ Run r) where
  entry : (r < 256) × (length runs ≡ 4352) × (l ≤ size_at runs r) × (1 ≤ size_at runs r) × (size_at runs r ≤ 16)
  entry =
      let known = below h own is in
      let asks = run-asks h own is in
      (asks.0, asks.1, asks.2, run-some h r known, h.table.most r known)

  -- what is read of its entry is what is shown of it
  shown_read : {first size rear front : ℕ} → first ≡ start_at r → size ≡ size_at runs r → rear ≡ get_or runs first 0
      → front ≡ get_or runs (first + size - 1) 0
      → shown_run (rear / 2) (front / 2) (size - l) ≡ shown_move (instance_of (held b)) i (run r)
  shown_read a n f g = rw (f, g, a, n) (sym (shown-run h r (below h own is)))

pub start_of-first-requires : goal.start_of-first-requires
start_of-first-requires c = (entry c.requires.0 c.requires.1 c.in-Run.is).0

pub size_of-size-requires : goal.size_of-size-requires
size_of-size-requires c = let e = entry c.requires.0 c.requires.1 c.in-Run.is in (e.0, e.1)

pub bounds-runs-first : goal.bounds-runs-first
bounds-runs-first c = omega (arith, entry c.requires.0 c.requires.1 c.in-Run.is, c.start_of-first.ensures)

pub bounds-runs-first-in-Run : goal.bounds-runs-first-in-Run
bounds-runs-first-in-Run c = omega (arith, entry c.requires.0 c.requires.1 c.in-Run.is, c.start_of-first.ensures, c.size_of-size.ensures)

pub overflow_sub-size : goal.overflow_sub-size
overflow_sub-size c = omega (arith, entry c.requires.0 c.requires.1 c.in-Run.is, c.size_of-size.ensures)

pub returns-in-Run : goal.returns-in-Run
returns-in-Run c =
    c.run_cell.ensures
    ∙ ap cell (shown_read c.requires.0 c.requires.1 c.in-Run.is c.start_of-first.ensures c.size_of-size.ensures.0 c.from-rear.ensures c.from-front.ensures)
    ∙ told _ _ c.in-Run.is

pub returns-in-Absent : goal.returns-in-Absent
unfolding cell shown_move
returns-in-Absent c = c.marked.ensures ∙ told (instance_of (held c.args.b)) c.args.train c.in-Absent.is

pub returns-in-Gone : goal.returns-in-Gone
unfolding cell shown_move
returns-in-Gone c = c.marked-in-Gone.ensures ∙ told (instance_of (held c.args.b)) c.args.train c.in-Gone.is
