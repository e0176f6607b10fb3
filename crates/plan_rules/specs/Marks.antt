-- Labels that are marked, and where the table of all trains' runs holds a train's run. Assumes nothing.
use Rattle.std.specs.Prelude.{Bool, ℕ, ◌+◌, ◌*◌, ◌/◌, ◌≤◌, ◌<◌, List, [], ◌∷◌, map, length, get_or, set, T, eqb}
use Rattle.model.specs.declared.Book.{Book as BookStruct}
use Rattle.spec.specs.Lists.{Bytes}
use Rattle.spec.specs.Book.{segment_of}
use Rattle.spec.specs.Read.{max_segments}
use Rattle.spec.specs.Instance.{Instance, instance_of}
use Rattle.spec.specs.Plan.{Plan, Move, run, absent, gone, of_run, plan_of, plan_fits}
use Rattle.spec.specs.Held.{held}
use Rattle.listing.specs.Listed.{train_bytes, entry_at, place_at, start_at}
use Rattle.tables.specs.Ready.{RunsReady}
use Rattle.sections.specs.Labels.{LabelsHeld}
use Rattle.plan_rules.specs.declared.apart.Stretch.{Stretch}

-- the runs, the plan and the labels of its sections
abbrev pub PlanLabelled : BookStruct → List ℕ → Bytes → List ℕ → Bytes → Type 0
PlanLabelled b counts runs labels plan =
    RunsReady b counts runs × T (plan_fits (instance_of (held b)) plan)
    × LabelsHeld (instance_of (held b)) (plan_of (instance_of (held b)) plan).border labels

-- where the table of all trains' runs holds the run that a train's move is; nothing where it is none
unfoldable pub stretch_of : Bytes → ℕ → Move → Stretch
stretch_of runs i (run r) = record { at = i * train_bytes + start_at r; size = get_or runs (i * train_bytes + entry_at r) 0 }
stretch_of runs i absent = record { at = 0; size = 0 }
stretch_of runs i gone = record { at = 0; size = 0 }

-- the labels of a stretch's segments
unfoldable pub labels_of : List ℕ → Bytes → Stretch → List ℕ
labels_of labels runs s = map (λ d. get_or labels (segment_of d) 0) (place_at runs s.at s.size)

-- a stretch of segments with labels: each has a mark
pub record StretchFits (labels : List ℕ) (runs : Bytes) (s : Stretch) : Type 0 where
  pub fits : s.at + s.size ≤ length runs
  pub inside : (k : ℕ) → s.at ≤ k → k < s.at + s.size → get_or runs k 0 / 2 < length labels
  pub below : (k : ℕ) → s.at ≤ k → k < s.at + s.size → get_or labels (get_or runs k 0 / 2) 0 < max_segments

-- a mark a label: 1 where it is marked
unfoldable pub is_marked : Bytes → ℕ → Bool
is_marked marks l = eqb (get_or marks l 0) 1

-- the marks after some more labels were marked
unfoldable pub marking : Bytes → List ℕ → Bytes
marking marks [] = marks
marking marks (l ∷ ls) = marking (set marks l 1) ls

-- the segments of a train's run in an interval
unfoldable pub touched : Instance → Plan → ℕ → ℕ → List ℕ
touched I p t i = of_run (p.move i t) (λ r. I.path i r)
