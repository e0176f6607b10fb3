-- `labels::merge`: the labels before the index are merged, and those from it on are as they were.
use Rattle.std.proofs.Common.{◌≡◌, ℕ, ◌≤◌, ◌<◌, get_or}
use Rattle.sections.specs.Labels.{merged_label}
use Rattle.sections.proofs.labels.merge.Given as goal

abbrev pub invariant-loop-label : goal.invariant-loop-label
invariant-loop-label l =
    ((k : ℕ) → k < l.label-index → get_or l.label-items k 0 ≡ merged_label l.from l.to (get_or l.initial.label-items k 0))
    × ((k : ℕ) → l.label-index ≤ k → get_or l.label-items k 0 ≡ get_or l.initial.label-items k 0)
