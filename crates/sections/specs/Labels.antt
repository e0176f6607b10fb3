-- Labels of sections: each segment's label is the least segment of its section. Assumes nothing.
use Rattle.std.specs.Prelude.{◌≡◌, cond, ℕ, ◌<◌, min, max, List, length, get_or, eqb}
use Rattle.spec.specs.Read.{max_segments}
use Rattle.spec.specs.Instance.{Instance}
use Rattle.spec.specs.Sections.{Borders, together}
unfoldable pub use Rattle.spec.specs.Sections.{section_labels}

-- what a table of labels says: two segments have the same label exactly where they are together
pub record LabelsHeld (I : Instance) (border : Borders) (labels : List ℕ) : Type 0 where
  pub long : length labels ≡ max_segments
  pub below : (s : ℕ) → s < I.segments → get_or labels s 0 < I.segments
  pub same : (s t : ℕ) → s < I.segments → t < I.segments → eqb (get_or labels s 0) (get_or labels t 0) ≡ together I border s t

-- a label where all labels `from` become `to`
unfoldable pub merged_label : ℕ → ℕ → ℕ → ℕ
merged_label from to label = cond (eqb label from) to label

-- a label where two sections become one, which has the smaller of their labels
unfoldable pub joined_label : ℕ → ℕ → ℕ → ℕ
joined_label one other label = merged_label (max one other) (min one other) label
