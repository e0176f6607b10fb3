-- What the theorems on a book's file speak of beside the definitions. Assumes nothing.
use Rattle.std.specs.Prelude.{not, ◌&&◌, ℕ, ◌^◌, ◌≤◌, ◌<◌, List, T}
use Rattle.spec.specs.Lists.{all}
use Rattle.spec.specs.Frames.{Format}
use Rattle.spec.specs.Book.{Book}
use Rattle.spec.specs.Read.{some_has, may_divide, max_intervals}

-- A format that books can be written in and read back from: its greatest T is not above the one in force, times fit their fields,
-- and payloads are not too long.
pub record Apt (f : Format) : Type 0 where
  pub within : f.greatest_t ≤ max_intervals
  pub fits : f.greatest_t < 256 ^ f.time_width
  pub narrow : f.time_width ≤ 8

-- TTDs that may stand in frames of kind Unbreakable: some segment has each, and it never divides
abbrev pub Allowed : Book → List ℕ → Type 0
Allowed b ttds = T (all (λ u. some_has b u && not (may_divide b u)) ttds)
