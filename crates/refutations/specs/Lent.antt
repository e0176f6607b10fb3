-- How long the slices are that a refutation check is lent. Assumes nothing.
use Rattle.std.specs.Prelude.{List, length, ℤ, ℕ}
use Rattle.spec.specs.Lists.{Bytes}
use Rattle.spec.specs.Refutation.{Lent}

abbrev pub lengths : List ℤ → List ℕ → Bytes → List ℕ → Lent
lengths words starts values trail = record
    { words = length words; clauses = length starts; values = length values; trail = length trail }
