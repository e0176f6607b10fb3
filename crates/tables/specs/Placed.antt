-- Places and runs as a table of runs holds them: a place is a stretch of directed segments. This is a table of the code, which no
-- demand speaks of. Assumes nothing.
use Rattle.std.specs.Prelude.{ℕ, ◌+◌, ◌-◌, List, get_or}
use Rattle.spec.specs.Lists.{Bytes}
use Rattle.listing.specs.Listed.{entry_at, start_at, place_at}

-- of the run with a number, in a train's table of runs: how long it is, and where its last l directed segments begin
abbrev pub size_at : Bytes → ℕ → ℕ
size_at runs r = get_or runs (entry_at r) 0

unfoldable pub end_at : Bytes → ℕ → ℕ → ℕ
end_at runs r l = start_at r + (size_at runs r - l)

-- the run itself
unfoldable pub run_held : Bytes → ℕ → List ℕ
run_held runs r = place_at runs (start_at r) (size_at runs r)
