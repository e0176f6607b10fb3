-- Where the times of an old payload stand, as the code answers it. Assumes nothing.
use Rattle.std.proofs.Math.Option.{Option, none, some}
use Rattle.std.specs.Prelude.{ℕ, ◌+◌, ◌*◌, length}
use Rattle.spec.specs.Frames.{times_at, time_count, Kind}
use Rattle.spec.specs.Book.{Book}
use Rattle.upgrading.specs.declared.Times.{Times}

-- those of a kind; a number that is no kind's has none
abbrev pub times_in : Option Kind → Times
times_in none = record { at = 0; count = 0 }
times_in (some k) = record { at = times_at k; count = time_count k }

-- how many there are in a book: T, each train's departure, and each call's first and last
unfoldable pub book_times : Book → ℕ
book_times b = 1 + (length b.trains + 2 * length b.calls)
