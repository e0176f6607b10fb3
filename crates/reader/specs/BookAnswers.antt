-- What reading answers, in the specification's words. Assumes nothing.
use Rattle.std.specs.Prelude.{Bool, true, false, ℕ, ◌+◌, Some, None}
use Rattle.std.specs.Prelude.{Option as CodeOption}
use Rattle.std.proofs.Math.Option.{Option, none, some}
use Rattle.model.specs.declared.Book.{Book as BookStruct}
use Rattle.spec.specs.Lists.{Bytes, Verdict, accepted, refused, first_fault}
use Rattle.spec.specs.Frames.{Format, frame_head, Kind, kind_field, payload_length, rank}
use Rattle.spec.specs.Book.{Book}
use Rattle.spec.specs.Read as read
use Rattle.spec.specs.Read.{frame_faults, past_frame, is_end, kind_faults, add_found, refuse_or}
use Rattle.spec.specs.Answers.{accepted_as}
use Rattle.spec.specs.Held.{packed}
use Rattle.listing.specs.Listed.{run_counts}
use Rattle.reader.specs.declared.reading.ReadBook.{ReadBook}
use Rattle.reader.specs.declared.reading.Reading.{Reading}

-- a book by value, with how many runs each of its trains has
abbrev pub read_of : Book → ReadBook
read_of b = record { book = packed b; counts = run_counts b }

-- 4 to 9 of a frame whose kind was found, or the book after it, by value
unfoldable pub added_found : Format → Book → Option Kind → Bytes → Verdict BookStruct
added_found f b o p = accepted_as packed (refuse_or (first_fault (kind_faults f b o p)) (add_found f b o p))

-- how far the book is read after a frame, or nothing at its End
abbrev pub reading_behind : Format → Bool → read.Reading → Bytes → ℕ → CodeOption Reading
reading_behind f true r s at = None
reading_behind f false r s at = Some (record
    { book = packed (past_frame f r s).book; last = rank (kind_field s); at = at + (frame_head + payload_length s) })

-- 1 to 9 of the frame at the start of s, what stands from the place on, or how reading goes on
unfoldable pub stepped_at : Format → read.Reading → Bytes → ℕ → Verdict (CodeOption Reading)
stepped_at f r s at = refuse_or (first_fault (frame_faults f r s)) (reading_behind f (is_end (kind_field s)) r s at)
