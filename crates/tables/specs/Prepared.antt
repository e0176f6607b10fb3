-- What is prepared from a book. Assumes nothing.
use Rattle.std.specs.Prelude.{length}
use Rattle.spec.specs.Book.{Book}
use Rattle.spec.specs.Instance.{instance_of}
use Rattle.spec.specs.Held.{packed}
use Rattle.listing.specs.Listed.{run_counts}
use Rattle.tables.specs.Meets.{meet_table}
use Rattle.tables.specs.declared.preparing.Prepared.{Prepared}

-- a book by value, how many runs each of its trains has, and how long the table of what meets is
abbrev pub prepared_of : Book → Prepared
prepared_of b = record { book = packed b; counts = run_counts b; meet_bytes = length (meet_table (instance_of b)) }
