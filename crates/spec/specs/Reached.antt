-- How far the reader can be: at the start, or behind the Head, where the book as far as it was read is `growing`. Contracts of
-- the reader's functions ask it. Assumes nothing.
use Rattle.std.specs.Prelude.{◌≡◌, ◌≢◌, T}
use Rattle.spec.specs.Book.{no_book}
use Rattle.spec.specs.Read.{Reading, growing}

pub data Reached (r : Reading) : Type 0 where
  at_start : r.last ≡ 0 → r.book ≡ no_book → Reached r
  behind_head : r.last ≢ 0 → T (growing r.book) → Reached r
