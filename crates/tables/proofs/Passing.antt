-- A book that is read passed: its struct is the one that holds it, the book is well formed, and its numbers fit their fields
-- (`passed-read`). So whoever reads a book may fill its tables. Assumes nothing.
use mathlib.Core.Path.{◌≡◌, sym, subst}
use lib.Dec.{T}
use Rattle.spec.specs.Lists.{Bytes, accepted}
use Rattle.spec.specs.Book.{Book}
use Rattle.spec.specs.BookFile.{FitsFields}
use Rattle.spec.specs.Read.{read_book, well_formed}
use Rattle.spec.specs.Held.{packed}
use Rattle.laws.proofs.Numbers.{bytes}
use Rattle.demands.proofs.Exact.{book-exact}
use Rattle.reader.proofs.Packing.{held-packed}
use Rattle.reader.proofs.Formed.{well-formed-packed}
use Rattle.tables.specs.Tables.{Passed}

-- a well-formed book whose numbers fit passed
pub passed-packed : (b : Book) → T (well_formed b) → FitsFields b → Passed (packed b)
passed-packed b formed fields = record {
  packed = well-formed-packed b formed fields;
  formed = subst (λ (c : Book). T (well_formed c)) (sym (held-packed b)) formed;
  fields = subst FitsFields (sym (held-packed b)) fields;
}

-- A book that is read passed.
pub passed-read : (s : Bytes) (b : Book) → T (bytes s) → read_book s ≡ accepted b → Passed (packed b)
passed-read s b y e = let h = (book-exact s b y).0 e in passed-packed b h.2 h.3
