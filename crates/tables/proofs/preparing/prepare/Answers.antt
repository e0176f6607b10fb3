-- Of a book that passed, what meets is listed. Assumes nothing.
use Rattle.std.proofs.Common.{◌≡◌, ℕ, length, sym, ap, ◌∙◌, arith}
use Rattle.spec.specs.Lists.{Verdict, accepted}
use Rattle.spec.specs.Book.{Book}
use Rattle.spec.specs.Answers.{told, accepted_as}
use Rattle.spec.specs.Instance.{instance_of}
use Rattle.spec.specs.Held.{held}
use Rattle.model.specs.declared.Book.{Book as BookStruct}
use Rattle.laws.proofs.Answers.{as-goes_on}
use Rattle.reader.specs.declared.reading.ReadBook.{ReadBook}
use Rattle.reader.specs.BookAnswers.{read_of}
use Rattle.reader.proofs.Packing.{held-packed, segments-counted}
use Rattle.tables.specs.Meets.{meet_table}
use Rattle.tables.specs.Prepared.{prepared_of}
use Rattle.tables.proofs.MeetTables.{meets-ready}
use Rattle.tables.proofs.preparing.prepare.Goals as goal

-- how many bytes the book's table of what meets has
abbrev meet_length : Book → ℕ
meet_length b = length (meet_table (instance_of b))

-- what was read, with its table's length, is what is prepared
prepared-answer : (v : Verdict Book) (x : ReadBook) (n : ℕ) → accepted x ≡ accepted_as read_of v → n ≡ meet_length (held x.book)
    → accepted (record { book = x.book; counts = x.counts; meet_bytes = n }) ≡ accepted_as prepared_of v
prepared-answer v x n e m =
    let f = as-goes_on read_of v x e in
    let size : n ≡ meet_length f.0 = m ∙ ap (λ (y : ReadBook). meet_length (held y.book)) f.2 ∙ ap meet_length (held-packed f.0) in
    ap accepted (λ i. record { book = (f.2 i).book; counts = (f.2 i).counts; meet_bytes = size i }) ∙ ap (accepted_as prepared_of) (sym f.1)

pub returns-clause-answer : goal.returns-clause-answer
returns-clause-answer c = prepared-answer _ c.in_ok-book.field-0 _ c.in_ok-book.ensures.answer c.list_meets-meet_bytes.ensures.0

pub returns-clause-meets_ready : goal.returns-clause-meets_ready
returns-clause-meets_ready c =
    let p = c.in_ok-book.ensures.ready.counted.passed.packed in
    meets-ready c.in_ok-book.field-0.book (omega (arith, segments-counted p, p.counts.segments)) _ c.requires.1 c.list_meets-meet_bytes.ensures
