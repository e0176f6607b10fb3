-- From the answer to a book's bytes: the struct holds a book that passed, and a check of it goes on from its instance; or the check
-- stops with the book's refusal. And the tables that an entry point lends for it: how long they are. Assumes nothing.
use mathlib.Core.Path.{◌≡◌, refl, sym, ap, ◌∙◌, subst}
use mathlib.Core.Option.{Option}
use Prim.Native.Nat.{ℕ, ◌<◌}
use lib.ListN.{length, get_or, replicate, length-replicate}
use Rattle.std.specs.Prelude.{Result, Ok, Err}
use Rattle.model.specs.declared.refusals.Refusal.{Refusal}
use Rattle.model.specs.declared.Book.{Book as BookStruct}
use Rattle.model.specs.Refusals.{number_of, detail_of}
use Rattle.spec.specs.Lists.{Bytes, Verdict, accepted, refused, and_then}
use Rattle.spec.specs.Book.{Book}
use Rattle.spec.specs.Read.{read_book}
use Rattle.spec.specs.Answers.{told, accepted_as}
use Rattle.spec.specs.Instance.{Instance, instance_of, under}
use Rattle.spec.specs.Held.{held, packed}
use Rattle.spec.specs.Entry.{read_instance, read_under}
use Rattle.laws.proofs.Answers.{refused-as, accepted-as}
use Rattle.listing.specs.Listed.{run_counts, table_bytes}
use Rattle.reader.specs.declared.reading.ReadBook.{ReadBook}
use Rattle.reader.specs.BookAnswers.{read_of}
use Rattle.reader.proofs.Packing.{held-packed}
use Rattle.reader.proofs.Verdicts.{goes_on, stops}
use Rattle.reader.proofs.Way.{bytes_of}
use Rattle.tables.specs.Tables.{Passed, all_chains}
use Rattle.tables.specs.Meets.{meet_room}
use Rattle.tables.specs.Prepared.{prepared_of}
use Rattle.tables.specs.declared.preparing.Prepared.{Prepared}
use Rattle.tables.proofs.Passing.{passed-read}

-- under a cap a check goes on from the same instance, with the cap
through : {A : Type 0} (cap : Option ℕ) (v : Verdict Instance) (f : Instance → Verdict A)
    → and_then (and_then v λ I. accepted (under cap I)) f ≡ and_then v (λ I. f (under cap I))
unfolding and_then
through cap (accepted I) f = refl
through cap (refused n d) f = refl

pub read_through : {A : Type 0} (cap : Option ℕ) (bytes : Bytes) (f : Instance → Verdict A)
    → and_then (read_under cap bytes) f ≡ and_then (read_instance bytes) (λ I. f (under cap I))
unfolding read_under
read_through cap bytes f = through cap (read_instance bytes) f

-- a book was accepted, and its struct is held in some other form
module _ (bytes : Bytes) {X : Type 0} (form : Book → X) (book : X → BookStruct) (holds : (b : Book) → book (form b) ≡ packed b) {r : Result X Refusal} {x : X}
    (e : told r ≡ accepted_as form (read_book bytes)) (is : r ≡ Ok x) where
  found : (b : Book) × (read_book bytes ≡ accepted b) × (x ≡ form b)
  found = accepted-as {v = read_book bytes} form e is

  same-book : held (book x) ≡ found.0
  same-book = ap (λ (y : X). held (book y)) found.2 ∙ ap held (holds found.0) ∙ held-packed found.0

  went : {A : Type 0} (f : Instance → Verdict A) → f (instance_of (held (book x))) ≡ and_then (read_instance bytes) f
  went f = ap (λ (b : Book). f (instance_of b)) same-book ∙ sym (goes_on bytes f found.0 found.1)

-- the reader accepted
module _ (bytes : Bytes) {r : Result ReadBook Refusal} {x : ReadBook} (e : told r ≡ accepted_as read_of (read_book bytes)) (is : r ≡ Ok x) where
  pub passed : ((i : ℕ) → get_or bytes i 0 < 256) → Passed x.book
  passed known =
      let f = accepted-as {v = read_book bytes} read_of e is in
      subst Passed (sym (ap (λ (y : ReadBook). y.book) f.2)) (passed-read bytes f.0 (bytes_of bytes known) f.1)

  pub counted : x.counts ≡ run_counts (held x.book)
  unfolding found
  counted =
      ap (λ (y : ReadBook). y.counts) (accepted-as {v = read_book bytes} read_of e is).2
      ∙ ap run_counts (sym (same-book bytes read_of (λ y. y.book) (λ b. refl) e is))

  pub went-read : {A : Type 0} (f : Instance → Verdict A) → f (instance_of (held x.book)) ≡ and_then (read_instance bytes) f
  went-read f = went bytes read_of (λ y. y.book) (λ b. refl) e is f

  pub went-read_under : {A : Type 0} (cap : Option ℕ) (f : Instance → Verdict A)
      → f (under cap (instance_of (held x.book))) ≡ and_then (read_under cap bytes) f
  went-read_under cap f = went-read (λ I. f (under cap I)) ∙ sym (read_through cap bytes f)

-- its tables were prepared
module _ (bytes : Bytes) {r : Result Prepared Refusal} {p : Prepared} (e : told r ≡ accepted_as prepared_of (read_book bytes)) (is : r ≡ Ok p) where
  pub went_on : {A : Type 0} (f : Instance → Verdict A) → f (instance_of (held p.book)) ≡ and_then (read_instance bytes) f
  went_on f = went bytes prepared_of (λ y. y.book) (λ b. refl) e is f

  pub went-under : {A : Type 0} (cap : Option ℕ) (f : Instance → Verdict A)
      → f (under cap (instance_of (held p.book))) ≡ and_then (read_under cap bytes) f
  went-under cap f = went_on (λ I. f (under cap I)) ∙ sym (read_through cap bytes f)

-- a book was refused, whatever form an accepted one would have had
module _ (bytes : Bytes) {X : Type 0} (form : Book → X) {r : Result X Refusal} {d : Refusal}
    (e : told r ≡ accepted_as form (read_book bytes)) (is : r ≡ Err d) where
  pub stopped : {A : Type 0} (f : Instance → Verdict A) → and_then (read_instance bytes) f ≡ refused (number_of d) (detail_of d)
  stopped f = stops bytes f (number_of d) (detail_of d) (refused-as form e is)

  pub stopped-under : {A : Type 0} (cap : Option ℕ) (f : Instance → Verdict A)
      → and_then (read_under cap bytes) f ≡ refused (number_of d) (detail_of d)
  stopped-under cap f = read_through cap bytes f ∙ stopped (λ I. f (under cap I))

-- the tables as an entry point lends them, filled with zeros
pub runs-long : length (replicate {A = ℕ} table_bytes 0) ≡ table_bytes
runs-long = length-replicate {A = ℕ} table_bytes 0

pub chains-long : length (replicate {A = ℕ} all_chains 0) ≡ all_chains
chains-long = length-replicate {A = ℕ} all_chains 0

pub meets-long : length (replicate {A = ℕ} meet_room 0) ≡ meet_room
meets-long = length-replicate {A = ℕ} meet_room 0
