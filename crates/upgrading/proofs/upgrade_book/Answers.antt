-- The old reader's refusal, 12, or the frames of the book that was read. Assumes nothing.
use Rattle.std.proofs.Common.{◌≡◌, ◌+◌, ◌*◌, ◌≤◌, length, T, refl, sym, ap, ◌∙◌, arith}
use mathlib.Core.Path.{subst}
use mathlib.Core.Logic.{inl, inr}
use Rattle.std.specs.Prelude.{Result, Ok}
use Rattle.std.proofs.lemmas.Result.{err_from_is_err_and}
use Rattle.model.specs.declared.refusals.Refusal.{Refusal}
use Rattle.spec.specs.Lists.{Bytes, accepted}
use Rattle.spec.specs.Frames.{old_format}
use Rattle.spec.specs.Book.{Book}
use Rattle.spec.specs.Read.{read_as}
use Rattle.spec.specs.Answers.{told, accepted_as}
use Rattle.spec.specs.Held.{held}
use Rattle.spec.specs.Upgrade.{upgraded, upgrade_output}
use Rattle.laws.proofs.Answers.{accepted-as, refused-as}
use Rattle.laws.proofs.Numbers.{bytes}
use Rattle.laws.proofs.Stores.{stored-first}
use Rattle.demands.proofs.Exact.{as-exact}
use Rattle.demands.proofs.Upgrading.{old-apt, upgraded-frames, upgrade-accepted, upgrade-refused}
use Rattle.reader.specs.Added.{Packed}
use Rattle.reader.specs.BookAnswers.{read_of}
use Rattle.reader.specs.declared.reading.ReadBook.{ReadBook}
use Rattle.reader.proofs.Formed.{well-formed-packed}
use Rattle.reader.proofs.Outputs.{left-stopped, left-written}
use Rattle.reader.proofs.Packing.{held-packed}
use Rattle.reader.proofs.Way.{bytes_of}
use Rattle.upgrading.specs.Widened.{book_times}
use Rattle.upgrading.proofs.upgrade_book.Goals as goal

-- the old book is read
module _ (old : Bytes) (y : T (bytes old)) {r : Result ReadBook Refusal} {x : ReadBook} (e : told r ≡ accepted_as read_of (read_as old_format old)) (is : r ≡ Ok x) where
  found : (b : Book) × (read_as old_format old ≡ accepted b) × (x ≡ read_of b)
  found = accepted-as {v = read_as old_format old} read_of e is

  reads : read_as old_format old ≡ accepted (held x.book)
  reads = found.1 ∙ ap accepted (sym (ap (λ (z : ReadBook). held z.book) found.2 ∙ held-packed found.0))

  packed-book : Packed x.book
  packed-book =
      let h = (as-exact old_format old found.0 old-apt y).0 found.1 in
      subst (λ (z : ReadBook). Packed z.book) (sym found.2) (well-formed-packed found.0 h.2 h.3)

  -- and it is known how long the new one is
  long : {n : _} → n ≡ book_times (held x.book) → length old + n * 1 ≡ length (upgraded old)
  unfolding book_times
  long t = omega (arith, (upgraded-frames old (held x.book) y reads).1, t)

pub returns-in_err-read : goal.returns-in_err-read
unfolding upgrade_output
returns-in_err-read c =
    let p = err_from_is_err_and c.from_residual.result c.from_residual.ensures.1 in
    let h = left-stopped c.args.new.now ((upgrade-refused c.args.old.now (length c.args.new.now) _ _).1 (inl (refused-as {v = read_as old_format c.args.old.now} read_of c.read_as.ensures.answer c.in_err-read.was))) in
    record { answer = rw (p.1, p.2) h.0; output = h.1 }

pub book_times-requires : goal.book_times-requires
book_times-requires c =
    packed-book c.args.old.now (bytes_of c.args.old.now (λ i. omega (arith, c.type_inv.old i))) c.read_as.ensures.answer c.in_ok-read.was

pub returns-then-new-n : goal.returns-then-new-n
unfolding upgrade_output
returns-then-new-n c =
    let old = c.args.old.now in
    let y = bytes_of old (λ i. omega (arith, c.type_inv.old i)) in
    let l = long old y c.read_as.ensures.answer c.in_ok-read.was c.book_times.ensures.0 in
    let h = left-stopped c.args.new.now
    ((upgrade-refused old (length c.args.new.now) 12 0).1 (inr (held c.in_ok-read.read.book, reads old y c.read_as.ensures.answer c.in_ok-read.was, omega (arith, l), refl, refl))) in
    record { answer = h.0; output = h.1 }

pub put_frames-requires : goal.put_frames-requires
put_frames-requires c =
    let old = c.args.old.now in
    let y = bytes_of old (λ i. omega (arith, c.type_inv.old i)) in
    let l = long old y c.read_as.ensures.answer c.in_ok-read.was c.book_times.ensures.0 in
    ((c.in_ok-read.read.book, reads old y c.read_as.ensures.answer c.in_ok-read.was), omega (arith, l))

pub returns : goal.returns
unfolding upgrade_output
returns c =
    let old = c.args.old.now in
    let new = c.args.new.now in
    let y = bytes_of old (λ i. omega (arith, c.type_inv.old i)) in
    let l = long old y c.read_as.ensures.answer c.in_ok-read.was c.book_times.ensures.0 in
    let room : length (upgraded old) ≤ length new = omega (arith, l) in
    let h = left-written new (upgraded old)
    ((upgrade-accepted old (upgraded old) (length new)).1 (held c.in_ok-read.read.book, reads old y c.read_as.ensures.answer c.in_ok-read.was, room, refl))
    l (c.put_frames.ensures ∙ stored-first new (upgraded old) room) in
    record { answer = h.0; output = h.1 }
