-- A run that is asked for, of a book that passed and of a book's bytes: which case it is, and what is answered. Assumes nothing.
use borrow.Author.Tests.{lt-ltb, le-ltb}
use mathlib.Core.Path.{◌≡◌, sym, ap, ◌∙◌}
use Prim.Native.Nat.{ℕ, ◌≤◌, ◌<◌}
use native.Mathlib.Omega.{arith}
use mathlib.Core.List.{List}
use lib.ListN.{length}
use Rattle.std.specs.Prelude.{Result, Ok, Err}
use Rattle.model.specs.declared.refusals.Refusal.{Refusal}
use Rattle.model.specs.declared.Book.{Book as BookStruct}
use Rattle.model.specs.Refusals.{number_of, detail_of}
use Rattle.laws.proofs.Answers.{accepted-as, refused-as}
use Rattle.spec.specs.Lists.{Bytes, Verdict, accepted, refused, and_then}
use Rattle.spec.specs.Book.{Book, train_at}
use Rattle.spec.specs.Read.{read_book}
use Rattle.spec.specs.Runs.{runs_of}
use Rattle.spec.specs.Instance.{instance_of, compile, run_lists, run_at, train_length}
use Rattle.spec.specs.Held.{held, padded}
use Rattle.spec.specs.Answers.{told, accepted_as}
use Rattle.spec.specs.Library.{RunAsked, no_train, no_run, shown, run_among, run_asked, ask_run}
use Rattle.demands.proofs.Wellformed.{runs-at}
use Rattle.reader.proofs.Packing.{held-packed, trains-counted}
use Rattle.reader.specs.declared.reading.ReadBook.{ReadBook}
use Rattle.reader.specs.BookAnswers.{read_of}
use Rattle.listing.specs.Listed.{place_at, start_at}
use Rattle.tables.specs.Placed.{size_at, run_held}
use Rattle.tables.specs.Tables.{Passed}
use Rattle.tables.specs.Ready.{RunsHeld}
use Rattle.gentupag.specs.declared.answers.Run.{Run}
use Rattle.gentupag.specs.Answers.{run_answer}

-- ---- of a book

module _ (b : Book) (i r : ℕ) where
  -- the train is not there
  away : length b.trains ≤ i → run_asked b i r ≡ no_train
  unfolding run_asked
  away h = rw (le-ltb i (length b.trains) h, run_asked)

  module _ (known : i < length b.trains) {n : ℕ} (e : n ≡ (instance_of b).runs i) where
    abbrev runs : List (List ℕ)
    runs = runs_of b (train_at b i)

    many : n ≡ length runs
    unfolding instance_of compile
    many = e ∙ ap length (runs-at b i known)

    there : run_asked b i r ≡ run_among runs (train_length b i) r
    unfolding run_asked
    there = rw (lt-ltb i (length b.trains) known, run_asked)

    -- the run is not
    gone : n ≤ r → run_asked b i r ≡ no_run n
    unfolding run_among
    gone h = there ∙ rw (many, le-ltb r (length runs) (omega (arith, many)), run_among)

    -- both are
    found : r < n → run_asked b i r ≡ shown n (train_length b i) (run_at (run_lists b) i r)
    unfolding run_among run_at
    found h = there ∙ rw (many, runs-at b i known, lt-ltb r (length runs) (omega (arith, many)), run_among)

-- ---- of a book that passed

module _ (b : BookStruct) (p : Passed b) (i r : ℕ) where
  -- what is to be answered
  abbrev asked : Run
  asked = run_answer (accepted (run_asked (held b) i r))

  pub asked-away : {answer : Run} → b.train_count ≤ i → answer ≡ run_answer (accepted no_train) → answer ≡ asked
  asked-away h a =
      a ∙ ap (λ (x : RunAsked). run_answer (accepted x)) (sym (away (held b) i r (omega (arith, trains-counted p.packed))))

  module _ (known : i < b.train_count) {n : ℕ} (e : n ≡ (instance_of (held b)).runs i) where
    inside : i < length (held b).trains
    inside = omega (arith, trains-counted p.packed)

    pub asked-gone : {answer : Run} → n ≤ r → answer ≡ run_answer (accepted (no_run n)) → answer ≡ asked
    asked-gone h a = a ∙ ap (λ (x : RunAsked). run_answer (accepted x)) (sym (gone (held b) i r inside e h))

    -- by the train's table
    pub asked-found : {runs : Bytes} {place size : ℕ} {path : List ℕ} → RunsHeld (held b) i runs → r < n
        → place ≡ train_length (held b) i → size ≡ size_at runs r → path ≡ padded 16 0 (place_at runs (start_at r) size)
        → record { number = 0; detail = 0; missing = 0; runs = n; place = place; length = size; path = path } ≡ asked
    unfolding run_held
    asked-found {runs} {path = path} k h ep es er =
        let l : r < (instance_of (held b)).runs i = omega arith in
        let run = run_at (run_lists (held b)) i r in
        let whole : path ≡ padded 16 0 run =
        er ∙ ap (λ (m : ℕ). padded 16 0 (place_at runs (start_at r) m)) es ∙ ap (padded 16 0) (k.run r l) in
        rw (ep, es ∙ k.size r l, whole) (ap (λ (x : RunAsked). run_answer (accepted x)) (sym (found (held b) i r inside e h)))

-- ---- of a book's bytes

-- what is to be answered, by the verdict on the book
abbrev answered : ℕ → ℕ → Verdict Book → Run
answered i n v = run_answer (and_then v λ b. accepted (run_asked b i n))

module _ (bytes : Bytes) (i n : ℕ) {r : Result ReadBook Refusal} (e : told r ≡ accepted_as read_of (read_book bytes)) where
  pub asked-on : {x : ReadBook} {answer : Run} → r ≡ Ok x → answer ≡ run_answer (accepted (run_asked (held x.book) i n))
      → answer ≡ run_answer (ask_run bytes i n)
  unfolding ask_run and_then
  asked-on is a =
      let f = accepted-as {v = read_book bytes} read_of e is in
      a
      ∙ ap (λ (b : Book). run_answer (accepted (run_asked b i n))) (ap (λ (y : ReadBook). held y.book) f.2 ∙ held-packed f.0)
      ∙ ap (answered i n) (sym f.1)

  pub asked-stopped : {d : Refusal} → r ≡ Err d → run_answer (refused (number_of d) (detail_of d)) ≡ run_answer (ask_run bytes i n)
  unfolding ask_run and_then
  asked-stopped is = ap (answered i n) (sym (refused-as read_of e is))
