-- The book's own refusals, 10 and 11: what the code's tests of the trains say in the specification's words, and what the answer is
-- where each test stands. Assumes nothing.
use mathlib.Core.Path.{◌≡◌, refl, sym, ap, ◌∙◌}
use mathlib.Core.Bool.{Bool, true, false, not, ◌||◌, not-not}
use mathlib.Core.Option.{none, some}
use Prim.Native.Nat.{ℕ, ◌+◌, ◌<◌, min}
use native.Mathlib.Omega.{arith}
use mathlib.Core.List.{List, [], ◌∷◌, map}
use lib.ListN.{length, take, get_or, length-map, get_or-append}
use lib.Seq.{ext_get_or}
use lib.Dec.{ltb, leb, eqb}
use Rattle.std.specs.List.{list_all}
use Rattle.std.proofs.lemmas.Bool.Decides.{nat_tests}
use Rattle.laws.proofs.Arrays.{take-padded-at}
use Rattle.laws.proofs.Tests.{ltb_iff, bool-ext, empty-length}
use Rattle.laws.proofs.Rows.{any-map}
use Rattle.laws.proofs.Parts.{length-up_to, map_at, map_same}
use Rattle.model.specs.declared.Book.{Book as BookStruct}
use Rattle.spec.specs.Lists.{any, up_to, empty, ◌when◌, first_fault, one, Verdict, accepted, refused}
use Rattle.spec.specs.Book.{Book, calls_of, train_at}
use Rattle.spec.specs.Runs.{runs_of}
use Rattle.spec.specs.Read.{book_faults, refuse_or, max_runs}
use Rattle.spec.specs.Answers.{accepted_as}
use Rattle.spec.specs.Held.{held, padded}
use Rattle.reader.specs.Added.{Packed}
use Rattle.listing.specs.Listed.{count_after, runs_at, run_counts}
use Rattle.demands.proofs.Wellformed.{runs-at}
use Rattle.reader.proofs.FrameTests.{fault-here, fault-next}
use Rattle.reader.specs.declared.reading.ReadBook.{ReadBook}
use Rattle.reader.specs.BookAnswers.{read_of}

-- ---- rows

pub empty-counted {ℓ} : {A : Type ℓ} (xs : List A) (n : ℕ) → length xs ≡ n → empty xs ≡ eqb n 0
empty-counted xs n e = empty-length xs ∙ ap (λ (m : ℕ). eqb m 0) e

-- one of two tests holds, by what is known of the second
pub or-second : (a : Bool) {b : Bool} → b ≡ true → (a || b) ≡ true
or-second true e = refl
or-second false e = e

pub or-first : (a : Bool) {b : Bool} → b ≡ false → (a || b) ≡ a
or-first true e = refl
or-first false e = e

pub not-of : {b c : Bool} → b ≡ not c → c ≡ not b
not-of {b} {c} e = sym (ap not e ∙ not-not c)

-- ---- the counts of runs

-- an element by its place
any_at {ℓ} : {A : Type ℓ} (f : A → Bool) (d : A) (xs : List A) → any f xs ≡ any (λ i. f (get_or xs i d)) (up_to (length xs))
any_at {A = A} f d xs =
    let at : ℕ → A = λ i. get_or xs i d in
    let n = length xs in
    ap (any f)
    (sym
    (ext_get_or d (map at (up_to n)) xs (length-map (up_to n) at ∙ length-up_to n)
    (λ i h. map_at at n i d (omega (arith, length-map (up_to n) at, length-up_to n)))))
    ∙ any-map f at (up_to n)

any_same : (f g : ℕ → Bool) (n : ℕ) → ((i : ℕ) → i < n → f i ≡ g i) → any f (up_to n) ≡ any g (up_to n)
any_same f g n h =
    sym (any-map (λ t. t) f (up_to n)) ∙ ap (any (λ t. t)) (map_same f g n h) ∙ any-map (λ t. t) g (up_to n)

-- the count, which goes as far as 257, is over 256 exactly where there are more runs
count-over : (runs : List (List ℕ)) → ltb 256 (count_after 0 runs) ≡ ltb max_runs (length runs)
unfolding count_after
count-over runs =
    let n = length runs in
    bool-ext (ltb 256 (min 257 (0 + n))) (ltb 256 n)
    (λ h. let k = (ltb_iff 256 (min 257 (0 + n))).0 h in (ltb_iff 256 n).1 (omega arith))
    (λ h. let k = (ltb_iff 256 n).0 h in (ltb_iff 256 (min 257 (0 + n))).1 (omega arith))

-- a train's count
pub count_at : (b : Book) (i : ℕ) → i < length b.trains → get_or (run_counts b) i 0 ≡ count_after 0 (runs_at b i)
unfolding run_counts padded
count_at b i l =
    let n = length b.trains in
    let counted : ℕ → ℕ = λ i. count_after 0 (runs_at b i) in
    get_or-append (map counted (up_to n)) _ 0 i (omega (arith, length-map (up_to n) counted, length-up_to n)) ∙ map_at counted n i 0 l

-- no count is over 256 exactly where no train has more runs
none-over : (counts : List ℕ) → list_all (λ n. leb n 256) counts ≡ not (any (ltb 256) counts)
unfolding any
none-over [] = refl
none-over (n ∷ ns) = grind (arith, nat_tests, none-over ns)

pub counts-fit : (b : Book)
    → list_all (λ n. leb n 256) (take (length b.trains) (run_counts b)) ≡ not (any (λ t. ltb max_runs (length (runs_of b t))) b.trains)
unfolding run_counts runs_at train_at
counts-fit b =
    let n = length b.trains in
    let counted : ℕ → ℕ = λ i. count_after 0 (runs_at b i) in
    let counts : take n (run_counts b) ≡ map counted (up_to n) = take-padded-at 8 n 0 (map counted (up_to n)) (length-map (up_to n) counted ∙ length-up_to n) in
    none-over (take n (run_counts b))
    ∙ ap not (
    ap (any (ltb 256)) counts
    ∙ any-map (ltb 256) counted (up_to n)
    ∙ any_same _ _ n (λ i l. count-over (runs_at b i) ∙ ap (λ (runs : List (List ℕ)). ltb max_runs (length runs)) (runs-at b i l))
    ∙ sym (any_at (λ t. ltb max_runs (length (runs_of b t))) _ b.trains)
    )

-- ---- the answer

-- the conditions of the two refusals
abbrev pub lacks : Book → Bool
lacks b = empty b.trains || any (λ i. empty (calls_of b i)) (up_to (length b.trains))

abbrev pub overs : Book → Bool
overs b = any (λ t. ltb max_runs (length (runs_of b t))) b.trains

module _ (b : Book) where
  first-lacks : lacks b ≡ true → first_fault (book_faults b) ≡ some 10
  unfolding book_faults
  first-lacks e = fault-here 10 (lacks b) _ e

  first-overs : lacks b ≡ false → overs b ≡ true → first_fault (book_faults b) ≡ some 11
  unfolding book_faults
  first-overs e f = fault-next 10 (lacks b) _ e ∙ fault-here 11 (overs b) _ f

  first-none : lacks b ≡ false → overs b ≡ false → first_fault (book_faults b) ≡ none
  unfolding book_faults first_fault
  first-none e f = fault-next 10 (lacks b) (one (11 when overs b)) e ∙ fault-next 11 (overs b) [] f

-- what reading answers then
abbrev ended : BookStruct → Verdict ReadBook
ended b = accepted_as read_of (refuse_or (first_fault (book_faults (held b))) (held b))

module _ (b : BookStruct) where
  pub ends-lacking : lacks (held b) ≡ true → refused 10 0 ≡ ended b
  unfolding refuse_or
  ends-lacking e = rw (first-lacks (held b) e) refl

  pub ends-over : lacks (held b) ≡ false → overs (held b) ≡ true → refused 11 0 ≡ ended b
  unfolding refuse_or
  ends-over e f = rw (first-overs (held b) e f) refl

  pub ends-fine : Packed b → lacks (held b) ≡ false → overs (held b) ≡ false → accepted (record { book = b; counts = run_counts (held b) }) ≡ ended b
  unfolding refuse_or
  ends-fine w e f =
      rw (first-none (held b) e f) (λ i. accepted (record { book = w.same i; counts = run_counts (held b) }))
