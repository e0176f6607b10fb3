-- The reader on its way through a file: what it holds is the struct of a book that the file leads to (`OnWay`). Each answer of a
-- step then decides the file, or leads on. Assumes nothing.
use mathlib.Core.Path.{◌≡◌, refl, sym, ap, ◌∙◌, subst}
use mathlib.Core.Logic.{◌≢◌}
use mathlib.Core.Bool.{true, not}
use mathlib.Core.Option.{none}
use Prim.Native.Nat.{ℕ, suc, ◌≤◌, ◌<◌}
use native.Mathlib.Omega.{arith}
use mathlib.Core.List.{[], ◌∷◌}
use lib.ListN.{length, get_or, drop, length-drop}
use lib.Dec.{T, ltb, T_not}
use Rattle.model.specs.declared.Book.{Book as BookStruct}
use Rattle.laws.proofs.Tests.{and-iff, leb-iff, ltb_iff, from-true, eqb-iff}
use Rattle.laws.proofs.Numbers.{bytes}
use Rattle.laws.proofs.Frames.{whole-iff}
use Rattle.spec.specs.Lists.{Bytes, all, refused, first_fault}
use Rattle.spec.specs.Frames.{Format, kind_field, behind, kind_number}
use Rattle.spec.specs.Book.{Book, no_book}
use Rattle.spec.specs.BookFile.{FitsFields}
use Rattle.spec.specs.Read.{growing, Reading, reading_start, frame_faults, book_faults, refuse_or, is_end, past_frame, read_as, head_fits, between, out_of_order, max_intervals}
use Rattle.spec.specs.Held.{held, packed}
use Rattle.demands.proofs.Faults.{first-none}
use Rattle.spec.specs.Reached.{Reached, at_start, behind_head}
use Rattle.demands.proofs.Growing.{Few, Growing, growing-parts}
use Rattle.demands.proofs.Reading.{ReadsTo, start, reached, fine}
use Rattle.demands.proofs.Exact.{reads_fit}
use Rattle.reader.specs.Added.{Packed}
use Rattle.reader.proofs.Packing.{held-packed, packed-fits}
use Rattle.reader.proofs.Calls.{calls-fit}
use Rattle.frames.proofs.Order.{not_first}
use Rattle.std.specs.Prelude.{Some, None, Result, Ok, Err}
use Rattle.std.specs.Prelude.{Option as CodeOption}
use Rattle.model.specs.declared.refusals.Refusal.{Refusal}
use Rattle.model.specs.Refusals.{number_of, detail_of}
use Rattle.spec.specs.Answers.{told}
use Rattle.reader.specs.declared.reading.Reading.{Reading as Place}
use Rattle.reader.specs.BookAnswers.{stepped_at}
use Rattle.reader.proofs.FrameTests.{order-by}
use Rattle.reader.proofs.ByKind.{growing-calls}
use Rattle.reader.proofs.Steps.{step-refuses, step-ends, step-goes, stopped-reads, ended-reads, goes-way}

-- a slice of bytes
pub bytes_of : (s : Bytes) → ((i : ℕ) → get_or s i 0 < 256) → T (bytes s)
unfolding all
bytes_of [] h = tt
bytes_of (x ∷ xs) h = (and-iff (ltb x 256) (all (λ x. ltb x 256) xs)).1 ((ltb_iff x 256).1 (h 0), bytes_of xs (λ i. h (suc i)))

-- ---- what holds wherever the reader comes

-- T is small
few-intervals : (b : Book) → Growing b → b.intervals < 65536
unfolding head_fits between
few-intervals b g = let h = (leb-iff b.intervals max_intervals).0 (simp and-iff at g.head).1.1 in omega arith

-- the struct of a book as far as it was read holds it
packed-reached : (r : Reading) → Reached r → (r.last ≢ 0 → FitsFields r.book) → Packed (packed r.book)
unfolding Few no_book
packed-reached r (at_start l e) f =
    subst (λ (b : Book). Packed (packed b)) (sym e)
    (packed-fits no_book (omega arith) (omega arith) (omega arith) (omega arith) (omega arith) (omega arith) (omega arith) (omega arith))
packed-reached r (behind_head l t) f =
    let g = growing-parts r.book t in
    packed-fits r.book g.nodes.0 g.segments.0 g.joins.0 g.trains.0 (calls-fit r.book (growing-calls r.book t))
    (f l).metres (f l).seconds (few-intervals r.book g)

-- no End is in order before the Head
no_end : {X : Type 0} (last : ℕ) (s : Bytes) → last ≡ 0 → is_end (kind_field s) ≡ true → T (not (out_of_order last s)) → X
unfolding is_end kind_number
no_end last s l e o =
    let k = (eqb-iff (kind_field s) 8).0 (from-true e) in
    let h : kind_field s ≢ 1 = omega arith in
    absurd (T_not (out_of_order last s) o (from-true (order-by last s ∙ sym (not_first last (kind_field s) (length (behind s)) l h))))

-- the reader is on its way
pub record OnWay (F : Format) (s : Bytes) (r : Place) : Type 0 where
  pub reading : Reading
  pub same : r.book ≡ packed reading.book
  pub rank_is : r.last ≡ reading.last
  pub inside : r.at ≤ length s
  pub is_bytes : T (bytes s)
  pub small : F.greatest_t ≤ max_intervals
  pub way : ReadsTo F s reading (drop r.at s)

pub way-start : (F : Format) (s : Bytes) {book : BookStruct} → F.greatest_t ≤ max_intervals → T (bytes s) → book ≡ packed no_book
    → OnWay F s (record { book = book; last = 0; at = 0 })
unfolding reading_start
way-start F s m y e = record { reading = reading_start; same = e; rank_is = refl; inside = omega arith; is_bytes = y; small = m; way = start }

module _ {F : Format} {s : Bytes} {r : Place} (w : OnWay F s r) where
  -- the reading there, by the struct
  pub here-is : ◌≡◌ {A = Reading} (record { last = r.last; book = held r.book }) w.reading
  here-is =
      let b = ap held w.same ∙ held-packed w.reading.book in
      λ i. record { last = w.rank_is i; book = b i }

  -- what a step asks
  pub way-packed : Packed r.book
  way-packed = subst Packed (sym w.same) (packed-reached w.reading (reached F w.small w.way) (reads_fit F w.is_bytes w.way))

  pub way-reached : Reached (record { last = r.last; book = held r.book })
  way-reached = subst Reached (sym here-is) (reached F w.small w.way)

  module _ (st : Result (CodeOption Place) Refusal)
      (answer : told st ≡ stepped_at F (record { last = r.last; book = held r.book }) (drop r.at s) r.at) where
    by-reading : told st ≡ stepped_at F w.reading (drop r.at s) r.at
    by-reading = answer ∙ ap (λ (x : Reading). stepped_at F x (drop r.at s) r.at) here-is

    pub way-stop : {e : Refusal} → st ≡ Err e → read_as F s ≡ refused (number_of e) (detail_of e)
    way-stop {e} is =
        let h = step-refuses F w.reading (drop r.at s) r.at by-reading (ap told is) in
        stopped-reads F s w.reading r.at w.way (number_of e) h.0 ∙ ap (refused (number_of e)) (sym h.1)

    at-end : st ≡ Ok None → (first_fault (frame_faults F w.reading (drop r.at s)) ≡ none) × (is_end (kind_field (drop r.at s)) ≡ true)
    at-end is = step-ends F w.reading (drop r.at s) r.at by-reading (ap told is)

    pub way_end : st ≡ Ok None → read_as F s ≡ refuse_or (first_fault (book_faults (held r.book))) (held r.book)
    way_end is =
        ended-reads F s w.reading r.at w.way (at-end is).0 (at-end is).1
        ∙ ap (λ (x : Reading). refuse_or (first_fault (book_faults x.book)) x.book) (sym here-is)

    -- the End stands behind the Head
    way-growing : st ≡ Ok None → (w.reading.last ≢ 0) × T (growing w.reading.book)
    way-growing is = go (reached F w.small w.way)
      where
        go : Reached w.reading → (w.reading.last ≢ 0) × T (growing w.reading.book)
        go (at_start l n) =
            let f = fine F w.reading (drop r.at s) (first-none _ (at-end is).0) in
            no_end w.reading.last (drop r.at s) l (at-end is).1 f.in_order
        go (behind_head l g) = (l, g)

    pub way-more : {next : Place} → st ≡ Ok (Some next) → OnWay F s next × (r.at < next.at)
    unfolding past_frame
    way-more {next} is =
        let m = step-goes F w.reading (drop r.at s) r.at by-reading (ap told is) in
        let to = ap (λ (x : Place). x.at) m.2 in
        let f = fine F w.reading (drop r.at s) (first-none _ m.0) in
        let k = (whole-iff (drop r.at s)).0 f.whole in (
          record {
            reading = past_frame F w.reading (drop r.at s);
            same = ap (λ (x : Place). x.book) m.2;
            rank_is = ap (λ (x : Place). x.last) m.2;
            inside = omega (arith, k, to, length-drop r.at s, w.inside);
            is_bytes = w.is_bytes;
            small = w.small;
            way = subst (λ (n : ℕ). ReadsTo F s (past_frame F w.reading (drop r.at s)) (drop n s)) (sym to)
                (goes-way F s w.reading r.at w.way m.0 m.1);
          },
          omega (arith, to),
        )

    -- what the book's own refusals ask, at the End
    pub way-finish : st ≡ Ok None → Packed r.book × T (growing (held r.book)) × FitsFields (held r.book)
    way-finish is =
        let g = way-growing is in (
          way-packed,
          subst (λ (x : Reading). T (growing x.book)) (sym here-is) g.1,
          subst (λ (x : Reading). FitsFields x.book) (sym here-is) (reads_fit F w.is_bytes w.way g.0),
        )
