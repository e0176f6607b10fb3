-- An old book rewritten in the format in force: it is the new file of the same book (`upgraded-file`), so it is read as the book
-- that the old one was read as (`upgraded-read`), with the same formula (`upgraded-formula`), which is what the entry point writes
-- (`upgrade-keeps`); what is refused is refused for the old reader's reason, or by 12 (`upgrade-refused`); and each format refuses the
-- other's books by 4 at the Head (`old-head-refused`, `new-head-refused`). Assumes nothing.
use mathlib.Core.Path.{◌≡◌, refl, sym, ap, ap₂, ◌∙◌}
use mathlib.Core.Logic.{◌≢◌, ◌↔◌, ◌⊎◌, inl, inr}
use mathlib.Core.Bool.{Bool, true, false, ◌&&◌}
use mathlib.Core.Option.{Option, some}
use Prim.Native.Nat.{ℕ, ◌+◌, ◌*◌, ◌^◌, ◌≤◌, ◌<◌}
use native.Mathlib.Omega.{arith}
use mathlib.Core.List.{List, ◌++◌}
use lib.ListN.{length}
use lib.Dec.{T, leb, eqb, nleb→lt, T_not}
use Rattle.spec.specs.Lists.{Bytes, any, first_fault, Verdict, accepted, refused, and_then}
use Rattle.spec.specs.Numbers.{field}
use Rattle.spec.specs.Frames.{Format, book_format, old_format, frame, cut_short, head_kind, train_kind, call_kind, kind_number, kind_order, find_kind, rank_in, rank, length_fits}
use Rattle.spec.specs.Book.{Book}
use Rattle.spec.specs.Read.{frame_faults, kind_faults, out_of_order, unknown_kind, is_head, is_end, reading_start, read_as, read_book}
use Rattle.spec.specs.BookFile.{head_payload, frames_then, book_file}
use Rattle.spec.specs.Instance.{instance_of, under}
use Rattle.spec.specs.Entry.{demand, written_for, write_formula, overwrite, written}
use Rattle.spec.specs.Upgrade.{upgraded, upgrade_book, upgrade_output}
use Rattle.laws.proofs.Tests.{eqb-iff, leb-iff, false_of, denied-of, from-true, from-denied}
use Rattle.laws.proofs.Numbers.{bytes}
use Rattle.laws.proofs.Frames.{payload_of-frame, kind_field-frame, whole-frame}
use Rattle.demands.proofs.Wellformed.{parts}
use Rattle.demands.proofs.Faults.{first_some}
use Rattle.demands.proofs.Entries.{accepted≢refused, then-goes, read-instance}
use Rattle.demands.proofs.Reading.{start, frame as frame', read-iff, as-iff, as-refused}
use Rattle.demands.proofs.Reasons.{Within, as_number}
use Rattle.demands.specs.Claims.{Holds}
use Rattle.demands.proofs.Exact.{as-exact}
use Rattle.demands.proofs.Widening.{WithTimes, file-rewritten}
use Rattle.demands.proofs.Building.{Apt, read-built, head-length}

-- a Head of another length, by the table of a format
wrong-head : (f : Format) (p rest : Bytes) → length p < 256 ^ 2 → length p ≢ 4 + f.time_width
    → first_fault (frame_faults f reading_start (frame (kind_number head_kind) p ++ rest)) ≡ some 4
unfolding frame_faults out_of_order kind_faults first_fault reading_start is_head is_end kind_number length_fits rank rank_in kind_order find_kind unknown_kind any
wrong-head f p rest m l =
    let z : eqb (length p) (4 + f.time_width) ≡ false = false_of _ (λ t. l ((eqb-iff _ _).0 t)) in
    rw (
      denied-of (cut_short (frame 1 p ++ rest)) (whole-frame 1 p rest (omega arith) m),
      kind_field-frame 1 p rest (omega arith) m,
      payload_of-frame 1 p rest (omega arith) m,
      z,
    )
    refl

-- "Head payloads are now 6 bytes, train payloads 7 + n, call payloads 6": n is the byte behind the departure.
pub lengths-now : (p : Bytes)
    → (length_fits book_format head_kind p ≡ eqb (length p) 6)
    × (length_fits book_format train_kind p ≡ (leb 7 (length p) && eqb (length p) (7 + field p 6 1)))
    × (length_fits book_format call_kind p ≡ eqb (length p) 6)
unfolding length_fits
lengths-now p = (refl, refl, refl)

-- ---- from arbitrary bytes

pub old-apt : Apt old_format
old-apt = record { within = omega arith; fits = omega arith; narrow = omega arith }

-- An old book that is read is the old file of that book, and rewritten it is the new file of the same book.
pub upgraded-file : (s : Bytes) (b : Book) → T (bytes s) → read_as old_format s ≡ accepted b
    → (ttds : List ℕ) × (s ≡ book_file old_format b ttds) × (upgraded s ≡ book_file book_format b ttds)
upgraded-file s b y e =
    let h = (as-exact old_format s b old-apt y).0 e in
    (h.0, h.1, ap upgraded h.1 ∙ (file-rewritten b (parts b h.2) h.5 h.0).same)

-- Its frames have their times, and the rewritten one has a byte more for each time of the old one.
pub upgraded-frames : (s : Bytes) (b : Book) → T (bytes s) → read_as old_format s ≡ accepted b
    → WithTimes s × (length (upgraded s) ≡ length s + (1 + (length b.trains + 2 * length b.calls)))
upgraded-frames s b y e =
    let h = (as-exact old_format s b old-apt y).0 e in
    let r = file-rewritten b (parts b h.2) h.5 h.0 in
    rw h.1 (r.framed, ap length r.same ∙ r.longer)

-- "every time must read as the number it was": a rewritten book is read, and is the old book number for number
pub upgraded-read : (s : Bytes) (b : Book) → T (bytes s) → read_as old_format s ≡ accepted b → read_book (upgraded s) ≡ accepted b
upgraded-read s b y e =
    let h = (as-exact old_format s b old-apt y).0 e in
    ap read_book (ap upgraded h.1 ∙ (file-rewritten b (parts b h.2) h.5 h.0).same) ∙ read-built b h.0 h.2 h.3 h.4

-- "the rewritten book must have the same formula, clause for clause, as the old one had": under every cap, and without one
pub upgraded-formula : (cap : Option ℕ) (s : Bytes) (b : Book) (n : ℕ) → T (bytes s) → read_as old_format s ≡ accepted b
    → write_formula cap (upgraded s) n ≡ written_for (under cap (instance_of b)) n
unfolding write_formula
upgraded-formula cap s b n y e = then-goes _ (read-instance cap (upgraded s) b (upgraded-read s b y e))

-- The rewriter accepts exactly where the old reader does and the output has room, and then writes the rewritten book.
pub upgrade-accepted : (s t : Bytes) (n : ℕ)
    → (upgrade_book s n ≡ accepted t) ↔ ((b : Book) × (read_as old_format s ≡ accepted b) × (length (upgraded s) ≤ n) × (t ≡ upgraded s))
unfolding upgrade_book and_then demand
upgrade-accepted s t n = go (read_as old_format s) (leb (length (upgraded s)) n) refl refl
  where
    go : (v : Verdict Book) (r : Bool) → read_as old_format s ≡ v → leb (length (upgraded s)) n ≡ r
        → ((and_then v λ _. and_then (demand r 12) λ _. accepted (upgraded s)) ≡ accepted t)
        ↔ ((b : Book) × (read_as old_format s ≡ accepted b) × (length (upgraded s) ≤ n) × (t ≡ upgraded s))
    go (accepted b) true e f = (λ h. (b, e, (leb-iff _ _).0 (from-true f), cc), λ h. ap accepted (sym h.3))
    go (accepted b) false e f =
        (λ h. accepted≢refused (sym h), λ h. absurd (T_not (leb (length (upgraded s)) n) (from-denied f) ((leb-iff _ _).1 h.2)))
    go (refused k d) r e f = (λ h. accepted≢refused (sym h), λ h. accepted≢refused (sym h.1 ∙ e))

-- What it writes: from any bytes, where the entry point accepts, they are the old file of a book, and the output is the new file of
-- the same book, with the same formula whatever cap and room it is given.
pub upgrade-keeps : (s t : Bytes) (n : ℕ) → T (bytes s) → upgrade_book s n ≡ accepted t
    → (b : Book) × (ttds : List ℕ) × (s ≡ book_file old_format b ttds) × (t ≡ book_file book_format b ttds)
    × (read_as old_format s ≡ accepted b) × (read_book t ≡ accepted b)
    × ((cap : Option ℕ) (m : ℕ) → write_formula cap t m ≡ written_for (under cap (instance_of b)) m)
upgrade-keeps s t n y e =
    let a = (upgrade-accepted s t n).0 e in
    let f = upgraded-file s a.0 y a.1 in (
      a.0,
      f.0,
      f.1,
      a.3 ∙ f.2,
      a.1,
      ap read_book a.3 ∙ upgraded-read s a.0 y a.1,
      λ cap m. ap (λ (u : Bytes). write_formula cap u m) a.3 ∙ upgraded-formula cap s a.0 m y a.1,
    )

-- It refuses exactly where the old reader does, with its number and detail, or by 12 where the output is too short.
pub upgrade-refused : (s : Bytes) (n k d : ℕ)
    → (upgrade_book s n ≡ refused k d)
    ↔ ((read_as old_format s ≡ refused k d)
    ⊎ ((b : Book) × (read_as old_format s ≡ accepted b) × (n < length (upgraded s)) × (k ≡ 12) × (d ≡ 0)))
unfolding upgrade_book and_then demand
upgrade-refused s n k d = go (read_as old_format s) (leb (length (upgraded s)) n) refl refl
  where
    go : (v : Verdict Book) (r : Bool) → read_as old_format s ≡ v → leb (length (upgraded s)) n ≡ r
        → ((and_then v λ _. and_then (demand r 12) λ _. accepted (upgraded s)) ≡ refused k d)
        ↔ ((read_as old_format s ≡ refused k d)
        ⊎ ((b : Book) × (read_as old_format s ≡ accepted b) × (n < length (upgraded s)) × (k ≡ 12) × (d ≡ 0)))
    go (accepted b) true e f = (
      λ h. accepted≢refused h,
      λ h. elim h [
        | inl r ↦ accepted≢refused (sym e ∙ r)
        | inr r ↦ (let l = (leb-iff (length (upgraded s)) n).0 (from-true f) in absurd (omega (arith, l, r.2)))
      ],
    )
    go (accepted b) false e f = (
      λ h. inr (b, e, nleb→lt _ _ (from-denied f), (cc), (cc)),
      λ h. elim h [ inl r ↦ accepted≢refused (sym e ∙ r) | inr r ↦ rw (r.3, r.4) refl ],
    )
    go (refused m f) r e g = (
      λ h. let a : m ≡ k = cc in let c : f ≡ d = cc in inl (e ∙ ap₂ refused a c),
      λ h. elim h [
        | inl q ↦ (let z = sym e ∙ q in let a : m ≡ k = cc in let c : f ≡ d = cc in ap₂ refused a c)
        | inr q ↦ accepted≢refused (sym q.1 ∙ e)
      ],
    )

-- "outputs untouched": what the caller's slice holds after the call
pub upgrade-output : (old out : Bytes) → Holds (upgrade_book old (length out)) (λ t. t) out (upgrade_output old out)
unfolding upgrade_output overwrite written
upgrade-output old out = (
  λ t e. (let h = (upgrade-accepted old t (length out)).0 e in (rw h.3 h.2, ap (λ v. overwrite out (written v)) e)),
  λ n d e. ap (λ v. overwrite out (written v)) e,
)

-- It refuses by 1 to 12, with detail 0.
pub upgrade-number : (s : Bytes) (n k d : ℕ) → upgrade_book s n ≡ refused k d → Within 1 12 k × (d ≡ 0)
upgrade-number s n k d e =
    elim ((upgrade-refused s n k d).0 e) [
      | inl h ↦ (let r = as_number old_format s k d h in ((omega arith, omega arith), (as-refused old_format s k d h).0))
      | inr h ↦ ((omega (arith, h.3), omega (arith, h.3)), h.4)
    ]

-- ---- each format refuses the other's Head

-- "An old book is refused by 4 at its Head": whatever stands behind the Head, and whether or not the old reader would take the rest
pub old-head-refused : (p rest : Bytes) → length p ≡ 5 → read_book (frame (kind_number head_kind) p ++ rest) ≡ refused 4 0
old-head-refused p rest l =
    (read-iff _ (refused 4 0)).1
    (reading_start, _, start, frame' 4 (first_some 4 _ (wrong-head book_format p rest (omega arith) (omega arith))) refl)

-- so every book that the old reader reads
pub old-refused : (s : Bytes) (b : Book) → T (bytes s) → read_as old_format s ≡ accepted b → read_book s ≡ refused 4 0
unfolding book_file frames_then
old-refused s b y e =
    let h = upgraded-file s b y e in
    ap read_book h.1 ∙ old-head-refused (head_payload old_format b) _ (head-length old_format b)

-- and a new book is refused so by the rewriter
pub new-head-refused : (p rest : Bytes) (n : ℕ) → length p ≡ 6 → upgrade_book (frame (kind_number head_kind) p ++ rest) n ≡ refused 4 0
new-head-refused p rest n l =
    (upgrade-refused _ n 4 0).1
    (inl
    ((as-iff old_format _ (refused 4 0)).1
    (reading_start, _, start, frame' 4 (first_some 4 _ (wrong-head old_format p rest (omega arith) (omega arith))) refl)))
