-- What one step's answer says of the frame, and what it means for the whole file: the verdict where reading stops, and where
-- it goes on the next place on the way. Assumes nothing.
use mathlib.Core.Path.{◌≡◌, refl, sym, subst, ◌∙◌}
use mathlib.Core.Bool.{Bool, true, false}
use mathlib.Core.Option.{Option, none, some}
use Prim.Native.Nat.{ℕ, ◌+◌}
use lib.ListN.{drop}
use lib.Seq.{drop-drop}
use Rattle.laws.proofs.Tests.{from-true, from-denied}
use Rattle.spec.specs.Lists.{Bytes, Verdict, accepted, refused, first_fault}
use Rattle.spec.specs.Frames.{Format, cut_short, kind_field, payload_length, behind, rank}
use Rattle.spec.specs.Read.{Reading, frame_faults, book_faults, refuse_or, is_end, past_frame, read_as}
use Rattle.spec.specs.Held.{packed}
use Rattle.demands.proofs.Faults.{first-none, first_some}
use Rattle.demands.proofs.Reading.{ReadsTo, next, frame, book, pass, goes-iff, as-iff}
use Rattle.std.specs.Prelude.{Some, None}
use Rattle.std.specs.Prelude.{Option as CodeOption}
use Rattle.reader.specs.declared.reading.Reading.{Reading as Place}
use Rattle.reader.specs.BookAnswers.{reading_behind, stepped_at}
use Rattle.frames.specs.Framed.{framed_at, whole_or}
use Rattle.frames.specs.declared.Frame.{Frame}

-- a refusal is the first fault's
pub stop-of : {A : Type 0} (o : Option ℕ) (a : A) {n d : ℕ} → refuse_or o a ≡ refused n d → (o ≡ some n) × (d ≡ 0)
unfolding refuse_or
stop-of (some m) a e = (cc, cc)
stop-of none a e = (cc, cc)

-- and what is accepted has none
goes-of : {A : Type 0} (o : Option ℕ) (a : A) {x : A} → refuse_or o a ≡ accepted x → (o ≡ none) × (a ≡ x)
unfolding refuse_or
goes-of (some m) a e = (cc, cc)
goes-of none a e = (refl, cc)

-- What an answer at a place says of the first fault there, and of the End.
module _ (F : Format) (r : Reading) (s : Bytes) (at : ℕ) where
  -- at the End
  behind_end : (b : Bool) → reading_behind F b r s at ≡ None → b ≡ true
  behind_end true e = refl
  behind_end false e = cc

  -- further on
  behind-more : (b : Bool) {x : Place} → reading_behind F b r s at ≡ Some x
      → (b ≡ false) × (x ≡ record { book = packed (past_frame F r s).book; last = rank (kind_field s); at = at + (4 + payload_length s) })
  behind-more true e = (cc, cc)
  behind-more false e = (refl, cc)

  module _ {v : Verdict (CodeOption Place)} (e : v ≡ stepped_at F r s at) where
    pub step-refuses : {n d : ℕ} → v ≡ refused n d → (first_fault (frame_faults F r s) ≡ some n) × (d ≡ 0)
    unfolding stepped_at
    step-refuses f = stop-of _ _ (sym e ∙ f)

    pub step-ends : v ≡ accepted None → (first_fault (frame_faults F r s) ≡ none) × (is_end (kind_field s) ≡ true)
    unfolding stepped_at
    step-ends f = let g = goes-of _ _ (sym e ∙ f) in (g.0, behind_end _ g.1)

    pub step-goes : {x : Place} → v ≡ accepted (Some x)
        → (first_fault (frame_faults F r s) ≡ none) × (is_end (kind_field s) ≡ false)
        × (x ≡ record { book = packed (past_frame F r s).book; last = rank (kind_field s); at = at + (4 + payload_length s) })
    unfolding stepped_at
    step-goes f = let g = goes-of _ _ (sym e ∙ f) in let h = behind-more _ g.1 in (g.0, h.0, h.1)

-- ---- the whole file

module _ (F : Format) (s : Bytes) (r : Reading) (at : ℕ) (way : ReadsTo F s r (drop at s)) where
  -- where reading stops, the file is refused
  pub stopped-reads : (n : ℕ) → first_fault (frame_faults F r (drop at s)) ≡ some n → read_as F s ≡ refused n 0
  stopped-reads n e = (as-iff F s (refused n 0)).1 (r, drop at s, way, frame n (first_some n _ e) refl)

  -- at the End, the book's own refusals decide
  pub ended-reads : first_fault (frame_faults F r (drop at s)) ≡ none → is_end (kind_field (drop at s)) ≡ true
      → read_as F s ≡ refuse_or (first_fault (book_faults r.book)) r.book
  unfolding refuse_or
  ended-reads e f = go (first_fault (book_faults r.book)) refl
    where
      go : (o : Option ℕ) → first_fault (book_faults r.book) ≡ o → read_as F s ≡ refuse_or o r.book
      go (some n) g =
          (as-iff F s (refused n 0)).1 (r, drop at s, way, book n (first-none _ e) (from-true f) (first_some n _ g) refl)
      go none g =
          (as-iff F s (accepted r.book)).1 (r, drop at s, way, pass (first-none _ e) (from-true f) (first-none _ g) refl)

  -- further on, the next place is on the way
  pub goes-way : first_fault (frame_faults F r (drop at s)) ≡ none → is_end (kind_field (drop at s)) ≡ false
      → ReadsTo F s (past_frame F r (drop at s)) (drop (at + (4 + payload_length (drop at s))) s)
  unfolding behind
  goes-way e f =
      subst (ReadsTo F s (past_frame F r (drop at s))) (drop-drop (4 + payload_length (drop at s)) at s)
      (next way ((goes-iff F r (drop at s) _ _).1
      (record { clear = first-none _ e; not_end = from-denied f; reading = refl; rest = refl })))

-- ---- one step's answer

module _ (F : Format) (r : Reading) (t : Bytes) (at : ℕ) where
  pub step-stop : (n : ℕ) → first_fault (frame_faults F r t) ≡ some n → refused n 0 ≡ stepped_at F r t at
  unfolding stepped_at refuse_or
  step-stop n e = rw e refl

  pub step_end : first_fault (frame_faults F r t) ≡ none → is_end (kind_field t) ≡ true → accepted None ≡ stepped_at F r t at
  unfolding stepped_at refuse_or
  step_end e f = rw (e, f) refl

  pub step-more : first_fault (frame_faults F r t) ≡ none → is_end (kind_field t) ≡ false
      → accepted (Some (record { book = packed (past_frame F r t).book; last = rank (kind_field t); at = at + (4 + payload_length t) })) ≡ stepped_at F r t at
  unfolding stepped_at refuse_or
  step-more e f = rw (e, f) refl

-- what a whole frame's answer says of the bytes
pub whole_says : (t : Bytes) {f : Frame} → framed_at t ≡ Some f → (cut_short t ≡ false) × (kind_field t ≡ f.kind) × (payload_length t ≡ f.len)
unfolding framed_at
whole_says t {f} e = go (cut_short t) refl e
  where
    go : (b : Bool) → cut_short t ≡ b → whole_or b (record { kind = kind_field t; len = payload_length t }) ≡ Some f
        → (cut_short t ≡ false) × (kind_field t ≡ f.kind) × (payload_length t ≡ f.len)
    go true g e = (cc, cc, cc)
    go false g e = (g, cc, cc)

pub cut-says : (t : Bytes) → framed_at t ≡ None → cut_short t ≡ true
unfolding framed_at
cut-says t e = go (cut_short t) refl e
  where
    go : (b : Bool) → cut_short t ≡ b → whole_or b (record { kind = kind_field t; len = payload_length t }) ≡ None → cut_short t ≡ true
    go true f e = f
    go false f e = cc
