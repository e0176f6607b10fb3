-- The converse of `read-built`: a file of bytes that is read as a book is that book's file, frame by frame and with nothing
-- else in it (`read-exact`); so a file is read as a book exactly where it is a file of the book (`book-exact`).
-- Assumes nothing.
use mathlib.Core.Path.{◌≡◌, refl, sym, ap, ◌∙◌}
use mathlib.Core.Logic.{◌≢◌, ◌↔◌}
use mathlib.Core.Bool.{not, ◌&&◌, not-not}
use mathlib.Core.Option.{Option, none, some}
use Prim.Native.Nat.{ℕ, ◌+◌, ◌*◌, ◌≤◌, ◌<◌}
use native.Mathlib.Omega.{arith}
use mathlib.Core.List.{List, [], ◌∷◌, ◌++◌, append_assoc, append-nil}
use lib.ListN.{length, drop, length-drop, take-append-drop, drop_of_length-le}
use lib.Seq.{take_all, drop-drop}
use lib.Dec.{T, ltb, eqb, eqb→eq, ltb→lt, nltb→le, T_not}
use Rattle.spec.specs.Lists.{Bytes, all, each, one, empty, accepted}
use Rattle.spec.specs.Numbers.{little_endian, field}
use Rattle.spec.specs.Frames.{Format, book_format, train_count_at, train_fixed, is_kind, frame, kind_field, payload_of, behind, Kind, head_kind, node_kind, segment_kind, join_kind, train_kind, call_kind, unbreakable_kind, end_kind, kind_number, kind_order, find_kind, rank_in, rank, length_fits}
use Rattle.spec.specs.Book.{Book, no_book}
use Rattle.spec.specs.BookFile.{head_payload, node_payload, segment_payload, join_payload, train_payload, call_payload, unbreakable_payload, frames_of, frames_then, book_file, FitsFields}
use Rattle.spec.specs.Read.{grown, segment_in, join_in, train_in, call_in, content_faults, add, Reading, reading_start, is_head, is_end, unknown_kind, out_of_order, kind_faults, add_found, past_frame, read_as, read_book, well_formed, head_fits, between}
use Rattle.demands.proofs.Faults.{passes, first-none}
use Rattle.demands.proofs.Reading.{ReadsTo, start, next, goes-iff, Fine, fine, rank-not-zero, Found, finds-kind, head_first, head-once, head-number, as-accepted, as-formed, read-well-formed}
use Rattle.demands.proofs.Building.{row_back, middle, Apt, Allowed, as-built, read-built}
use Rattle.laws.proofs.Tests.{and-iff, denied-of, eqb-iff, ltb_iff, leb-iff, all-iff, not_iff, neither-iff}
use Rattle.laws.proofs.Frames.{frame-read, bytes-payload_of, bytes-behind}
use Rattle.laws.proofs.Rows.{all_append}
use Rattle.laws.proofs.Parts.{each_append}
use Rattle.laws.proofs.Numbers.{bytes, bytes_drop, little_endian-field, field_lt}

-- ---- a payload is what is written for what it says

module _ (p : Bytes) (at w : ℕ) (b : T (bytes p)) where
  -- a field and what stands behind it are what stands from its place on
  field-front : at + w ≤ length p → little_endian w (field p at w) ++ drop (at + w) p ≡ drop at p
  field-front l = rw (little_endian-field p at w b l, ← drop-drop w at p) (take-append-drop w (drop at p))

  -- so is the last field alone
  field_end : at + w ≡ length p → little_endian w (field p at w) ≡ drop at p
  field_end e = little_endian-field p at w b (omega arith) ∙ take_all w (drop at p) (rw length-drop (omega arith))

module _ (p : Bytes) (b : T (bytes p)) where
  -- a payload of one byte: of a Node or an Unbreakable TTD
  byte-forth : length p ≡ 1 → little_endian 1 (field p 0 1) ≡ p
  byte-forth l = field_end p 0 1 b (sym l)

  -- a payload of three bytes: of a Segment or a Join
  triple-forth : length p ≡ 3 → little_endian 1 (field p 0 1) ++ little_endian 1 (field p 1 1) ++ little_endian 1 (field p 2 1) ≡ p
  triple-forth l =
      simp append_assoc (rw (field_end p 2 1 b (sym l), field-front p 1 1 b (omega arith), field-front p 0 1 b (omega arith)))

  -- those with times
  module _ (F : Format) where
    -- a Head's payload of the right length
    head-forth : (c : Book) → T (length_fits F head_kind p) → head_payload F (add F c head_kind p) ≡ p
    unfolding length_fits head_payload add is_kind kind_number
    head-forth c f =
        let l = eqb→eq (length p) (4 + F.time_width) f in
        simp append_assoc
        (rw (field_end p 4 F.time_width b (sym l), field-front p 2 2 b (omega arith), field-front p 0 2 b (omega arith)))

    -- a Call's
    call-forth : T (length_fits F call_kind p) → call_payload F (call_in F p) ≡ p
    unfolding length_fits call_payload call_in
    call-forth f =
        let w = F.time_width in
        let l = eqb→eq (length p) (2 + 2 * w) f in
        simp append_assoc
        (rw (field_end p (2 + w) w b (omega arith), field-front p 2 w b (omega arith), field-front p 1 1 b (omega arith), field-front p 0 1 b (omega arith)))

    -- a Train's, whose row has as many as its count says
    train-forth : T (length_fits F train_kind p) → train_payload F (train_in F p) ≡ p
    unfolding length_fits train_payload train_in
    train-forth f =
        let w = F.time_width in
        let l = simp (and-iff, leb-iff, eqb-iff) at f in
        let ds = drop (train_fixed F) p in
        let n : length ds ≡ field p (train_count_at F) 1 = rw length-drop (omega arith) in
        let r = row_back ds (λ d m. ltb→lt d 256 ((all-iff _ ds).0 (bytes_drop (train_fixed F) p b) d m)) in
        simp append_assoc
        (rw (r, n, field-front p (4 + w) 1 b (omega arith), field-front p 4 w b (omega arith), field-front p 2 2 b (omega arith), field-front p 0 2 b (omega arith)))

-- ---- the file as far as it was read

-- behind frames of rank `last` at most, the rows of higher rank are empty
record Blank (last : ℕ) (b : Book) (us : List ℕ) : Type 0 where
  segments : last < 3 → b.segments ≡ []
  joins : last < 4 → b.joins ≡ []
  trains : last < 5 → b.trains ≡ []
  calls : last < 6 → b.calls ≡ []
  ttds : last < 7 → us ≡ []

-- the unbreakable TTDs with what a frame adds
add_ttd : List ℕ → Kind → Bytes → List ℕ
add_ttd ttds k p = grown (is_kind k unbreakable_kind) ttds (field p 0 1)

-- the frames of a row with one more
frames-more : {A : Type 0} (k : Kind) (payload : A → Bytes) (xs : List A) (x : A) (p rest : Bytes) → payload x ≡ p
    → frames_of k payload xs ++ (frame (kind_number k) p ++ rest) ≡ frames_of k payload (xs ++ one x) ++ rest
unfolding frames_of each
frames-more k payload xs x p rest e = rw (← e) (simp (each_append, append_assoc))

-- a higher rank leaves fewer rows to be empty
blank-later : {m n : ℕ} {b : Book} {ttds : List ℕ} → m ≤ n → Blank m b ttds → Blank n b ttds
blank-later l w = record {
  segments = λ h. w.segments (omega arith);
  joins = λ h. w.joins (omega arith);
  trains = λ h. w.trains (omega arith);
  calls = λ h. w.calls (omega arith);
  ttds = λ h. w.ttds (omega arith);
}

-- an empty row
nil-of-empty : {A : Type 0} (xs : List A) → T (empty xs) → xs ≡ []
unfolding empty
nil-of-empty [] h = refl
nil-of-empty (x ∷ xs) h = absurd h

-- ---- a file of a format

module _ (F : Format) where
  -- A frame but a Head or the End, whose payload is bytes.
  module _ (b : Book) (ttds : List ℕ) (p : Bytes) (y : T (bytes p)) where
    -- what a frame adds stands in the file behind what was there
    file-more : (k : Kind) (rest : Bytes) → T (middle k) → T (length_fits F k p) → Blank (rank (kind_number k)) b ttds
        → frames_then F b ttds (frame (kind_number k) p ++ rest) ≡ frames_then F (add F b k p) (add_ttd ttds k p) rest
    unfolding frames_then middle is_head is_end kind_number rank rank_in kind_order length_fits add is_kind grown add_ttd frames_of each
        head_payload node_payload segment_payload segment_in join_payload join_in unbreakable_payload
    file-more head_kind rest m f w = absurd m
    file-more node_kind rest m f w =
        rw (
          w.segments (omega arith),
          w.joins (omega arith),
          w.trains (omega arith),
          w.calls (omega arith),
          w.ttds (omega arith),
          frames-more node_kind node_payload b.nodes (field p 0 1) p rest (byte-forth p y (eqb→eq (length p) 1 f)),
        )
    file-more segment_kind rest m f w =
        rw (
          w.joins (omega arith),
          w.trains (omega arith),
          w.calls (omega arith),
          w.ttds (omega arith),
          frames-more segment_kind segment_payload b.segments (segment_in p) p rest (triple-forth p y (eqb→eq (length p) 3 f)),
        )
    file-more join_kind rest m f w =
        rw (
          w.trains (omega arith),
          w.calls (omega arith),
          w.ttds (omega arith),
          frames-more join_kind join_payload b.joins (join_in p) p rest (triple-forth p y (eqb→eq (length p) 3 f)),
        )
    file-more train_kind rest m f w =
        rw (
          w.calls (omega arith),
          w.ttds (omega arith),
          frames-more train_kind (train_payload F) b.trains (train_in F p) p rest (train-forth p y F f),
        )
    file-more call_kind rest m f w =
        rw (w.ttds (omega arith), frames-more call_kind (call_payload F) b.calls (call_in F p) p rest (call-forth p y F f))
    file-more unbreakable_kind rest m f w =
        rw (frames-more unbreakable_kind unbreakable_payload ttds (field p 0 1) p rest (byte-forth p y (eqb→eq (length p) 1 f)))
    file-more end_kind rest m f w = absurd m

  module _ (b : Book) (ttds : List ℕ) (p : Bytes) where
    -- the rows of higher rank stay empty
    blank-more : (k : Kind) → T (middle k) → Blank (rank (kind_number k)) b ttds
        → Blank (rank (kind_number k)) (add F b k p) (add_ttd ttds k p)
    unfolding middle is_head is_end kind_number rank rank_in kind_order add is_kind grown add_ttd
    blank-more head_kind m w = absurd m
    blank-more node_kind m w =
        record { segments = w.segments; joins = w.joins; trains = w.trains; calls = w.calls; ttds = w.ttds }
    blank-more segment_kind m w =
        record { segments = λ l. absurd (omega arith); joins = w.joins; trains = w.trains; calls = w.calls; ttds = w.ttds }
    blank-more join_kind m w =
        record { segments = w.segments; joins = λ l. absurd (omega arith); trains = w.trains; calls = w.calls; ttds = w.ttds }
    blank-more train_kind m w =
        record { segments = w.segments; joins = w.joins; trains = λ l. absurd (omega arith); calls = w.calls; ttds = w.ttds }
    blank-more call_kind m w =
        record { segments = w.segments; joins = w.joins; trains = w.trains; calls = λ l. absurd (omega arith); ttds = w.ttds }
    blank-more unbreakable_kind m w =
        record { segments = w.segments; joins = w.joins; trains = w.trains; calls = w.calls; ttds = λ l. absurd (omega arith) }
    blank-more end_kind m w = absurd m

    -- the unbreakable TTDs are allowed: there are none before their frames
    allowed-more : (k : Kind) → T (middle k) → T (all passes (content_faults F b k p)) → Blank (rank (kind_number k)) b ttds
        → Allowed b ttds → Allowed (add F b k p) (add_ttd ttds k p)
    unfolding middle is_head is_end kind_number rank rank_in kind_order add is_kind grown add_ttd content_faults all passes
    allowed-more head_kind m c w h = absurd m
    allowed-more node_kind m c w h = rw (w.ttds (omega arith)) tt
    allowed-more segment_kind m c w h = rw (w.ttds (omega arith)) tt
    allowed-more join_kind m c w h = rw (w.ttds (omega arith)) tt
    allowed-more train_kind m c w h = rw (w.ttds (omega arith)) tt
    allowed-more call_kind m c w h = rw (w.ttds (omega arith)) tt
    allowed-more unbreakable_kind m c w h =
        let q = simp (and-iff, not-not) at c in
        simp (all_append, and-iff) (h, ((q.0, q.1.0), tt))
    allowed-more end_kind m c w h = absurd m

    -- the numbers of two bytes fit
    fits_more : (k : Kind) → T (bytes p) → T (middle k) → T (length_fits F k p) → FitsFields b → FitsFields (add F b k p)
    unfolding middle is_head is_end kind_number add is_kind grown length_fits train_in all
    fits_more head_kind y m f h = absurd m
    fits_more node_kind y m f h = record { metres = h.metres; seconds = h.seconds; trains = h.trains }
    fits_more segment_kind y m f h = record { metres = h.metres; seconds = h.seconds; trains = h.trains }
    fits_more join_kind y m f h = record { metres = h.metres; seconds = h.seconds; trains = h.trains }
    fits_more train_kind y m f h =
        let l = simp (and-iff, leb-iff, eqb-iff) at f in
        let q = field_lt p 0 2 y (omega arith) in
        let v = field_lt p 2 2 y (omega arith) in
        let t : T (all (λ t. ltb t.metres 65536 && ltb t.speed 65536) (b.trains ++ one (train_in F p))) =
        simp (all_append, and-iff, ltb_iff) (h.trains, ((q, v), tt)) in
        record { metres = h.metres; seconds = h.seconds; trains = t }
    fits_more call_kind y m f h = record { metres = h.metres; seconds = h.seconds; trains = h.trains }
    fits_more unbreakable_kind y m f h = h
    fits_more end_kind y m f h = absurd m

  -- ---- frame by frame

  -- Reading s came to r with `rest` left: what was taken of s is the frames of the book that r has.
  record Taken (s : Bytes) (r : Reading) (rest : Bytes) : Type 0 where
    ttds : List ℕ
    text : s ≡ frames_then F r.book ttds rest
    blank : Blank r.last r.book ttds
    fits : FitsFields r.book
    allowed : Allowed r.book ttds
    times : r.book.intervals ≤ F.greatest_t

  -- Nothing was taken yet, or that.
  data Came (s : Bytes) (r : Reading) (rest : Bytes) : Type 0 where
    nothing : r.last ≡ 0 → r.book ≡ no_book → s ≡ rest → Came s r rest
    taken : r.last ≢ 0 → Taken s r rest → Came s r rest

  -- the reader past a frame of kind k
  past_kind : Reading → Kind → Bytes → Reading
  past_kind r k s = record { last = rank (kind_number k); book = add F r.book k (payload_of s) }

  -- A frame without a fault, of kind k.
  record OfKind (r : Reading) (s : Bytes) (k : Kind) : Type 0 where
    kind : kind_field s ≡ kind_number k
    length : T (length_fits F k (payload_of s))
    content : T (all passes (content_faults F r.book k (payload_of s)))
    past : past_frame F r s ≡ past_kind r k s

  -- every frame without a fault is of some kind
  of-kind : (r : Reading) (s : Bytes) → Fine F r s → (k : Kind) × OfKind r s k
  unfolding past_frame past_kind add_found kind_faults unknown_kind Found all passes
  of-kind r s f = go (find_kind (kind_field s) kind_order) refl (finds-kind (kind_field s) kind_order) f.content
    where
      go : (o : Option Kind) → find_kind (kind_field s) kind_order ≡ o → Found (kind_field s) kind_order o
          → T (all passes (kind_faults F r.book o (payload_of s))) → (k : Kind) × OfKind r s k
      go none e h c = absurd (T_not (unknown_kind (kind_field s)) f.known h)
      go (some k) e h c =
          let q = simp (and-iff, not-not) at c in
          (k, record { kind = h; length = q.0; content = q.1; past = rw (e, h) })

  module _ (s : Bytes) (r : Reading) (s' : Bytes) (y : T (bytes s')) (f : Fine F r s') (k : Kind) (o : OfKind r s' k) where
    -- what is left is that frame and the rest
    frame_here : s' ≡ frame (kind_number k) (payload_of s') ++ behind s'
    frame_here = rw (← o.kind) (frame-read s' y f.whole)

    -- its rank is no lower than the last one's
    no_lower : r.last ≤ rank (kind_number k)
    unfolding out_of_order
    no_lower =
        let p = simp neither-iff at f.in_order in
        rw (← o.kind) (nltb→le (rank (kind_field s')) r.last p.0.1)

    -- a frame but a Head or the End is taken behind the others
    taken-on : T (middle k) → Taken s r s' → Taken s (past_kind r k s') (behind s')
    unfolding past_kind add middle is_head is_kind
    taken-on m t =
        let p = payload_of s' in
        let z = bytes-payload_of s' y in
        let w = blank-later no_lower t.blank in
        record {
          ttds = add_ttd t.ttds k p;
          text = t.text ∙ ap (frames_then F r.book t.ttds) frame_here
              ∙ file-more r.book t.ttds p z k (behind s') m o.length w;
          blank = blank-more r.book t.ttds p k m w;
          fits = fits_more r.book t.ttds p k z m o.length t.fits;
          allowed = allowed-more r.book t.ttds p k m o.content w t.allowed;
          times = rw (denied-of (is_kind k head_kind) (simp and-iff at m).0) t.times;
        }

    -- a Head is taken first
    taken-head : r.book ≡ no_book → k ≡ head_kind → s ≡ s' → Taken s (past_kind r k s') (behind s')
    unfolding past_kind add is_kind grown no_book frames_then frames_of each kind_number rank rank_in kind_order length_fits all
        content_faults head_fits between passes
    taken-head e q u =
        let p = payload_of s' in
        let z = bytes-payload_of s' y in
        let v : T (length_fits F head_kind p) = rw q at o.length in
        let l = eqb→eq (length p) (4 + F.time_width) v in
        let fit = simp (and-iff, not-not, leb-iff) at (rw (e, q) at o.content) in
        rw (e, q) record {
          ttds = [];
          text = u ∙ frame_here ∙ rw (q, head-forth p z F no_book v);
          blank = record { segments = λ _. refl; joins = λ _. refl; trains = λ _. refl; calls = λ _. refl; ttds = λ _. refl };
          fits = record { metres = field_lt p 0 2 z (omega arith); seconds = field_lt p 2 2 z (omega arith); trains = tt };
          allowed = tt;
          times = fit.0.1.1;
        }

    -- so every frame but the End leads on
    came-on : T (not (is_end (kind_field s'))) → Came s r s' → Came s (past_kind r k s') (behind s')
    unfolding past_kind middle is_head kind_number rank
    came-on n (nothing l e u) =
        taken (rank-not-zero (kind_number k) kind_order) (taken-head e (head-number k (sym o.kind ∙ head_first r s' f.in_order l)) u)
    came-on n (taken l t) =
        let d = (not_iff (eqb (kind_number k) 1)).1 (λ h. head-once r s' f.in_order l (o.kind ∙ eqb→eq (kind_number k) 1 h)) in
        taken (rank-not-zero (kind_number k) kind_order) (taken-on (simp and-iff (d, rw (← o.kind) n)) t)

  -- wherever the reader comes, what it took is the frames of its book
  came : {s s' : Bytes} {r : Reading} → T (bytes s) → ReadsTo F s r s' → T (bytes s') × Came s r s'
  unfolding reading_start
  came y start = (y, nothing refl refl refl)
  came {s} y (next {r = r} {r'' = r''} {s' = s'} {s'' = s''} c e) =
      let g = (goes-iff F r s' r'' s'').0 e in
      let h = came y c in
      let f = fine F r s' g.clear in
      let o = of-kind r s' f in
      (rw g.rest (bytes-behind s' h.0), rw (g.reading, g.rest, o.1.past) (came-on s r s' h.0 f o.0 o.1 g.not_end h.1))

  -- so wherever the reader comes behind the Head, the book's numbers fit their fields
  pub reads_fit : {s s' : Bytes} {r : Reading} → T (bytes s) → ReadsTo F s r s' → r.last ≢ 0 → FitsFields r.book
  reads_fit {s} {s'} {r} y c n = go (came y c).1
    where
      go : Came s r s' → FitsFields r.book
      go (nothing l e u) = absurd (n l)
      go (taken l t) = t.fits

  -- ---- the whole file

  -- an End frame without a fault is all that is left
  end-last : (r : Reading) (s : Bytes) → T (bytes s) → Fine F r s → T (is_end (kind_field s)) → s ≡ frame (kind_number end_kind) []
  unfolding out_of_order is_end kind_faults find_kind kind_order kind_number length_fits content_faults all passes
  end-last r s y f t =
      let e = eqb→eq (kind_field s) 8 t in
      let c = simp (and-iff, not-not) at (rw e at f.content) in
      let p = drop_of_length-le (payload_of s) {i = 0} (omega (arith, eqb→eq (length (payload_of s)) 0 c.0)) in
      let q = (simp neither-iff at (rw e at f.in_order)).1 in
      frame-read s y f.whole ∙ rw (e, p, nil-of-empty (behind s) (rw not-not at q)) (append-nil _)

  -- A file of bytes that is read as a book is that book's file, with a frame for each of some unbreakable TTDs that segments of
  -- the book have and that never divide; the book's numbers fit their fields, and its T is not above the format's.
  pub as-file : (s : Bytes) (b : Book) → T (bytes s) → read_as F s ≡ accepted b
      → (ttds : List ℕ) × (s ≡ book_file F b ttds) × Allowed b ttds × FitsFields b × (b.intervals ≤ F.greatest_t)
  unfolding book_file is_end kind_number
  as-file s b y e =
      let h = as-accepted F s b e in
      let c = came y h.2 in
      rw h.6 (go h.0 h.1 c.0 (fine F h.0 h.1 (first-none _ h.3)) h.4 c.1)
    where
      go : (r : Reading) (s' : Bytes) → T (bytes s') → Fine F r s' → T (is_end (kind_field s')) → Came s r s'
          → (ttds : List ℕ) × (s ≡ book_file F r.book ttds) × Allowed r.book ttds × FitsFields r.book
          × (r.book.intervals ≤ F.greatest_t)
      go r s' z f t (nothing l e u) =
          let first = head_first r s' f.in_order l in
          let last = eqb→eq (kind_field s') 8 t in
          let no' : ⊥ = omega arith in
          absurd no'
      go r s' z f t (taken l w) =
          (w.ttds, w.text ∙ ap (frames_then F r.book w.ttds) (end-last r s' z f t), w.allowed, w.fits, w.times)

  -- A file of bytes is read as a book, in an apt format, exactly where it is a file of that book, the book is well formed, its
  -- numbers fit their fields, its T is not above the format's, and the file's unbreakable TTDs are some that segments of the book
  -- have and that never divide.
  pub as-exact : (s : Bytes) (b : Book) → Apt F → T (bytes s)
      → (read_as F s ≡ accepted b)
      ↔ ((ttds : List ℕ) × (s ≡ book_file F b ttds) × T (well_formed b) × FitsFields b × Allowed b ttds × (b.intervals ≤ F.greatest_t))
  as-exact s b a y = (
    λ e. let h = as-file s b y e in (h.0, h.1, as-formed F s b a.within e, h.3, h.2, h.4),
    λ h. ap (read_as F) h.1 ∙ as-built F b h.0 a h.2 h.3 h.5 h.4,
  )

-- ---- a book: the same, of the format in force

pub read-exact : (s : Bytes) (b : Book) → T (bytes s) → read_book s ≡ accepted b
    → (ttds : List ℕ) × (s ≡ book_file book_format b ttds) × Allowed b ttds × FitsFields b
unfolding read_book
read-exact s b y e = let h = as-file book_format s b y e in (h.0, h.1, h.2, h.3)

pub book-exact : (s : Bytes) (b : Book) → T (bytes s)
    → (read_book s ≡ accepted b)
    ↔ ((ttds : List ℕ) × (s ≡ book_file book_format b ttds) × T (well_formed b) × FitsFields b × Allowed b ttds)
book-exact s b y = (
  λ e. let h = read-exact s b y e in (h.0, h.1, read-well-formed s b e, h.3, h.2),
  λ h. ap read_book h.1 ∙ read-built b h.0 h.2 h.3 h.4,
)
