-- Old payloads, frames and files with their times widened: a payload that was written for a book is the one that is written for it
-- now, so the old file of a book is rewritten to its new file (`file-rewritten`), which is longer by a byte a time. Assumes nothing.
use mathlib.Core.Path.{◌≡◌, refl, sym, ap, ap₂, ◌∙◌}
use mathlib.Core.Bool.{Bool, true, false, not}
use mathlib.Core.Option.{some}
use Prim.Native.Nat.{ℕ, zero, suc, ◌+◌, ◌*◌, ◌^◌, ◌≤◌, ◌<◌}
use native.Mathlib.Nat.{zero-add, zero-mul, suc-mul}
use native.Mathlib.Omega.{arith}
use mathlib.Core.List.{List, [], ◌∷◌, ◌++◌, append_assoc, append-nil, Memᴰ}
use lib.ListN.{length, take, drop, length-append, length-drop, drop_of_length-le}
use lib.Seq.{take_at, length-take-le}
use lib.Dec.{T}
use Rattle.spec.specs.Lists.{Bytes, count, up_to, each}
use Rattle.spec.specs.Numbers.{little_endian, field}
use Rattle.spec.specs.Frames.{times_at, time_count, book_format, old_format, frame, kind_field, payload_of, behind, cut_short, Kind, head_kind, node_kind, segment_kind, join_kind, train_kind, call_kind, unbreakable_kind, end_kind, kind_number, kind_order, find_kind}
use Rattle.spec.specs.Book.{Book, Train, Call}
use Rattle.spec.specs.Read.{train_fits, reach_fits, place_fits, call_fits, between}
use Rattle.spec.specs.BookFile.{head_payload, node_payload, segment_payload, join_payload, train_payload, call_payload, unbreakable_payload, frames_of, frames_then, book_file}
use Rattle.spec.specs.Upgrade.{times_widened, widened_at, widened, widened_found, frame_widened, widened_from, upgraded}
use Rattle.demands.specs.OldFrames.{HasTimes}
use Rattle.laws.proofs.Tests.{and-iff, eqb-iff, ltb_iff, leb-iff, all-iff, denied-of, from-denied}
use Rattle.laws.proofs.Parts.{up_to-suc, each_append}
use Rattle.laws.proofs.Numbers.{length-little_endian, field-written, field-alone, field_past, drop_past}
use Rattle.laws.proofs.Frames.{payload_of-frame, kind_field-frame, behind-frame, whole-frame, length-behind}
use Rattle.demands.proofs.Wellformed.{Parts}
use Rattle.demands.proofs.Building.{kind-back, head-length, train-length, call_length}

-- ---- a payload, widened

-- the Head's
head-widened : (b : Book) → b.intervals < 256 → widened head_kind (head_payload old_format b) ≡ head_payload book_format b
unfolding widened widened_at times_widened each up_to count head_payload
head-widened b l =
    let m = little_endian 2 b.segment_metres in
    let s = little_endian 2 b.interval_seconds in
    let t = little_endian 1 b.intervals in
    let f : length (m ++ s) ≡ 4 = simp (length-append, length-little_endian) in
    let n : length (m ++ s ++ t) ≤ 5 = simp (length-append, length-little_endian) (omega arith) in
    let e : field (m ++ s ++ t) 4 1 ≡ b.intervals =
    rw append_assoc
    (field_past 2 b.segment_metres _ 2 4 1 (omega arith) ∙ field_past 2 b.interval_seconds _ 0 2 1 (omega arith) ∙ field-alone 1 _ (omega arith)) in
    rw (take_at (m ++ s) t 4 f, e, drop_of_length-le (m ++ s ++ t) {i = 5} n) (simp (append-nil, append_assoc))

-- a Train's
train-widened : (t : Train) → t.departure < 256 → widened train_kind (train_payload old_format t) ≡ train_payload book_format t
unfolding widened widened_at times_widened each up_to count train_payload
train-widened t l =
    let m = little_endian 2 t.metres in
    let s = little_endian 2 t.speed in
    let d = little_endian 1 t.departure in
    let r = little_endian 1 (length t.place) ++ each t.place (little_endian 1) in
    let p : m ++ s ++ d ++ little_endian 1 (length t.place) ++ each t.place (little_endian 1) ≡ (m ++ s) ++ (d ++ r) = simp append_assoc in
    let f : length (m ++ s) ≡ 4 = simp (length-append, length-little_endian) in
    let q : (m ++ s) ++ (d ++ r) ≡ m ++ (s ++ (d ++ r)) = append_assoc m s (d ++ r) in
    let e : field ((m ++ s) ++ (d ++ r)) 4 1 ≡ t.departure =
    rw q (field_past 2 t.metres _ 2 4 1 (omega arith) ∙ field_past 2 t.speed _ 0 2 1 (omega arith) ∙ field-written 1 _ r (omega arith)) in
    let g : drop 5 ((m ++ s) ++ (d ++ r)) ≡ r =
    rw q (drop_past 2 t.metres _ 3 5 (omega arith) ∙ drop_past 2 t.speed _ 1 3 (omega arith) ∙ drop_past 1 t.departure r 0 1 (omega arith)) in
    rw (p, take_at (m ++ s) (d ++ r) 4 f, e, g) (simp (append-nil, append_assoc))

-- a Call's
call-widened : (c : Call) → c.first < 256 → c.last < 256 → widened call_kind (call_payload old_format c) ≡ call_payload book_format c
unfolding widened widened_at times_widened each up_to count call_payload
call-widened c l m =
    let t = little_endian 1 c.train in
    let s = little_endian 1 c.segment in
    let r = little_endian 1 c.first ++ little_endian 1 c.last in
    let p : t ++ s ++ little_endian 1 c.first ++ little_endian 1 c.last ≡ (t ++ s) ++ r = simp append_assoc in
    let f : length (t ++ s) ≡ 2 = simp (length-append, length-little_endian) in
    let n : length ((t ++ s) ++ r) ≤ 4 = simp (length-append, length-little_endian) (omega arith) in
    let q : (t ++ s) ++ r ≡ t ++ (s ++ r) = append_assoc t s r in
    let e : field ((t ++ s) ++ r) 2 1 ≡ c.first =
    rw q (field_past 1 c.train _ 1 2 1 (omega arith) ∙ field_past 1 c.segment _ 0 1 1 (omega arith) ∙ field-written 1 _ _ (omega arith)) in
    let g : field ((t ++ s) ++ r) 3 1 ≡ c.last =
    rw q
    (field_past 1 c.train _ 2 3 1 (omega arith) ∙ field_past 1 c.segment _ 1 2 1 (omega arith)
    ∙ field_past 1 c.first _ 0 1 1 (omega arith) ∙ field-alone 1 _ (omega arith)) in
    rw (p, take_at (t ++ s) r 2 f, e, g, drop_of_length-le ((t ++ s) ++ r) {i = 4} n) (simp (append-nil, append_assoc))

-- a payload without times stays as it is
timeless : (k : Kind) (p : Bytes) → times_at k ≡ 0 → time_count k ≡ 0 → widened k p ≡ p
unfolding widened widened_at times_widened each up_to count
timeless k p a n = rw (a, n) refl

-- ---- how long it is

-- one time more
pub times_more : (p : Bytes) (at n : ℕ) → times_widened p at (suc n) ≡ times_widened p at n ++ little_endian 2 (field p (at + n * 1) 1)
unfolding times_widened each
times_more p at n =
    let f : ℕ → Bytes = λ i. little_endian 2 (field p (at + i * 1) 1) in
    ap (λ (l : List ℕ). each l f) (up_to-suc n) ∙ each_append (up_to n) (n ∷ []) f ∙ simp append-nil

pub length-times : (p : Bytes) (at n : ℕ) → length (times_widened p at n) ≡ n * 2
unfolding times_widened each up_to count
length-times p at zero = refl
length-times p at (suc n) =
    let t = little_endian 2 (field p (at + n * 1) 1) in
    rw (times_more p at n) (omega (arith, length-append (times_widened p at n) t, length-times p at n, length-little_endian 2 (field p (at + n * 1) 1)))

pub length-widened : (p : Bytes) (at n : ℕ) → at + n ≤ length p → length (widened_at p at n) ≡ length p + n
unfolding widened_at
length-widened p at n h =
    let t = times_widened p at n in
    let d = drop (at + n * 1) p in
    omega (arith, length-append (take at p) (t ++ d), length-append t d, length-times p at n, length-take-le at p (omega arith), length-drop (at + n * 1) p)

-- ---- frame by frame

-- nothing is made of a frame that is cut short
cut-none : (f : ℕ) (s : Bytes) → cut_short s ≡ true → widened_from f s ≡ []
unfolding widened_from
cut-none zero s e = refl
cut-none (suc f) s e = rw (e, widened_from) refl

-- a whole one is widened
whole-more : (f : ℕ) (s : Bytes) → cut_short s ≡ false → widened_from (suc f) s ≡ frame_widened s ++ widened_from f (behind s)
unfolding widened_from
whole-more f s e = rw (e, widened_from) refl

no_bytes : (s : Bytes) → length s < 4 → cut_short s ≡ true
no_bytes s l = go (cut_short s) refl
  where
    go : (c : Bool) → cut_short s ≡ c → c ≡ true
    go true e = refl
    go false e = absurd (omega (arith, length-behind s (from-denied e)))

-- fuel beyond the bytes makes no difference
enough : (f g : ℕ) (s : Bytes) → length s ≤ f → length s ≤ g → widened_from f s ≡ widened_from g s
enough zero g s h k = let e = no_bytes s (omega arith) in cut-none zero s e ∙ sym (cut-none g s e)
enough (suc f) zero s h k = let e = no_bytes s (omega arith) in cut-none (suc f) s e ∙ sym (cut-none zero s e)
enough (suc f) (suc g) s h k = go (cut_short s) refl (enough f g)
  where
    go : (c : Bool) → cut_short s ≡ c → ((s : Bytes) → length s ≤ f → length s ≤ g → widened_from f s ≡ widened_from g s)
        → widened_from (suc f) s ≡ widened_from (suc g) s
    go true e rest = cut-none (suc f) s e ∙ sym (cut-none (suc g) s e)
    go false e rest =
        let l = length-behind s (from-denied e) in
        whole-more f s e ∙ ap (λ (t : Bytes). frame_widened s ++ t) (rest (behind s) (omega arith) (omega arith)) ∙ sym (whole-more g s e)

-- the first frame, and then the others
pub upgraded-next : (s : Bytes) → T (not (cut_short s)) → upgraded s ≡ frame_widened s ++ upgraded (behind s)
unfolding upgraded
upgraded-next s w =
    let l = length-behind s w in
    enough (length s) (suc (length s)) s (omega arith) (omega arith)
    ∙ whole-more (length s) s (denied-of (cut_short s) w)
    ∙ ap (λ (t : Bytes). frame_widened s ++ t) (enough (length s) (length (behind s)) (behind s) (omega arith) (omega arith))

-- ---- files of whole frames

-- a file of whole frames that have their times, and nothing behind them
pub data WithTimes : Bytes → Type 0 where
  no_more : WithTimes []
  one_more_lem : (k : Kind) (p : Bytes) {rest : Bytes} → HasTimes k p → WithTimes rest → WithTimes (frame (kind_number k) p ++ rest)

-- what stands at its start, where it is not at its end
pub record Next (s : Bytes) : Type 0 where
  pub whole : T (not (cut_short s))
  pub kind : Kind
  pub found : find_kind (kind_field s) kind_order ≡ some kind
  pub times : HasTimes kind (payload_of s)
  pub rest : WithTimes (behind s)

pub times-next : (s : Bytes) → WithTimes s → 0 < length s → Next s
times-next s no_more l = absurd (omega arith)
times-next s (one_more_lem k p {rest} h r) l =
    let n = kind-back k in
    let m : length p < 256 ^ 2 = omega (arith, h.short) in
    record {
      whole = whole-frame (kind_number k) p rest n.2 m;
      kind = k;
      found = rw (kind_field-frame (kind_number k) p rest n.2 m) n.0;
      times = rw (payload_of-frame (kind_number k) p rest n.2 m) h;
      rest = rw (behind-frame (kind_number k) p rest n.2 m) r;
    }

-- ---- rewriting them

-- a file s of such frames is rewritten to t, which has n bytes more
pub record Rewritten (s t : Bytes) (n : ℕ) : Type 0 where
  pub framed : WithTimes s
  pub same : upgraded s ≡ t
  pub longer : length t ≡ length s + n

-- a frame is four bytes and its payload
pub length-frame : (n : ℕ) (p : Bytes) → length (frame n p) ≡ 4 + length p
unfolding frame
length-frame n p = simp (length-append, length-little_endian) (omega arith)

-- a frame that was written, and what stands behind it
frame-rewritten : (k : Kind) (p q : Bytes) {rest t : Bytes} {n : ℕ} → HasTimes k p → widened k p ≡ q → Rewritten rest t n
    → Rewritten (frame (kind_number k) p ++ rest) (frame (kind_number k) q ++ t) (time_count k + n)
unfolding frame_widened widened_found widened
frame-rewritten k p q {rest} {t} {n} h e r =
    let b = kind-back k in
    let m : length p < 256 ^ 2 = omega (arith, h.short) in
    let l : length q ≡ length p + time_count k = ap length (sym e) ∙ length-widened p (times_at k) (time_count k) h.inside in
    record {
      framed = one_more_lem k p h r.framed;
      same =
          upgraded-next (frame (kind_number k) p ++ rest) (whole-frame (kind_number k) p rest b.2 m)
          ∙ rw (
            kind_field-frame (kind_number k) p rest b.2 m,
            payload_of-frame (kind_number k) p rest b.2 m,
            behind-frame (kind_number k) p rest b.2 m,
            b.0,
          )
          (ap₂ (λ (x y : Bytes). frame (kind_number k) x ++ y) e r.same);
      longer =
          omega (
            arith,
            length-append (frame (kind_number k) p) rest,
            length-append (frame (kind_number k) q) t,
            length-frame (kind_number k) p,
            length-frame (kind_number k) q,
            l,
            r.longer,
          );
    }

-- the frames of a row
row-rewritten : {A : Type 0} (k : Kind) (old new : A → Bytes) (xs : List A) {rest t : Bytes} {n : ℕ}
    → ((x : A) → Memᴰ x xs → HasTimes k (old x) × (widened k (old x) ≡ new x)) → Rewritten rest t n
    → Rewritten (frames_of k old xs ++ rest) (frames_of k new xs ++ t) (length xs * time_count k + n)
unfolding frames_of each
row-rewritten k old new [] {n = n} h r = rw (zero-mul (time_count k), zero-add n) r
row-rewritten k old new (x ∷ xs) {n = n} h r =
    let e = h x (Memᴰ.head refl) in
    let m : suc (length xs) * time_count k + n ≡ time_count k + (length xs * time_count k + n) = omega (arith, suc-mul (length xs) (time_count k)) in
    rw m (simp append_assoc (frame-rewritten k (old x) (new x) e.0 e.1 (row-rewritten k old new xs (λ y m. h y (Memᴰ.tail m)) r)))

-- the End
end-rewritten : Rewritten (frame (kind_number end_kind) []) (frame (kind_number end_kind) []) 0
unfolding upgraded widened_from
end-rewritten =
    let none_left : Rewritten [] [] 0 = record { framed = no_more; same = refl; longer = refl } in
    rw append-nil at
    (frame-rewritten end_kind [] [] {rest = []} {t = []} {n = 0}
    (record { inside = omega arith; short = omega arith }) (timeless end_kind [] refl refl) none_left)

-- ---- the whole file

module _ (k : Kind) (at : times_at k ≡ 0) (none-there : time_count k ≡ 0) where
  -- a payload without times
  without : (p : Bytes) → length p ≤ 1000 → HasTimes k p × (widened k p ≡ p)
  without p l = (record { inside = omega arith; short = l }, timeless k p at none-there)

-- payloads of one byte and of three
byte-length : (x : ℕ) → length (little_endian 1 x) ≤ 1000
byte-length x = simp length-little_endian (omega arith)

triple-length : (x y z : ℕ) → length (little_endian 1 x ++ little_endian 1 y ++ little_endian 1 z) ≤ 1000
triple-length x y z = simp (length-append, length-little_endian) (omega arith)

module _ (b : Book) (w : Parts b) (u : b.intervals ≤ old_format.greatest_t) where
  -- a train departs before T, and is not long
  train-narrow : (t : Train) → Memᴰ t b.trains → (t.departure < 256) × (length t.place < 256)
  unfolding train_fits reach_fits place_fits between
  train-narrow t m =
      let f = simp (and-iff, ltb_iff, leb-iff, eqb-iff) at ((all-iff _ b.trains).0 w.trains t m) in
      (omega arith, omega arith)

  -- a call's window ends by T
  call-narrow : (c : Call) → Memᴰ c b.calls → (c.first < 256) × (c.last < 256)
  unfolding call_fits
  call-narrow c m =
      let f = simp (and-iff, ltb_iff, leb-iff) at ((all-iff _ b.calls).0 w.calls c m) in
      (omega arith, omega arith)

  -- The old file of a book is rewritten to its new file.
  pub file-rewritten : (ttds : List ℕ)
      → Rewritten (book_file old_format b ttds) (book_file book_format b ttds) (1 + (length b.trains + 2 * length b.calls))
  unfolding book_file frames_then node_payload segment_payload join_payload unbreakable_payload
  file-rewritten ttds =
      let unbreakables = row-rewritten unbreakable_kind unbreakable_payload unbreakable_payload ttds
      (λ x m. without unbreakable_kind refl refl _ (byte-length x)) end-rewritten in
      let calls = row-rewritten call_kind (call_payload old_format) (call_payload book_format) b.calls
      (λ c m. let n = call-narrow c m in let l = call_length old_format c in
      (record { inside = omega (arith, l); short = omega (arith, l) }, call-widened c n.0 n.1))
      unbreakables in
      let trains = row-rewritten train_kind (train_payload old_format) (train_payload book_format) b.trains
      (λ t m. let n = train-narrow t m in let l = (train-length old_format t n.1).0 in
      (record { inside = omega (arith, l); short = omega (arith, l) }, train-widened t n.0))
      calls in
      let joins = row-rewritten join_kind join_payload join_payload b.joins (λ x m. without join_kind refl refl _ (triple-length _ _ _)) trains in
      let segments = row-rewritten segment_kind segment_payload segment_payload b.segments
      (λ x m. without segment_kind refl refl _ (triple-length _ _ _)) joins in
      let nodes = row-rewritten node_kind node_payload node_payload b.nodes (λ x m. without node_kind refl refl _ (byte-length x)) segments in
      let l = head-length old_format b in
      let file = frame-rewritten head_kind (head_payload old_format b) (head_payload book_format b)
      (record { inside = omega (arith, l); short = omega (arith, l) }) (head-widened b (omega arith)) nodes in
      record { framed = file.framed; same = file.same; longer = file.longer ∙ omega arith }
