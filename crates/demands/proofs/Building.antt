-- The file that is built from a book's parts is read as that book, with frames for unbreakable TTDs or without (`read-built`):
-- so for every well-formed book whose numbers fit their fields there is a file that is accepted. Assumes nothing.
use mathlib.Core.Path.{◌≡◌, refl, sym, ap, ◌∙◌}
use mathlib.Core.Logic.{◌≢◌}
use mathlib.Core.Bool.{Bool, true, false, not, ◌&&◌, ◌||◌, not-not}
use mathlib.Core.Option.{some}
use Prim.Native.Nat.{ℕ, suc, ◌+◌, ◌*◌, ◌%◌, ◌^◌, ◌≤◌, ◌<◌}
use native.Mathlib.Nat.{not-suc-le-zero}
use native.Mathlib.Omega.{arith}
use mathlib.Core.List.{List, [], ◌∷◌, ◌++◌, append_assoc, append-nil, Memᴰ}
use lib.ListN.{length, drop, length-append}
use lib.Seq.{append_snoc, take-append_seam, get_or-append_seam}
use lib.Dec.{T, leb, ltb, eqb, eqb→eq, eqb_refl, leb→le, ltb→lt, lit≤}
use lib.Arith.{le→nltb, lt→nleb}
use Rattle.spec.specs.Lists.{Bytes, all, any, each, one, only, pick, empty, up_to, accepted}
use Rattle.spec.specs.Numbers.{little_endian, number, field}
use Rattle.spec.specs.Frames.{Format, book_format, train_count_at, train_fixed, is_kind, frame, kind_field, Kind, head_kind, node_kind, segment_kind, join_kind, train_kind, call_kind, unbreakable_kind, end_kind, kind_number, kind_order, find_kind, rank_in, rank, length_fits}
use Rattle.spec.specs.Book.{Book, Segment, Join, Train, Call, no_book, calls_of, segment_at, greatest_node_kind, joined, start_node, end_node, length_in_segments, speed_in_segments}
use Rattle.spec.specs.BookFile.{head_payload, node_payload, segment_payload, join_payload, train_payload, call_payload, unbreakable_payload, frames_of, frames_then, book_file, FitsFields}
use Rattle.spec.specs.Runs.{leads_to, linked, is_path, runs_of}
use Rattle.spec.specs.Read.{grown, segment_in, join_in, train_in, call_in, head_fits, segment_fits, join_fits, join_repeats, train_fits, reach_fits, place_fits, call_fits, some_has, content_faults, add, Reading, reading_start, is_head, is_end, unknown_kind, out_of_order, kind_faults, frame_faults, add_found, past_frame, book_faults, read_frame, frame_read_at, more, joins_once, read_as, read_book, well_formed, between}
pub use Rattle.demands.specs.BookFiles.{Apt, Allowed}
use Rattle.demands.proofs.Wellformed.{Parts, parts}
use Rattle.demands.proofs.Faults.{passes, clear_first}
use Rattle.laws.proofs.Picks.{pick-append}
use Rattle.demands.proofs.Growing.{none-iff, all-weaken}
use Rattle.demands.proofs.Reading.{ReadsTo, start, next, pass, as-iff, rank-not-zero}
use Rattle.laws.proofs.Tests.{and-iff, not_iff, eqb-iff, ltb_iff, leb-iff, all-iff, any-iff, all-up_to, true_of, denied-of, neither-iff}
use Rattle.laws.proofs.Rows.{all_append, all_cons}
use Rattle.laws.proofs.Numbers.{length-little_endian, field-written, field-alone, field_past, drop_past}
use Rattle.laws.proofs.Frames.{payload_of-frame, kind_field-frame, behind-frame, whole-frame}

-- ---- what is written comes back

-- a number in one byte
byte-back : (n : ℕ) → n < 256 → n % 256 + 256 * 0 ≡ n
byte-back n h = omega arith

-- each payload is read as what it was written from, where the numbers fit their fields
segment-back : (s : Segment) → s.a < 256 → s.b < 256 → s.ttd < 256 → segment_in (segment_payload s) ≡ s
unfolding segment_in segment_payload field number little_endian
segment-back s h k l = λ i. record { a = byte-back s.a h i; b = byte-back s.b k i; ttd = byte-back s.ttd l i }

join-back : (j : Join) → j.node < 256 → j.left < 256 → j.right < 256 → join_in (join_payload j) ≡ j
unfolding join_in join_payload field number little_endian
join-back j h k l = λ i. record { node = byte-back j.node h i; left = byte-back j.left k i; right = byte-back j.right l i }

-- a row of bytes
pub row_back : (ds : List ℕ) → ((d : ℕ) → Memᴰ d ds → d < 256) → each ds (little_endian 1) ≡ ds
unfolding each little_endian
row_back [] h = refl
row_back (d ∷ ds) h =
    let e : d % 256 ≡ d = omega (arith, h d (Memᴰ.head refl)) in
    λ i. e i ∷ row_back ds (λ x m. h x (Memᴰ.tail m)) i

-- a row of bytes is as long as the row
each-length : (ds : List ℕ) → length (each ds (little_endian 1)) ≡ length ds
unfolding each little_endian
each-length [] = refl
each-length (d ∷ ds) = ap suc (each-length ds)

-- the book with its Head's numbers and these rows
book-of : ℕ → ℕ → ℕ → List ℕ → List Segment → List Join → List Train → List Call → Book
book-of metres seconds intervals ns ss js ts cs = record {
  segment_metres = metres;
  interval_seconds = seconds;
  intervals = intervals;
  nodes = ns;
  segments = ss;
  joins = js;
  trains = ts;
  calls = cs;
}

-- the book with its Head and these rows
with_rows : Book → List ℕ → List Segment → List Join → List Train → List Call → Book
with_rows b = book-of b.segment_metres b.interval_seconds b.intervals

-- a time fits its field
abbrev Fits : Format → ℕ → Type 0
Fits f n = n < 256 ^ f.time_width

module _ (f : Format) where
  head-back : (b : Book) → b.segment_metres < 256 ^ 2 → b.interval_seconds < 256 ^ 2 → Fits f b.intervals
      → add f no_book head_kind (head_payload f b) ≡ with_rows b [] [] [] [] []
  unfolding add is_kind kind_number grown no_book head_payload with_rows book-of
  head-back b h k l =
      let m = b.segment_metres in
      let s = b.interval_seconds in
      let t = little_endian f.time_width b.intervals in
      let e₁ : field (little_endian 2 m ++ little_endian 2 s ++ t) 0 2 ≡ m = rw append_assoc (field-written 2 m _ h) in
      let e₂ : field (little_endian 2 m ++ little_endian 2 s ++ t) 2 2 ≡ s =
      rw append_assoc (field_past 2 m _ 0 2 2 (omega arith) ∙ field-written 2 s _ k) in
      let e₃ : field (little_endian 2 m ++ little_endian 2 s ++ t) 4 f.time_width ≡ b.intervals =
      rw append_assoc (field_past 2 m _ 2 4 _ (omega arith) ∙ field_past 2 s _ 0 2 _ (omega arith) ∙ field-alone f.time_width _ l) in
      λ i. book-of (e₁ i) (e₂ i) (e₃ i) [] [] [] [] []

  train-back : (t : Train) → t.metres < 256 ^ 2 → t.speed < 256 ^ 2 → Fits f t.departure
      → ((d : ℕ) → Memᴰ d t.place → d < 256) → train_in f (train_payload f t) ≡ t
  unfolding train_in train_payload
  train-back t h k l m = λ i. record { metres = e₁ i; speed = e₂ i; departure = e₃ i; place = e₄ i }
    where
      w : ℕ
      w = f.time_width

      row : Bytes
      row = each t.place (little_endian 1)

      e₁ : field (train_payload f t) 0 2 ≡ t.metres
      e₁ = simp append_assoc (field-written 2 t.metres _ h)

      e₂ : field (train_payload f t) 2 2 ≡ t.speed
      e₂ = simp append_assoc (field_past 2 t.metres _ 0 2 2 (omega arith) ∙ field-written 2 t.speed _ k)

      e₃ : field (train_payload f t) 4 w ≡ t.departure
      e₃ = simp append_assoc
          (field_past 2 t.metres _ 2 4 w (omega arith) ∙ field_past 2 t.speed _ 0 2 w (omega arith) ∙ field-written w t.departure _ l)

      e₄ : drop (train_fixed f) (train_payload f t) ≡ t.place
      e₄ = simp append_assoc
          (drop_past 2 t.metres _ (2 + w + 1) (train_fixed f) (omega arith) ∙ drop_past 2 t.speed _ (w + 1) (2 + w + 1) (omega arith)
          ∙ drop_past w t.departure _ 1 (w + 1) refl ∙ drop_past 1 (length t.place) row 0 1 (omega arith) ∙ row_back t.place m)

  call_back : (c : Call) → c.train < 256 → c.segment < 256 → Fits f c.first → Fits f c.last → call_in f (call_payload f c) ≡ c
  unfolding call_in call_payload
  call_back c h k l m = λ i. record { train = e₁ i; segment = e₂ i; first = e₃ i; last = e₄ i }
    where
      w : ℕ
      w = f.time_width

      e₁ : field (call_payload f c) 0 1 ≡ c.train
      e₁ = simp append_assoc (field-written 1 c.train _ (omega arith))

      e₂ : field (call_payload f c) 1 1 ≡ c.segment
      e₂ = simp append_assoc (field_past 1 c.train _ 0 1 1 (omega arith) ∙ field-written 1 c.segment _ (omega arith))

      e₃ : field (call_payload f c) 2 w ≡ c.first
      e₃ = simp append_assoc
          (field_past 1 c.train _ 1 2 w (omega arith) ∙ field_past 1 c.segment _ 0 1 w (omega arith) ∙ field-written w c.first _ l)

      e₄ : field (call_payload f c) (2 + w) w ≡ c.last
      e₄ = simp append_assoc
          (field_past 1 c.train _ (1 + w) _ w (omega arith) ∙ field_past 1 c.segment _ w _ w (omega arith)
          ∙ field_past w c.first _ 0 w w (omega arith) ∙ field-alone w c.last m)

  pub call_length : (c : Call) → length (call_payload f c) ≡ 2 + 2 * f.time_width
  unfolding call_payload
  call_length c = simp (length-append, length-little_endian) (omega arith)

  pub head-length : (b : Book) → length (head_payload f b) ≡ 4 + f.time_width
  unfolding head_payload
  head-length b = simp (length-append, length-little_endian) (omega arith)

  -- a train's payload is as long as its count says
  pub train-length : (t : Train) → length t.place < 256
      → (length (train_payload f t) ≡ train_fixed f + length t.place) × T (length_fits f train_kind (train_payload f t))
  unfolding train_payload length_fits
  train-length t h = (long, simp (and-iff, leb-iff, eqb-iff) (rw long (omega arith), long ∙ ap (λ (n : ℕ). train_fixed f + n) (sym count)))
    where
      w : ℕ
      w = f.time_width

      long : length (train_payload f t) ≡ train_fixed f + length t.place
      long = simp (length-append, length-little_endian, each-length) (omega arith)

      count : field (train_payload f t) (train_count_at f) 1 ≡ length t.place
      count = simp append_assoc
          (field_past 2 t.metres _ (2 + w) _ 1 (omega arith) ∙ field_past 2 t.speed _ w _ 1 (omega arith)
          ∙ field_past w t.departure _ 0 w 1 (omega arith) ∙ field-written 1 (length t.place) _ (omega arith))

-- ---- one frame

-- the number of a kind is that kind's, is known, and fits two bytes
pub kind-back : (k : Kind) → (find_kind (kind_number k) kind_order ≡ some k) × T (not (unknown_kind (kind_number k))) × (kind_number k < 256 ^ 2)
unfolding find_kind kind_number kind_order unknown_kind any
kind-back head_kind = (refl, tt, omega arith)
kind-back node_kind = (refl, tt, omega arith)
kind-back segment_kind = (refl, tt, omega arith)
kind-back join_kind = (refl, tt, omega arith)
kind-back train_kind = (refl, tt, omega arith)
kind-back call_kind = (refl, tt, omega arith)
kind-back unbreakable_kind = (refl, tt, omega arith)
kind-back end_kind = (refl, tt, omega arith)

-- what order forbids of a frame of kind k, behind one of rank `last` and before `rest`
misplaced : ℕ → Kind → Bytes → Bool
misplaced last k rest =
    eqb last 0 && not (is_head (kind_number k)) || not (eqb last 0) && is_head (kind_number k) || ltb (rank (kind_number k)) last
    || is_end (kind_number k) && not (empty rest)

-- A frame that was written, without a fault.
module _ (F : Format) (r : Reading) (k : Kind) (p rest : Bytes) (l : length p < 256 ^ 2)
    (o : T (not (misplaced r.last k rest))) (f : T (length_fits F k p)) (c : T (all passes (content_faults F r.book k p))) where
  written-clear : T (all passes (frame_faults F r (frame (kind_number k) p ++ rest)))
  unfolding frame_faults out_of_order kind_faults all passes misplaced
  written-clear =
      let n = kind-back k in
      rw (
        kind_field-frame (kind_number k) p rest n.2 l,
        payload_of-frame (kind_number k) p rest n.2 l,
        behind-frame (kind_number k) p rest n.2 l,
        n.0,
      )
      (simp (and-iff, not-not) (whole-frame (kind_number k) p rest n.2 l, (n.1, (o, (f, c)))))

  -- and, unless it is the End, it is read and added
  reads-written : T (not (is_end (kind_number k)))
      → read_frame F r (frame (kind_number k) p ++ rest) ≡ more (record { last = rank (kind_number k); book = add F r.book k p }) rest
  unfolding read_frame frame_read_at past_frame add_found
  reads-written e =
      let n = kind-back k in
      let q = kind_field-frame (kind_number k) p rest n.2 l in
      let d : is_end (kind_field (frame (kind_number k) p ++ rest)) ≡ false = rw q (denied-of (is_end (kind_number k)) e) in
      rw (
        clear_first _ written-clear,
        d,
        frame_read_at,
        q,
        payload_of-frame (kind_number k) p rest n.2 l,
        behind-frame (kind_number k) p rest n.2 l,
        n.0,
      )

-- neither a Head nor the End
unfoldable pub middle : Kind → Bool
middle k = not (is_head (kind_number k)) && not (is_end (kind_number k))

-- two tests do not both hold where one does not
not_left : (a b : Bool) → T (not a) → T (not (a && b))
not_left true b h = absurd h
not_left false b h = tt

not_right : (a b : Bool) → T (not b) → T (not (a && b))
not_right true b h = h
not_right false b h = tt

-- a frame but a Head is in its place behind one of no higher rank, if the End has nothing behind it
placed : (last : ℕ) (k : Kind) (rest : Bytes) → T (not (is_head (kind_number k))) → T (not (is_end (kind_number k) && not (empty rest)))
    → last ≢ 0 → last ≤ rank (kind_number k) → T (not (misplaced last k rest))
unfolding misplaced
placed last k rest m n h l =
    let z : T (not (eqb last 0)) = (not_iff (eqb last 0)).1 (λ t. h (eqb→eq last 0 t)) in
    simp neither-iff
    (((not_left (eqb last 0) _ z, not_right (not (eqb last 0)) (is_head (kind_number k)) m), le→nltb _ _ l), n)

-- Reading s comes to the book b, with `rest` left, by frames of rank 1 to `most`.
record Comes (F : Format) (s : Bytes) (most : ℕ) (b : Book) (rest : Bytes) : Type 0 where
  last : ℕ
  some : last ≢ 0
  low : last ≤ most
  chain : ReadsTo F s (record { last = last; book = b }) rest

-- ---- frames of one kind

-- `book` gives the book with a row in place.
module _ {A : Type 0} (F : Format) (k : Kind) (payload : A → Bytes) (book : List A → Book) where
  -- the frame of x is without a fault and adds x, behind those before it
  record Adds (before : List A) (x : A) : Type 0 where
    short : length (payload x) < 256 ^ 2
    fits : T (length_fits F k (payload x))
    clear : T (all passes (content_faults F (book before) k (payload x)))
    adds : add F (book before) k (payload x) ≡ book (before ++ one x)

  -- then the frames of a row are read as that row
  reads-row : {s : Bytes} (rest : Bytes) (before xs : List A) (most : ℕ) → T (middle k) → most ≤ rank (kind_number k)
      → ((y : List A) (x : A) (z : List A) → before ++ xs ≡ y ++ x ∷ z → Adds y x)
      → Comes F s most (book before) (frames_of k payload xs ++ rest) → Comes F s (rank (kind_number k)) (book (before ++ xs)) rest
  unfolding frames_of each middle rank
  reads-row rest before [] most m l g c =
      let r : c.last ≤ rank (kind_number k) = omega (arith, c.low) in
      record { last = c.last; some = c.some; low = r; chain = rw append-nil c.chain }
  reads-row rest before (x ∷ xs) most m l g c =
      let w = g before x xs refl in
      let p = simp and-iff at m in
      let v = frames_of k payload xs ++ rest in
      let o = placed c.last k v p.0 (not_left (is_end (kind_number k)) (not (empty v)) p.1) c.some (omega (arith, c.low)) in
      let e = next (rw append_assoc at c.chain) (reads-written F _ k (payload x) v w.short o w.fits w.clear p.1) in
      let j = append_snoc before x xs in
      rw (← j)
      (reads-row rest (before ++ one x) xs (rank (kind_number k)) m (omega arith) (λ y x' z q. g y x' z (sym j ∙ q))
      (record { last = rank (kind_number k); some = rank-not-zero (kind_number k) kind_order; low = omega arith; chain = rw w.adds at e }))

-- ---- the parts of a well-formed book

-- what holds all along a row holds of each of its parts
all-part : {A : Type 0} (f : A → Bool) (xs ys : List A) (x : A) (zs : List A) → xs ≡ ys ++ x ∷ zs → T (all f xs) → T (f x)
all-part f xs ys x zs e h = (simp (all_append, all_cons, and-iff) at (rw e at h)).1.0

-- there is room for each part of a row of at most n
room : {A : Type 0} (n : ℕ) (xs ys : List A) (x : A) (zs : List A) → xs ≡ ys ++ x ∷ zs → length xs ≤ n → T (not (leb n (length ys)))
room n xs ys x zs e h = lt→nleb n (length ys) (omega (arith, length-append ys (x ∷ zs), ap length e))

-- a join of a row without repetition repeats none before it
repeats-none : (js ys : List Join) (j : Join) (zs : List Join) → js ≡ ys ++ j ∷ zs → T (joins_once js) → T (not (join_repeats ys j))
unfolding joins_once
repeats-none js ys j zs e h =
    let l : length ys < length (ys ++ j ∷ zs) = simp length-append (omega arith) in
    let k = (all-up_to _ (length (ys ++ j ∷ zs))).0 (rw e at h) (length ys) l in
    rw (take-append_seam ys (j ∷ zs), get_or-append_seam ys j zs (record { node = 0; left = 0; right = 0 })) at k

-- a train with at most four calls has fewer before each of them
fewer-before : (cs ys : List Call) (c : Call) (zs : List Call) → cs ≡ ys ++ c ∷ zs
    → length (pick (λ d. eqb d.train c.train) cs) ≤ 4
    → T (not (leb 4 (length (pick (λ d. eqb d.train c.train) ys))))
unfolding pick only
fewer-before cs ys c zs e h =
    let k = rw (e, pick-append (λ d. eqb d.train c.train) ys (c ∷ zs), length-append) at h in
    let m = rw (true_of (eqb c.train c.train) (eqb_refl c.train), only) at k in
    lt→nleb 4 (length (pick (λ d. eqb d.train c.train) ys)) (omega arith)

-- the format in force is one
pub book-apt : Apt book_format
book-apt = record { within = omega arith; fits = omega arith; narrow = omega arith }

module _ (F : Format) (a : Apt F) (b : Book) (w : Parts b) (u : b.intervals ≤ F.greatest_t) where
  -- each part of the book, in its frame, is without a fault and is added behind those before it
  node-adds : (ys : List ℕ) (x : ℕ) (zs : List ℕ) → b.nodes ≡ ys ++ x ∷ zs
      → Adds F node_kind node_payload (λ ns. with_rows b ns [] [] [] []) ys x
  unfolding node_payload little_endian field number length_fits content_faults add is_kind kind_number grown all passes with_rows book-of greatest_node_kind
  node-adds ys x zs e =
      let l = leb→le x greatest_node_kind (all-part _ b.nodes ys x zs e w.nodes) in
      let q = byte-back x (omega arith) in
      record {
        short = omega arith;
        fits = tt;
        clear = rw q (simp and-iff (room 96 b.nodes ys x zs e w.few_nodes, (le→nltb greatest_node_kind x l, tt)));
        adds = ap (λ n. with_rows b (ys ++ one n) [] [] [] []) q;
      }

  segment-adds : (ys : List Segment) (x : Segment) (zs : List Segment) → b.segments ≡ ys ++ x ∷ zs
      → Adds F segment_kind segment_payload (λ ss. with_rows b b.nodes ss [] [] []) ys x
  unfolding segment_payload little_endian length_fits content_faults add is_kind kind_number grown all passes with_rows book-of segment_fits
  segment-adds ys x zs e =
      let f = all-part _ b.segments ys x zs e w.segments in
      let p = simp (and-iff, ltb_iff, leb-iff) at f in
      let n = w.few_nodes in
      let q = segment-back x (omega arith) (omega arith) (omega arith) in
      record {
        short = omega arith;
        fits = tt;
        clear = rw q (simp (and-iff, not-not) (room 64 b.segments ys x zs e w.few_segments, (simp and-iff at f, tt)));
        adds = ap (λ s. with_rows b b.nodes (ys ++ one s) [] [] []) q;
      }

  join-adds : (ys : List Join) (x : Join) (zs : List Join) → b.joins ≡ ys ++ x ∷ zs
      → Adds F join_kind join_payload (λ js. with_rows b b.nodes b.segments js [] []) ys x
  unfolding join_payload little_endian length_fits content_faults add is_kind kind_number grown all passes with_rows book-of join_fits segment_at
  join-adds ys x zs e =
      let f = all-part _ b.joins ys x zs e w.joins in
      let p = simp (and-iff, ltb_iff) at f in
      let n = w.few_nodes in
      let m = w.few_segments in
      let q = join-back x (omega arith) (omega arith) (omega arith) in
      record {
        short = omega arith;
        fits = tt;
        clear = rw q (simp (and-iff, neither-iff, not-not) (
          room 128 b.joins ys x zs e w.few_joins,
          ((simp and-iff at f, repeats-none b.joins ys x zs e w.once), tt),
        ));
        adds = ap (λ j. with_rows b b.nodes b.segments (ys ++ one j) [] []) q;
      }

  call-adds : (ys : List Call) (x : Call) (zs : List Call) → b.calls ≡ ys ++ x ∷ zs
      → Adds F call_kind (call_payload F) (λ cs. with_rows b b.nodes b.segments b.joins b.trains cs) ys x
  unfolding length_fits content_faults add is_kind kind_number grown all passes with_rows book-of call_fits calls_of between
  call-adds ys x zs e =
      let f = all-part _ b.calls ys x zs e w.calls in
      let p = simp (and-iff, ltb_iff, leb-iff) at f in
      let k = (simp (and-iff, leb-iff) at ((all-up_to _ (length b.trains)).0 w.counts x.train p.0.0.0)).1 in
      let n = w.few_trains in
      let m = w.few_segments in
      let v = a.fits in
      let q = call_back F x (omega arith) (omega arith) (omega arith) (omega arith) in
      let z = call_length F x in
      record {
        short = omega (arith, a.narrow);
        fits = (eqb-iff _ _).1 z;
        clear = rw q (simp (and-iff, not-not) (fewer-before b.calls ys x zs e k, (simp and-iff at f, tt)));
        adds = ap (λ c. with_rows b b.nodes b.segments b.joins b.trains (ys ++ one c)) q;
      }

  -- a path of the book, in the book without its trains
  linked-same : (ts : List Train) (ds : List ℕ) → linked (with_rows b b.nodes b.segments b.joins ts []) ds ≡ linked b ds
  unfolding linked leads_to joined start_node end_node segment_at with_rows book-of
  linked-same ts [] = refl
  linked-same ts (d ∷ []) = refl
  linked-same ts (d ∷ e ∷ ds) = ap (λ x. leads_to b d e && x) (linked-same ts (e ∷ ds))

  -- what a train of the book says of its numbers
  place-bytes : (x : Train) → T (train_fits b x) → (d : ℕ) → Memᴰ d x.place → d < 256
  unfolding train_fits
  place-bytes x f d m =
      let p = simp and-iff at f in
      let l = ltb→lt d (2 * length b.segments) ((all-iff _ x.place).0 p.1 d m) in
      omega (arith, w.few_segments)

  -- a train that fits the book fits it without its trains
  train-same : (ts : List Train) (x : Train) → T (train_fits b x) → T (reach_fits b x) → T (place_fits b x)
      → let c = with_rows b b.nodes b.segments b.joins ts [] in T (train_fits c x) × (T (reach_fits c x) × (T (place_fits c x) × Unit {0}))
  unfolding train_fits reach_fits place_fits is_path length_in_segments speed_in_segments with_rows book-of
  train-same ts x f g h = (f, (g, (rw (linked-same ts x.place) h, tt)))

  -- and its departure and count fit their fields
  train-small : (x : Train) → T (train_fits b x) → T (reach_fits b x) → T (place_fits b x)
      → Fits F x.departure × (length x.place < 256)
  unfolding train_fits reach_fits place_fits between
  train-small x f g h =
      let p = simp (and-iff, ltb_iff) at f in
      let q = simp (and-iff, leb-iff) at g in
      let r = simp (and-iff, eqb-iff) at h in
      (omega (arith, a.fits), omega arith)

  -- so a train, in its frame, is added too
  train-adds : T (all (λ t. ltb t.metres 65536 && ltb t.speed 65536) b.trains)
      → (ys : List Train) (x : Train) (zs : List Train) → b.trains ≡ ys ++ x ∷ zs
      → Adds F train_kind (train_payload F) (λ ts. with_rows b b.nodes b.segments b.joins ts []) ys x
  unfolding content_faults add is_kind kind_number grown all passes with_rows book-of
  train-adds v ys x zs e =
      let f = simp and-iff at (all-part _ b.trains ys x zs e w.trains) in
      let g = simp (and-iff, ltb_iff) at (all-part _ b.trains ys x zs e v) in
      let z = train-small x f.0.0.0 f.0.0.1 f.0.1 in
      let l = train-length F x z.1 in
      let q = train-back F x g.0 g.1 z.0 (place-bytes x f.0.0.0) in
      record {
        short = omega (arith, l.0, a.narrow);
        fits = l.1;
        clear = rw q (simp (and-iff, not-not) (room 8 b.trains ys x zs e w.few_trains, train-same ys x f.0.0.0 f.0.0.1 f.0.1));
        adds = ap (λ t. with_rows b b.nodes b.segments b.joins (ys ++ one t) []) q;
      }

  -- a TTD that some segment has fits a byte
  ttd-small : (u : ℕ) → T (some_has b u) → u < 256
  unfolding some_has segment_fits
  ttd-small u h =
      let s = (any-iff _ b.segments).0 h in
      let e = eqb→eq s.0.ttd u s.2 in
      let l = simp (and-iff, leb-iff) at ((all-iff _ b.segments).0 w.segments s.0 s.1) in
      omega arith

  -- the frame of an unbreakable TTD that never divides is without a fault, and adds nothing
  ttd-adds : (us : List ℕ) → Allowed b us
      → (ys : List ℕ) (x : ℕ) (zs : List ℕ) → us ≡ ys ++ x ∷ zs → Adds F unbreakable_kind unbreakable_payload (λ _. b) ys x
  unfolding unbreakable_payload little_endian field number length_fits content_faults add is_kind kind_number grown all passes
  ttd-adds us g ys x zs e =
      let p = simp and-iff at (all-part _ us ys x zs e g) in
      record {
        short = omega arith;
        fits = tt;
        clear = rw (byte-back x (ttd-small x p.0)) (simp (and-iff, not-not) (p.0, (p.1, tt)));
        adds = refl;
      }

-- ---- the whole file

-- a row with one at least is not empty
has_one : {A : Type 0} (xs : List A) → 1 ≤ length xs → T (not (empty xs))
unfolding empty
has_one [] h = absurd (not-suc-le-zero h)
has_one (x ∷ xs) h = tt

-- a well-formed book has no fault of the book
book-clear : (b : Book) → Parts b → T (all passes (book_faults b))
unfolding book_faults all passes between
book-clear b w =
    let some = (none-iff (λ i. empty (calls_of b i)) (up_to (length b.trains))).1
    (all-weaken _ _ (up_to (length b.trains)) (λ i h. has_one (calls_of b i) (simp (and-iff, leb-iff) at h).0) w.counts) in
    let few = (none-iff (λ t. ltb 256 (length (runs_of b t))) b.trains).1
    (all-weaken _ _ b.trains (λ t h. le→nltb 256 (length (runs_of b t)) (simp (and-iff, leb-iff) at h).1) w.trains) in
    simp (and-iff, neither-iff) ((w.some_train, some), (few, tt))

module _ (F : Format) (a : Apt F) (b : Book) (w : Parts b) (u : b.intervals ≤ F.greatest_t) (f : FitsFields b) where
  -- the Head's numbers, as they are read
  head-said : add F no_book head_kind (head_payload F b) ≡ with_rows b [] [] [] [] []
  head-said = head-back F b f.metres f.seconds (omega (arith, a.fits))

  -- the Head fits
  head_clear : T (all passes (content_faults F no_book head_kind (head_payload F b)))
  unfolding content_faults all passes head_fits between with_rows book-of
  head_clear =
      let h = simp (and-iff, leb-iff) at w.head in
      rw head-said (simp (and-iff, not-not, leb-iff) ((h.0, (h.1.0, u)), tt))

  -- the Head frame is read
  head_read : (rest : Bytes) → read_frame F reading_start (frame (kind_number head_kind) (head_payload F b) ++ rest)
      ≡ more (record { last = 1; book = with_rows b [] [] [] [] [] }) rest
  unfolding reading_start misplaced is_head is_end kind_number rank rank_in kind_order length_fits
  head_read rest =
      let l = head-length F b in
      reads-written F reading_start head_kind (head_payload F b) rest (omega (arith, a.narrow)) tt ((eqb-iff _ _).1 l) head_clear tt
      ∙ ap (λ c. more (record { last = 1; book = c }) rest) head-said

-- at the End frame a well-formed book is accepted
end_read : (F : Format) (s : Bytes) (b : Book) → Parts b → Comes F s 7 b (frame (kind_number end_kind) []) → read_as F s ≡ accepted b
unfolding frame little_endian kind_number kind_field is_end is_head empty field number rank rank_in kind_order length_fits content_faults all
end_read F s b w c =
    let r : Reading = record { last = c.last; book = b } in
    let o = placed c.last end_kind [] tt tt c.some (omega (arith, c.low)) in
    (as-iff F s (accepted b)).1 (r, _, c.chain, pass (written-clear F r end_kind [] [] (omega arith) o tt tt) tt (book-clear b w) refl)

-- A well-formed book whose numbers fit their fields is read back from its file, with a frame for each of some unbreakable TTDs
-- that segments of the book have and that never divide: in every apt format whose greatest T it keeps to,
pub as-built : (F : Format) (b : Book) (ttds : List ℕ) → Apt F → T (well_formed b) → FitsFields b → b.intervals ≤ F.greatest_t
    → Allowed b ttds → read_as F (book_file F b ttds) ≡ accepted b
unfolding book_file frames_then with_rows book-of rank rank_in kind_order kind_number middle is_head is_end
as-built F b ttds a h f u v =
    let w = parts b h in
    let c₀ : Comes F (book_file F b ttds) 1 (with_rows b [] [] [] [] []) _ =
    record { last = 1; some = omega arith; low = omega arith; chain = next start (head_read F a b w u f _) } in
    let c₁ = reads-row F node_kind node_payload (λ ns. with_rows b ns [] [] [] []) _ [] b.nodes 1 tt (lit≤ tt) (node-adds F a b w u) c₀ in
    let c₂ = reads-row F segment_kind segment_payload (λ ss. with_rows b b.nodes ss [] [] []) _ [] b.segments 2 tt (lit≤ tt)
    (segment-adds F a b w u) c₁ in
    let c₃ = reads-row F join_kind join_payload (λ js. with_rows b b.nodes b.segments js [] []) _ [] b.joins 3 tt (lit≤ tt)
    (join-adds F a b w u) c₂ in
    let c₄ = reads-row F train_kind (train_payload F) (λ ts. with_rows b b.nodes b.segments b.joins ts []) _ [] b.trains 4 tt
    (lit≤ tt) (train-adds F a b w u f.trains) c₃ in
    let c₅ = reads-row F call_kind (call_payload F) (λ cs. with_rows b b.nodes b.segments b.joins b.trains cs) _ [] b.calls 5
    tt (lit≤ tt) (call-adds F a b w u) c₄ in
    let c₆ = reads-row F unbreakable_kind unbreakable_payload (λ _. b) _ [] ttds 6 tt (lit≤ tt) (ttd-adds F a b w u ttds v) c₅ in
    end_read F (book_file F b ttds) b w c₆

-- and so in the format in force.
pub read-built : (b : Book) (ttds : List ℕ) → T (well_formed b) → FitsFields b
    → Allowed b ttds → read_book (book_file book_format b ttds) ≡ accepted b
unfolding read_book head_fits between
read-built b ttds h f v =
    let k = simp (and-iff, leb-iff) at (parts b h).head in as-built book_format b ttds book-apt h f k.1.1 v
