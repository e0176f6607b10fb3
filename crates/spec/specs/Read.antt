-- Reading a book: the frames in file order, each through its table of refusals by rising number, then the book's own.
-- The lines of these tables are document 01's table of refusals 1 to 11. Assumes nothing.
use Rattle.std.specs.Prelude.{Bool, true, false, not, ◌&&◌, ◌||◌, cond, ℕ, zero, suc, ◌+◌, ◌*◌, List, [], ◌∷◌, ◌++◌, length, get_or, take, drop, leb, ltb, eqb}
use Rattle.std.proofs.Math.Option.{Option, none, some}
use Rattle.spec.specs.Lists.{Bytes, any, all, up_to, one, empty, Fault, ◌when◌, first_fault, faultless, Verdict, accepted, refused}
use Rattle.spec.specs.Numbers.{field}
use Rattle.spec.specs.Frames.{Kind, head_kind, node_kind, segment_kind, join_kind, train_kind, call_kind, unbreakable_kind, end_kind, kind_number}
use Rattle.spec.specs.Frames.{times_at, is_kind, kind_order, find_kind, rank, Format, book_format, train_fixed, length_fits, kind_field, payload_of, behind, cut_short}
use Rattle.spec.specs.Book.{Book, Segment, Join, Train, Call, no_book}
use Rattle.spec.specs.Book.{node_kind_at, segment_at, calls_of, denies_border, greatest_node_kind, touches, share_node, join_is, length_in_segments, speed_in_segments}
use Rattle.spec.specs.Runs.{is_path, runs_of}

-- What a payload says, field by field.
unfoldable pub segment_in : Bytes → Segment
segment_in p = record { a = field p 0 1; b = field p 1 1; ttd = field p 2 1 }

unfoldable pub join_in : Bytes → Join
join_in p = record { node = field p 0 1; left = field p 1 1; right = field p 2 1 }

unfoldable pub train_in : Format → Bytes → Train
train_in f p = record
    { metres = field p 0 2; speed = field p 2 2; departure = field p (times_at train_kind) f.time_width; place = drop (train_fixed f) p }

unfoldable pub call_in : Format → Bytes → Call
call_in f p = record {
  train = field p 0 1;
  segment = field p 1 1;
  first = field p (times_at call_kind) f.time_width;
  last = field p (times_at call_kind + f.time_width) f.time_width;
}

-- a row that frames of its kind make longer
unfoldable pub grown : {A : Type 0} → Bool → List A → A → List A
grown true xs x = xs ++ one x
grown false xs x = xs

-- the book with what a frame of kind k adds
unfoldable pub add : Format → Book → Kind → Bytes → Book
add f b k p = record {
  segment_metres = cond (is_kind k head_kind) (field p 0 2) b.segment_metres;
  interval_seconds = cond (is_kind k head_kind) (field p 2 2) b.interval_seconds;
  intervals = cond (is_kind k head_kind) (field p (times_at head_kind) f.time_width) b.intervals;
  nodes = grown (is_kind k node_kind) b.nodes (field p 0 1);
  segments = grown (is_kind k segment_kind) b.segments (segment_in p);
  joins = grown (is_kind k join_kind) b.joins (join_in p);
  trains = grown (is_kind k train_kind) b.trains (train_in f p);
  calls = grown (is_kind k call_kind) b.calls (call_in f p);
}

-- The limits: "At most 96", "At most 64", "At most 128", "At most 8", "One to four a train", "T may be 1 to 256", "TTD 0 to 63",
-- l and k "are 1 to 8", "At most 256 a train".
abbrev pub max_nodes : ℕ
max_nodes = 96

abbrev pub max_segments : ℕ
max_segments = 64

abbrev pub max_joins : ℕ
max_joins = 128

abbrev pub max_trains : ℕ
max_trains = 8

abbrev pub max_calls : ℕ
max_calls = 4

abbrev pub max_intervals : ℕ
max_intervals = book_format.greatest_t

abbrev pub max_ttd : ℕ
max_ttd = 63

abbrev pub max_reach : ℕ
max_reach = 8

abbrev pub max_runs : ℕ
max_runs = 256

unfoldable pub between : ℕ → ℕ → ℕ → Bool
between low high n = leb low n && leb n high

-- 6 of a Head: "rs, rt at least 1", and T from 1 to the greatest of the format
unfoldable pub head_fits : Format → Book → Bool
head_fits f b = leb 1 b.segment_metres && leb 1 b.interval_seconds && between 1 f.greatest_t b.intervals

-- 6 of a Segment: "node a, node b (different), TTD 0 to 63"
unfoldable pub segment_fits : Book → Segment → Bool
segment_fits b s =
    ltb s.a (length b.nodes) && ltb s.b (length b.nodes) && not (eqb s.a s.b) && leb s.ttd max_ttd

-- 6 of a Join: "node, two different segments touching it"
unfoldable pub join_fits : Book → Join → Bool
join_fits b j =
    ltb j.node (length b.nodes) && ltb j.left (length b.segments) && ltb j.right (length b.segments)
    && not (eqb j.left j.right)
    && touches (segment_at b j.left) j.node && touches (segment_at b j.right) j.node

-- 6 of a Join: "a pair at one node stands once, in either order"; these are the joins before it
unfoldable pub join_repeats : List Join → Join → Bool
join_repeats before j = any (join_is j.node j.left j.right) before

-- 6 of a Train: "at least 1", "below T", "n directed segments"
unfoldable pub train_fits : Book → Train → Bool
train_fits b t =
    leb 1 t.metres && ltb t.departure b.intervals && all (λ d. ltb d (2 * length b.segments)) t.place

-- 7: "Both are 1 to 8."
unfoldable pub reach_fits : Book → Train → Bool
reach_fits b t = between 1 max_reach (length_in_segments b t) && between 1 max_reach (speed_in_segments b t)

-- 8: "n is not l, or the row is no path"
unfoldable pub place_fits : Book → Train → Bool
place_fits b t = eqb (length t.place) (length_in_segments b t) && is_path b t.place

-- 6 of a Call: "train, segment, first, last, with first ≤ last ≤ T"
unfoldable pub call_fits : Book → Call → Bool
call_fits b c =
    ltb c.train (length b.trains) && ltb c.segment (length b.segments) && leb c.first c.last
    && leb c.last b.intervals

-- 6 of an Unbreakable TTD: "a TTD that some segment has"
unfoldable pub some_has : Book → ℕ → Bool
some_has b ttd = any (λ s. eqb s.ttd ttd) b.segments

-- 9: "unbreakable TTD with two segments at a node of kind 1 or 2", which of kinds 0 to 3 are those that may have a border
unfoldable pub may_divide : Book → ℕ → Bool
may_divide b ttd =
    any (λ n. not (denies_border (node_kind_at b n))
    && any (λ s. eqb (segment_at b s).ttd ttd && any (λ t. share_node b n s t) (up_to (length b.segments)))
    (up_to (length b.segments)))
    (up_to (length b.nodes))

-- 5 to 9, by kind; b is the book as far as it was read
unfoldable pub content_faults : Format → Book → Kind → Bytes → List Fault
content_faults f b head_kind p = one (6 when not (head_fits f (add f b head_kind p)))
content_faults f b node_kind p = 5 when leb max_nodes (length b.nodes) ∷ one (6 when ltb greatest_node_kind (field p 0 1))
content_faults f b segment_kind p =
    5 when leb max_segments (length b.segments) ∷ one (6 when not (segment_fits b (segment_in p)))
content_faults f b join_kind p =
    5 when leb max_joins (length b.joins) ∷ one (6 when (not (join_fits b (join_in p)) || join_repeats b.joins (join_in p)))
content_faults f b train_kind p =
    5 when leb max_trains (length b.trains) ∷ 6 when not (train_fits b (train_in f p)) ∷ 7 when not (reach_fits b (train_in f p))
    ∷ one (8 when not (place_fits b (train_in f p)))
content_faults f b call_kind p =
    5 when leb max_calls (length (calls_of b (call_in f p).train)) ∷ one (6 when not (call_fits b (call_in f p)))
content_faults f b unbreakable_kind p = 6 when not (some_has b (field p 0 1)) ∷ one (9 when may_divide b (field p 0 1))
content_faults f b end_kind p = []

-- How far the reader is: the rank of the last frame's kind (0 before the first), and the book as far as it was read.
pub record Reading : Type 0 where
  pub last : ℕ
  pub book : Book

unfoldable pub reading_start : Reading
reading_start = record { last = 0; book = no_book }

unfoldable pub is_head : ℕ → Bool
is_head n = eqb n (kind_number head_kind)

unfoldable pub is_end : ℕ → Bool
is_end n = eqb n (kind_number end_kind)

-- 2: "kind not 1 to 8"
unfoldable pub unknown_kind : ℕ → Bool
unknown_kind n = not (any (λ k. eqb n (kind_number k)) kind_order)

-- 3: "first not Head, second Head, kind gone down, bytes after End"
unfoldable pub out_of_order : ℕ → Bytes → Bool
out_of_order last s =
    eqb last 0 && not (is_head (kind_field s)) || not (eqb last 0) && is_head (kind_field s)
    || ltb (rank (kind_field s)) last || is_end (kind_field s) && not (empty (behind s))

-- 10: "no train, or one without a call"; 11: "over 256 runs"
unfoldable pub book_faults : Book → List Fault
book_faults b =
    10 when (empty b.trains || any (λ i. empty (calls_of b i)) (up_to (length b.trains)))
    ∷ one (11 when any (λ t. ltb max_runs (length (runs_of b t))) b.trains)

-- a refusal of the reader has detail 0
unfoldable pub refuse_or : {A : Type 0} → Option ℕ → A → Verdict A
refuse_or none a = accepted a
refuse_or (some n) a = refused n 0

-- One frame: the end of reading with its verdict, or reading on behind it.
pub data FrameRead : Type 0 where
  stop : Verdict Book → FrameRead
  more : Reading → Bytes → FrameRead

-- ---- reading a file of a format

module _ (f : Format) where
  -- 4 to 9, for a number that may be no kind's
  unfoldable pub kind_faults : Book → Option Kind → Bytes → List Fault
  kind_faults b none p = []
  kind_faults b (some k) p = 4 when not (length_fits f k p) ∷ content_faults f b k p

  -- 1 to 9 for the frame at the start of s: "each by rising number"
  unfoldable pub frame_faults : Reading → Bytes → List Fault
  frame_faults r s =
      1 when cut_short s ∷ 2 when unknown_kind (kind_field s) ∷ 3 when out_of_order r.last s
      ∷ kind_faults r.book (find_kind (kind_field s) kind_order) (payload_of s)

  unfoldable pub add_found : Book → Option Kind → Bytes → Book
  add_found b none p = b
  add_found b (some k) p = add f b k p

  -- the reader past the frame at the start of s
  unfoldable pub past_frame : Reading → Bytes → Reading
  past_frame r s = record
      { last = rank (kind_field s); book = add_found r.book (find_kind (kind_field s) kind_order) (payload_of s) }

  unfoldable pub frame_read_at : Option ℕ → Reading → Bytes → FrameRead
  frame_read_at (some n) r s = stop (refused n 0)
  frame_read_at none r s =
      elim (is_end (kind_field s)) [
        | true ↦ stop (refuse_or (first_fault (book_faults r.book)) r.book)
        | false ↦ more (past_frame r s) (behind s)
      ]

  unfoldable pub read_frame : Reading → Bytes → FrameRead
  read_frame r s = frame_read_at (first_fault (frame_faults r s)) r s

  -- "Frames are taken in file order … then the book". A frame has four bytes at least, so `fuel` is never used up.
  unfoldable pub read_from : ℕ → Reading → Bytes → Verdict Book
  read_from zero r s = refused 1 0
  read_from (suc fuel) r s = elim (read_frame r s) [ stop v ↦ v | more r' s' ↦ read_from fuel r' s' ]

  unfoldable pub read_as : Bytes → Verdict Book
  read_as s = read_from (suc (length s)) reading_start s

-- a book, in the format in force
unfoldable pub read_book : Bytes → Verdict Book
read_book s = read_as book_format s

-- ---- what a book that was read is

-- at most n, and each passes the test
unfoldable pub few : {A : Type 0} → ℕ → (A → Bool) → List A → Bool
few n f xs = leb (length xs) n && all f xs

-- a train fits, with its l and k and its place
unfoldable pub train_all_fits : Book → Train → Bool
train_all_fits b t = train_fits b t && reach_fits b t && place_fits b t

-- no join of the list repeats one before it
unfoldable pub joins_once : List Join → Bool
joins_once js = all (λ n. not (join_repeats (take n js) (get_or js n (record { node = 0; left = 0; right = 0 })))) (up_to (length js))

-- What 5 to 8 leave of the book as far as it was read, once its Head was: no limit is passed, and each record fits.
unfoldable pub growing : Book → Bool
growing b =
    head_fits book_format b
    && few max_nodes (λ k. leb k greatest_node_kind) b.nodes
    && few max_segments (segment_fits b) b.segments
    && (few max_joins (join_fits b) b.joins && joins_once b.joins)
    && few max_trains (train_all_fits b) b.trains
    && (all (call_fits b) b.calls && all (λ i. leb (length (calls_of b i)) max_calls) (up_to (length b.trains)))

-- Every sentence of "The book" and "Runs and the plan" that a book can break, of the book as a whole: its records fit, and 10
-- and 11 find nothing.
unfoldable pub well_formed : Book → Bool
well_formed b = growing b && faultless (book_faults b)
