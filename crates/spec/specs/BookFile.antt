-- The file of a book in a format, built from its parts: the frames of "The book", each payload field by field. What a reader must
-- give back is stated against this, and not against the reader. Assumes nothing.
use Rattle.std.specs.Prelude.{◌&&◌, ℕ, ◌<◌, List, [], ◌++◌, length, T, ltb}
use Rattle.spec.specs.Lists.{Bytes, all, each}
use Rattle.spec.specs.Numbers.{little_endian}
use Rattle.spec.specs.Frames.{frame, Kind, head_kind, node_kind, segment_kind, join_kind, train_kind, call_kind, unbreakable_kind, end_kind, kind_number, Format}
use Rattle.spec.specs.Book.{Book, Segment, Join, Train, Call}

-- What a frame's payload is, field by field.
unfoldable pub head_payload : Format → Book → Bytes
head_payload f b =
    little_endian 2 b.segment_metres ++ little_endian 2 b.interval_seconds ++ little_endian f.time_width b.intervals

unfoldable pub node_payload : ℕ → Bytes
node_payload k = little_endian 1 k

unfoldable pub segment_payload : Segment → Bytes
segment_payload s = little_endian 1 s.a ++ little_endian 1 s.b ++ little_endian 1 s.ttd

unfoldable pub join_payload : Join → Bytes
join_payload j = little_endian 1 j.node ++ little_endian 1 j.left ++ little_endian 1 j.right

unfoldable pub train_payload : Format → Train → Bytes
train_payload f t =
    little_endian 2 t.metres ++ little_endian 2 t.speed ++ little_endian f.time_width t.departure
    ++ little_endian 1 (length t.place) ++ each t.place (little_endian 1)

unfoldable pub call_payload : Format → Call → Bytes
call_payload f c =
    little_endian 1 c.train ++ little_endian 1 c.segment
    ++ little_endian f.time_width c.first ++ little_endian f.time_width c.last

-- "7 Unbreakable TTD: a TTD that some segment has. A repeat is allowed."
unfoldable pub unbreakable_payload : ℕ → Bytes
unbreakable_payload ttd = little_endian 1 ttd

-- the frames of one kind, one behind the other
unfoldable pub frames_of : {A : Type 0} → Kind → (A → Bytes) → List A → Bytes
frames_of k payload xs = each xs (λ x. frame (kind_number k) (payload x))

module _ (f : Format) (b : Book) (ttds : List ℕ) where
  -- The frames of a book but its End, with these TTDs in its frames of kind Unbreakable TTD (a book keeps none of them), in the
  -- order of their kinds; `rest` stands behind them.
  unfoldable pub frames_then : Bytes → Bytes
  frames_then rest =
      frame (kind_number head_kind) (head_payload f b)
      ++ (frames_of node_kind node_payload b.nodes
      ++ (frames_of segment_kind segment_payload b.segments
      ++ (frames_of join_kind join_payload b.joins
      ++ (frames_of train_kind (train_payload f) b.trains
      ++ (frames_of call_kind (call_payload f) b.calls
      ++ (frames_of unbreakable_kind unbreakable_payload ttds
      ++ rest))))))

  -- the file of a book: its frames, and its End
  unfoldable pub book_file : Bytes
  book_file = frames_then (frame (kind_number end_kind) [])

-- The numbers that have two bytes in every format fit them. Those of one byte do so in every well-formed book; times do so in an
-- apt format (`Apt`, in crates/demands/specs/BookFiles.antt).
pub record FitsFields (b : Book) : Type 0 where
  pub metres : b.segment_metres < 65536
  pub seconds : b.interval_seconds < 65536
  pub trains : T (all (λ t. ltb t.metres 65536 && ltb t.speed 65536) b.trains)
