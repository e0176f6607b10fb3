-- "A file of frames": length, kind, payload; each kind's number; and what a format says of payloads: how long each kind's is.
-- Numbers and lengths are written down here once. Assumes nothing.
use Rattle.std.specs.Prelude.{Bool, true, false, ◌&&◌, ◌||◌, ℕ, suc, ◌+◌, ◌*◌, ◌-◌, ◌%◌, List, [], ◌∷◌, ◌++◌, length, take, drop, leb, ltb, eqb}
use Rattle.std.proofs.Math.Option.{Option, none, some}
use Rattle.spec.specs.Lists.{Bytes}
use Rattle.spec.specs.Numbers.{little_endian, field}

-- "two-byte length of the payload, two-byte kind, payload": how many bytes a frame has ahead of its payload
abbrev pub frame_head : ℕ
frame_head = 4

-- "two-byte length of the payload, two-byte kind, payload; all little-endian"
unfoldable pub frame : ℕ → Bytes → Bytes
frame kind payload = little_endian 2 (length payload) ++ little_endian 2 kind ++ payload

-- The frame at the start of s: what its head says, its payload, and what stands behind it.
unfoldable pub payload_length : Bytes → ℕ
payload_length s = field s 0 2

unfoldable pub kind_field : Bytes → ℕ
kind_field s = field s 2 2

unfoldable pub payload_of : Bytes → Bytes
payload_of s = take (payload_length s) (drop frame_head s)

unfoldable pub behind : Bytes → Bytes
behind s = drop (frame_head + payload_length s) s

-- refusals 1 and 17: "under 4 bytes left, or payload past the end"
unfoldable pub cut_short : Bytes → Bool
cut_short s = ltb (length s) frame_head || ltb (length s) (frame_head + payload_length s)

-- The kinds of a book's frames.
pub data Kind : Type 0 where
  head_kind node_kind segment_kind join_kind train_kind call_kind unbreakable_kind end_kind : Kind

-- "1 Head … 8 End"
unfoldable pub kind_number : Kind → ℕ
kind_number head_kind = 1
kind_number node_kind = 2
kind_number segment_kind = 3
kind_number join_kind = 4
kind_number train_kind = 5
kind_number call_kind = 6
kind_number unbreakable_kind = 7
kind_number end_kind = 8

-- two kinds are the same
unfoldable pub is_kind : Kind → Kind → Bool
is_kind k j = eqb (kind_number k) (kind_number j)

-- "of kind 20": a refutation's step
unfoldable pub step_kind : ℕ
step_kind = 20

-- "Kinds never go down through the file": the order in which the kinds come
unfoldable pub kind_order : List Kind
kind_order = head_kind ∷ node_kind ∷ segment_kind ∷ join_kind ∷ train_kind ∷ call_kind ∷ unbreakable_kind ∷ end_kind ∷ []

-- the kind that has this number, among some
unfoldable pub find_kind : ℕ → List Kind → Option Kind
find_kind n [] = none
find_kind n (k ∷ ks) = elim (eqb n (kind_number k)) [ true ↦ some k | false ↦ find_kind n ks ]

-- the place of a kind's number in the order, from 1 (past its end for a number that is no kind's)
unfoldable pub rank_in : ℕ → List Kind → ℕ
rank_in n [] = 1
rank_in n (k ∷ ks) = elim (eqb n (kind_number k)) [ true ↦ 1 | false ↦ suc (rank_in n ks) ]

unfoldable pub rank : ℕ → ℕ
rank n = rank_in n kind_order

-- Where the times of a kind's payload begin, and how many there are: the Head's T behind rs and rt, a train's departure behind its
-- length and speed, a call's first and last behind its train and segment.
abbrev pub times_at : Kind → ℕ
times_at head_kind = 4
times_at node_kind = 0
times_at segment_kind = 0
times_at join_kind = 0
times_at train_kind = 4
times_at call_kind = 2
times_at unbreakable_kind = 0
times_at end_kind = 0

abbrev pub time_count : Kind → ℕ
time_count head_kind = 1
time_count node_kind = 0
time_count segment_kind = 0
time_count join_kind = 0
time_count train_kind = 1
time_count call_kind = 2
time_count unbreakable_kind = 0
time_count end_kind = 0

-- A format of book files: what a request may change while files of the earlier format are still to be read.
pub record Format : Type 0 where
  -- how many bytes a time has: the Head's T, a train's departure, a call's first and last
  pub time_width : ℕ
  -- the greatest T
  pub greatest_t : ℕ

-- The format in force, by P1 of document 02: times "become two bytes each, little-endian"; "T may be 1 to 256".
abbrev pub book_format : Format
book_format = record { time_width = 2; greatest_t = 256 }

-- The format of an old book, as document 01 has it: "Fields are one byte unless noted"; "T 1 to 32".
abbrev pub old_format : Format
old_format = record { time_width = 1; greatest_t = 32 }

module _ (f : Format) where
  -- Where a train's count n stands in its payload: behind its departure.
  abbrev pub train_count_at : ℕ
  train_count_at = times_at train_kind + f.time_width

  -- A train's fixed part, up to its count; the n directed segments stand behind it.
  abbrev pub train_fixed : ℕ
  train_fixed = train_count_at + 1

  -- refusal 4: the payload's length is the one of its kind
  unfoldable pub length_fits : Kind → Bytes → Bool
  length_fits head_kind p = eqb (length p) (times_at head_kind + f.time_width)
  length_fits node_kind p = eqb (length p) 1
  length_fits segment_kind p = eqb (length p) 3
  length_fits join_kind p = eqb (length p) 3
  length_fits train_kind p = leb train_fixed (length p) && eqb (length p) (train_fixed + field p train_count_at 1)
  length_fits call_kind p = eqb (length p) (times_at call_kind + 2 * f.time_width)
  length_fits unbreakable_kind p = eqb (length p) 1
  length_fits end_kind p = eqb (length p) 0

-- A step's fixed part, "count of literals (2)", and the bytes of a literal or a hint, "4 each".
abbrev pub step_fixed : ℕ
step_fixed = 2

abbrev pub number_width : ℕ
number_width = 4

-- how many literals a step's payload says that it has
unfoldable pub literal_count : Bytes → ℕ
literal_count p = field p 0 step_fixed

-- where the hints begin, behind the literals
abbrev pub hints_at : Bytes → ℕ
hints_at p = step_fixed + number_width * literal_count p

-- refusal 17: "payload not 2 + 4n + 4h"
unfoldable pub step_length_fits : Bytes → Bool
step_length_fits p = leb step_fixed (length p) && leb (hints_at p) (length p) && eqb ((length p - hints_at p) % number_width) 0
