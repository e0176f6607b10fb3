-- The frame at the start of some bytes, as the code answers it. Assumes nothing.
use Rattle.std.specs.Prelude.{Bool, true, false, not, ◌&&◌, ◌||◌, ℕ, ltb, eqb}
use Rattle.std.specs.Prelude.{Some, None}
use Rattle.std.specs.Prelude.{Option as CodeOption}
use Rattle.std.proofs.Math.Option.{Option, none, some}
use Rattle.spec.specs.Lists.{Bytes}
use Rattle.spec.specs.Frames.{Kind, head_kind, node_kind, segment_kind, join_kind, train_kind, call_kind, unbreakable_kind, end_kind}
use Rattle.spec.specs.Frames.{Format, book_format, old_format, cut_short, kind_field, payload_length, rank}
use Rattle.spec.specs.Read.{is_head, is_end}
use Rattle.frames.specs.declared.Format.{Format as FormatCase}
use Rattle.frames.specs.declared.Format.TheVariants.{Now, Old}
use Rattle.frames.specs.declared.Kind.{Kind as KindCase}
use Rattle.frames.specs.declared.Kind.TheVariants.{Head, Node, Segment, Join, Train, Call, Unbreakable, End}
use Rattle.frames.specs.declared.Frame.{Frame}

-- the format that a case stands for
abbrev pub format_of : FormatCase → Format
format_of Now = book_format
format_of Old = old_format

abbrev pub whole_or : Bool → Frame → CodeOption Frame
whole_or true f = None
whole_or false f = Some f

unfoldable pub framed_at : Bytes → CodeOption Frame
framed_at s = whole_or (cut_short s) (record { kind = kind_field s; len = payload_length s })

-- document 01's number for each case, in a file whose table of refusals calls a cut frame n: 1 in a book, 17 in a refutation
abbrev pub framed_refusal : ℕ → CodeOption Frame → Option ℕ
framed_refusal n None = some n
framed_refusal n (Some f) = none

-- the code's case for a kind, or for a number that is no kind's
abbrev pub kind_said : Option Kind → CodeOption KindCase
kind_said (some head_kind) = Some Head
kind_said (some node_kind) = Some Node
kind_said (some segment_kind) = Some Segment
kind_said (some join_kind) = Some Join
kind_said (some train_kind) = Some Train
kind_said (some call_kind) = Some Call
kind_said (some unbreakable_kind) = Some Unbreakable
kind_said (some end_kind) = Some End
kind_said none = None

-- the kind that a case stands for
abbrev pub kind_in : KindCase → Kind
kind_in Head = head_kind
kind_in Node = node_kind
kind_in Segment = segment_kind
kind_in Join = join_kind
kind_in Train = train_kind
kind_in Call = call_kind
kind_in Unbreakable = unbreakable_kind
kind_in End = end_kind

-- its place in the order of kinds, from 1
abbrev pub place_of : KindCase → ℕ
place_of Head = 1
place_of Node = 2
place_of Segment = 3
place_of Join = 4
place_of Train = 5
place_of Call = 6
place_of Unbreakable = 7
place_of End = 8

-- 3, by the frame's kind and how many bytes stand behind it
unfoldable pub out_of_order_by : ℕ → ℕ → ℕ → Bool
out_of_order_by last kind left =
    eqb last 0 && not (is_head kind) || not (eqb last 0) && is_head kind || ltb (rank kind) last || is_end kind && not (eqb left 0)
