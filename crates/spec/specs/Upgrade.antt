-- "A small program rewrites an old book": the same frames in the same order, in the format in force. Assumes nothing.
use Rattle.std.specs.Prelude.{true, false, ℕ, zero, suc, ◌+◌, ◌*◌, [], ◌++◌, length, take, drop, leb}
use Rattle.std.proofs.Math.Option.{Option, none, some}
use Rattle.spec.specs.Lists.{Bytes, each, up_to, Verdict, accepted, and_then}
use Rattle.spec.specs.Numbers.{little_endian, field}
use Rattle.spec.specs.Frames.{times_at, time_count, frame, kind_field, payload_of, behind, cut_short, kind_order, find_kind, book_format, old_format}
use Rattle.spec.specs.Frames.{Kind}
use Rattle.spec.specs.Read.{read_as}
use Rattle.spec.specs.Entry.{demand, overwrite, written}

-- "every time must read as the number it was": the times of an old payload that stand from a place on, as wide as they now are
unfoldable pub times_widened : Bytes → ℕ → ℕ → Bytes
times_widened p at n = each (up_to n) λ i. little_endian book_format.time_width (field p (at + i * old_format.time_width) old_format.time_width)

-- "every other payload field keeps its bytes": an old payload with n times from a place on, widened
unfoldable pub widened_at : Bytes → ℕ → ℕ → Bytes
widened_at p at n = take at p ++ (times_widened p at n ++ drop (at + n * old_format.time_width) p)

-- an old payload of a kind, rewritten
unfoldable pub widened : Kind → Bytes → Bytes
widened k p = widened_at p (times_at k) (time_count k)

-- the same, where a number may be no kind's: such a payload is left as it is
unfoldable pub widened_found : Option Kind → Bytes → Bytes
widened_found none p = p
widened_found (some k) p = widened k p

-- the frame at the start of s, with its payload rewritten
unfoldable pub frame_widened : Bytes → Bytes
frame_widened s = frame (kind_field s) (widened_found (find_kind (kind_field s) kind_order) (payload_of s))

-- every frame of s, in their order. A frame has four bytes at least, so `fuel` is never used up.
unfoldable pub widened_from : ℕ → Bytes → Bytes
widened_from zero s = []
widened_from (suc fuel) s = elim (cut_short s) [ true ↦ [] | false ↦ frame_widened s ++ widened_from fuel (behind s) ]

-- an old book, rewritten
unfoldable pub upgraded : Bytes → Bytes
upgraded s = widened_from (length s) s

-- ---- the entry point; lent: an output of the new book's bytes

-- 1 to 11 of an old book, then 12 by the new book's length, then the new book
unfoldable pub upgrade_book : Bytes → ℕ → Verdict Bytes
upgrade_book old out_length =
    and_then (read_as old_format old) λ _.
    and_then (demand (leb (length (upgraded old)) out_length) 12) λ _.
    accepted (upgraded old)

-- what the output holds after the call
unfoldable pub upgrade_output : Bytes → Bytes → Bytes
upgrade_output old out = overwrite out (written (upgrade_book old (length out)))
