-- Frames: what is read at the start of a written frame is what was written, and a text that is not cut short starts with the
-- frame that is read from it. Assumes nothing.
use mathlib.Core.Path.{◌≡◌, refl, sym, ◌∙◌}
use mathlib.Core.Logic.{◌↔◌}
use mathlib.Core.Bool.{not}
use Prim.Native.Nat.{ℕ, ◌+◌, ◌^◌, ◌≤◌, ◌<◌}
use native.Mathlib.Omega.{arith}
use mathlib.Core.List.{◌++◌, append_assoc}
use lib.ListN.{length, take, drop, length-append, length-drop, take-append-drop}
use lib.Seq.{take_at, drop_at, drop-drop, length-take-le}
use lib.Dec.{T, ltb, nltb→le}
use lib.Arith.{le→nltb}
use Rattle.spec.specs.Lists.{Bytes}
use Rattle.spec.specs.Numbers.{little_endian}
use Rattle.spec.specs.Frames.{frame, payload_length, kind_field, payload_of, behind, cut_short}
use Rattle.laws.proofs.Tests.{neither-iff}
use Rattle.laws.proofs.Numbers.{bytes, bytes_take, bytes_drop, field-written, field-behind, little_endian-field, field_lt}

-- not cut short: head and payload are there
pub whole-iff : (s : Bytes) → T (not (cut_short s)) ↔ (4 + payload_length s ≤ length s)
unfolding cut_short
whole-iff s =
    let both = neither-iff (ltb (length s) 4) (ltb (length s) (4 + payload_length s)) in (
      λ h. nltb→le (length s) (4 + payload_length s) (both.0 h).1,
      λ l. both.1 (le→nltb (length s) 4 (omega arith), le→nltb (length s) (4 + payload_length s) l),
    )

-- ---- a written frame, with the rest of the text behind it
module _ (kind : ℕ) (p rest : Bytes) (k : kind < 256 ^ 2) (l : length p < 256 ^ 2) where
  -- its parts in order
  parts : frame kind p ++ rest ≡ little_endian 2 (length p) ++ (little_endian 2 kind ++ (p ++ rest))
  unfolding frame
  parts = simp append_assoc

  pub payload_length-frame : payload_length (frame kind p ++ rest) ≡ length p
  unfolding payload_length
  payload_length-frame = rw parts (field-written 2 (length p) (little_endian 2 kind ++ (p ++ rest)) l)

  pub kind_field-frame : kind_field (frame kind p ++ rest) ≡ kind
  unfolding kind_field little_endian
  kind_field-frame =
      rw parts (field-behind (little_endian 2 (length p)) (little_endian 2 kind ++ (p ++ rest)) 0 2 ∙ field-written 2 kind (p ++ rest) k)

  -- behind the first four bytes
  past_head : drop 4 (frame kind p ++ rest) ≡ p ++ rest
  unfolding frame little_endian
  past_head = refl

  pub payload_of-frame : payload_of (frame kind p ++ rest) ≡ p
  unfolding payload_of
  payload_of-frame = rw (payload_length-frame, past_head) (take_at p rest (length p) refl)

  pub behind-frame : behind (frame kind p ++ rest) ≡ rest
  unfolding behind
  behind-frame = rw (payload_length-frame, ← drop-drop (length p) 4 (frame kind p ++ rest), past_head) (drop_at p rest (length p) refl)

  pub whole-frame : T (not (cut_short (frame kind p ++ rest)))
  unfolding frame little_endian
  whole-frame = (whole-iff (frame kind p ++ rest)).1 (rw payload_length-frame (omega (arith, length-append p rest)))

-- ---- a text that starts with a frame

pub bytes-payload_of : (s : Bytes) → T (bytes s) → T (bytes (payload_of s))
unfolding payload_of
bytes-payload_of s b = bytes_take (payload_length s) (drop 4 s) (bytes_drop 4 s b)

pub bytes-behind : (s : Bytes) → T (bytes s) → T (bytes (behind s))
unfolding behind
bytes-behind s b = bytes_drop (4 + payload_length s) s b

-- the payload and what stands behind it are what stands behind the head
payload-behind : (s : Bytes) → payload_of s ++ behind s ≡ drop 4 s
unfolding payload_of behind
payload-behind s = rw (← drop-drop (payload_length s) 4 s) (take-append-drop (payload_length s) (drop 4 s))

pub length-payload_of : (s : Bytes) → T (not (cut_short s)) → length (payload_of s) ≡ payload_length s
unfolding payload_of
length-payload_of s whole = length-take-le (payload_length s) (drop 4 s) (rw length-drop (omega (arith, (whole-iff s).0 whole)))

-- what is left is shorter
pub length-behind : (s : Bytes) → T (not (cut_short s)) → length (behind s) + 4 ≤ length s
unfolding behind
length-behind s whole = rw length-drop (omega (arith, (whole-iff s).0 whole))

-- of bytes, not cut short
module _ (s : Bytes) (b : T (bytes s)) (whole : T (not (cut_short s))) where
  room : 4 ≤ length s
  room = omega (arith, (whole-iff s).0 whole)

  pub payload_length-lt : payload_length s < 256 ^ 2
  unfolding payload_length
  payload_length-lt = field_lt s 0 2 b (omega (arith, room))

  -- the head's two numbers are what its bytes say
  length-bytes : little_endian 2 (length (payload_of s)) ≡ take 2 s
  unfolding payload_length
  length-bytes = rw (length-payload_of s whole) (little_endian-field s 0 2 b (omega (arith, room)))

  kind-bytes : little_endian 2 (kind_field s) ≡ take 2 (drop 2 s)
  unfolding kind_field
  kind-bytes = little_endian-field s 2 2 b room

  -- the text is that frame and what stands behind it
  pub frame-read : s ≡ frame (kind_field s) (payload_of s) ++ behind s
  unfolding frame
  frame-read = sym
      (simp append_assoc
      (rw (length-bytes, kind-bytes, payload-behind s, ← drop-drop 2 2 s, take-append-drop 2 (drop 2 s)) (take-append-drop 2 s)))
