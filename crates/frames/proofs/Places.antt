-- The frame at a place of a file: which answer is right, by the bytes that are left there. Assumes nothing.
use mathlib.Core.Path.{◌≡◌, refl, ap, ap₂, ◌∙◌}
use mathlib.Core.Bool.{Bool, true, false, not}
use Prim.Native.Nat.{ℕ, ◌+◌, ◌-◌, ◌≤◌, ◌<◌}
use native.Mathlib.Nat.{add-zero}
use native.Mathlib.Omega.{arith}
use lib.ListN.{length, drop, length-drop}
use lib.Dec.{T}
use Rattle.laws.proofs.Tests.{decide, true_of, denied-of}
use Rattle.laws.proofs.Numbers.{field-drop}
use Rattle.laws.proofs.Frames.{whole-iff}
use Rattle.spec.specs.Lists.{Bytes, one, ◌when◌, first_fault}
use Rattle.spec.specs.Numbers.{field}
use Rattle.spec.specs.Frames.{cut_short, kind_field, payload_length}
use Rattle.std.specs.Prelude.{Option, Some, None}
use Rattle.frames.specs.declared.Frame.{Frame}
use Rattle.frames.specs.Framed.{framed_at, whole_or, framed_refusal}

-- a case's number is the one of its line in the file's table
pub refusal-of : (t : Bytes) {f : Option Frame} → f ≡ framed_at t → (n : ℕ) → framed_refusal n f ≡ first_fault (one (n when cut_short t))
unfolding framed_at first_fault
refusal-of t e n = ap (framed_refusal n) e ∙ go (cut_short t)
  where
    go : (cut : Bool) → framed_refusal n (whole_or cut (record { kind = kind_field t; len = payload_length t })) ≡ first_fault (one (n when cut))
    go true = refl
    go false = refl

-- the length and the kind that a frame at a place says
pub length_at : (s : Bytes) (at : ℕ) → payload_length (drop at s) ≡ field s at 2
unfolding payload_length
length_at s at = field-drop s at 0 2 ∙ ap (λ (n : ℕ). field s n 2) (add-zero at)

pub kind_at : (s : Bytes) (at : ℕ) → kind_field (drop at s) ≡ field s (at + 2) 2
unfolding kind_field
kind_at s at = field-drop s at 2 2

-- too few bytes: no whole frame
pub cut_at : (s : Bytes) (at : ℕ) → length s - at < 4 + field s at 2 → framed_at (drop at s) ≡ None
unfolding framed_at
cut_at s at h = decide (cut_short (drop at s)) (λ t. rw (true_of (cut_short (drop at s)) t) refl)
    (λ n. let k = (whole-iff (drop at s)).0 n in
    let no' : ⊥ = omega (arith, k, length-drop at s, length_at s at) in absurd no')

-- enough: the frame
pub whole-at : (s : Bytes) (at : ℕ) → 4 + field s at 2 ≤ length s - at → framed_at (drop at s) ≡ Some (record { kind = field s (at + 2) 2; len = field s at 2 })
unfolding framed_at
whole-at s at h =
    let n : T (not (cut_short (drop at s))) = (whole-iff (drop at s)).1 (omega (arith, length-drop at s, length_at s at)) in
    rw (denied-of (cut_short (drop at s)) n) (ap₂ (λ (k l : ℕ). Some (record { kind = k; len = l })) (kind_at s at) (length_at s at))
