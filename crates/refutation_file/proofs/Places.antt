-- The step at a place of a file: where the stretches of its literals and its hints stand, and which answer is right, by the numbers
-- of the frame there. Assumes nothing.
use mathlib.Core.Path.{◌≡◌, refl, sym, ap, ap₂, ◌∙◌}
use mathlib.Core.Logic.{◌↔◌}
use mathlib.Core.Bool.{Bool, true, false, not}
use Prim.Native.Nat.{ℕ, ◌+◌, ◌*◌, ◌-◌, ◌/◌, ◌%◌, ◌≤◌}
use native.Mathlib.Nat.{add-zero}
use native.Mathlib.Omega.{arith}
use lib.ListN.{length, take, drop, length-drop}
use lib.Seq.{take_all, drop-drop}
use lib.Dec.{T}
use Rattle.std.specs.Prelude.{Some, None}
use Rattle.std.proofs.lemmas.Option.{none-some, same_Some}
use Rattle.laws.proofs.Tests.{and-iff, eqb-iff, leb-iff, decide, true_of, denied-of, from-denied}
use Rattle.laws.proofs.Frames.{whole-iff, length-payload_of}
use Rattle.spec.specs.Lists.{Bytes}
use Rattle.spec.specs.Numbers.{number, field}
use Rattle.spec.specs.Frames.{frame_head, number_width, step_fixed, cut_short, kind_field, payload_length, payload_of, step_kind, step_length_fits}
use Rattle.spec.specs.Refutation.{literal_count, hint_count, hint_bytes, is_bad}
use Rattle.frames.specs.Framed.{framed_at, whole_or}
use Rattle.frames.specs.declared.Frame.{Frame}
use Rattle.refutation_file.specs.declared.steps.Step.{Step}
use Rattle.refutation_file.specs.Found.{step_of, step_found, literal_bytes, step_bytes}
use Rattle.refutation_file.proofs.Found.{good-iff, whole-step, step-length, hints-size, take_in}

-- a part of the payload is a part of the file
payload-part : (s : Bytes) (at from w : ℕ) → from + w ≤ payload_length (drop at s)
    → take w (drop (at + frame_head + from) s) ≡ take w (drop from (payload_of (drop at s)))
unfolding payload_of
payload-part s at from w h = sym (take_in (payload_length (drop at s)) w from (drop frame_head (drop at s)) h ∙ simp drop-drop)

-- ---- a step at a place

module _ (s : Bytes) (at : ℕ) {x : Step} (inside : at ≤ length s) (found : step_found (drop at s) ≡ Some x) where
  -- it ends within the file
  pub step_room : at + step_bytes x ≤ length s
  step_room = omega (arith, step-length (drop at s) found, length-drop at s)

  -- its literals stand behind their count
  pub literals-here : take (number_width * x.literals) (drop (at + frame_head + step_fixed) s) ≡ literal_bytes (payload_of (drop at s))
  unfolding literal_bytes
  literals-here =
      payload-part s at step_fixed (number_width * x.literals) (omega (arith, step-length (drop at s) found))
      ∙ ap (λ (k : ℕ). take (number_width * k) (drop step_fixed (payload_of (drop at s)))) (sym (whole-step (drop at s) found).1)

  -- and its hints behind those
  pub hints-here : take (number_width * x.hints) (drop (at + frame_head + step_fixed + number_width * x.literals) s) ≡ hint_bytes (payload_of (drop at s))
  unfolding hint_bytes
  hints-here =
      let size = hints-size (drop at s) found in
      let from : at + frame_head + step_fixed + number_width * x.literals ≡ at + frame_head + (step_fixed + number_width * x.literals) = omega arith in
      ap (λ (k : ℕ). take (number_width * x.hints) (drop k s)) from
      ∙ payload-part s at (step_fixed + number_width * x.literals) (number_width * x.hints) (omega (arith, step-length (drop at s) found))
      ∙ ap (λ (k : ℕ). take (number_width * x.hints) (drop (step_fixed + number_width * k) (payload_of (drop at s)))) (sym (whole-step (drop at s) found).1)
      ∙ take_all (number_width * x.hints) (hint_bytes (payload_of (drop at s))) (omega arith)

-- ---- a frame at a place

-- what its answer says of the bytes
whole_says : (t : Bytes) {f : Frame} → framed_at t ≡ Some f → (cut_short t ≡ false) × (kind_field t ≡ f.kind) × (payload_length t ≡ f.len)
unfolding framed_at
whole_says t {f} e = go (cut_short t) refl e
  where
    go : (b : Bool) → cut_short t ≡ b → whole_or b (record { kind = kind_field t; len = payload_length t }) ≡ Some f
        → (cut_short t ≡ false) × (kind_field t ≡ f.kind) × (payload_length t ≡ f.len)
    go true z e = absurd (none-some f e)
    go false z e = let q = same_Some _ f e in (z, ap (λ (g : Frame). g.kind) q, ap (λ (g : Frame). g.len) q)

-- the answer, by the test
found-bad : (t : Bytes) → (T (not (is_bad t)) → ⊥) → None ≡ step_found t
unfolding step_found
found-bad t h = decide (is_bad t) (λ b. rw (true_of (is_bad t) b) refl) (λ n. absurd (h n))

found-whole : (t : Bytes) → T (not (is_bad t)) → Some (step_of (payload_of t)) ≡ step_found t
unfolding step_found
found-whole t h = rw (denied-of (is_bad t) h) refl

-- where no whole frame is, no step is
pub cut-here : (t : Bytes) → framed_at t ≡ None → None ≡ step_found t
unfolding framed_at
cut-here t e = found-bad t (λ g. none-some _ (sym (rw (denied-of (cut_short t) ((good-iff t).0 g).0) at e)))

-- the payload of a step is as long as its first number n asks
abbrev pub Sized : ℕ → ℕ → Type 0
Sized len n = (step_fixed ≤ len) × (number_width * n ≤ len - step_fixed) × ((len - step_fixed - number_width * n) % number_width ≡ 0)

-- a frame of this kind, with such a payload, is a step
abbrev pub StepFits : ℕ → ℕ → ℕ → Type 0
StepFits kind len n = (kind ≡ 20) × Sized len n

module _ (s : Bytes) (at : ℕ) {f : Frame} (inside : at ≤ length s) (framed : framed_at (drop at s) ≡ Some f) where
  -- it ends within the file
  pub frame-room : at + frame_head + f.len ≤ length s
  frame-room =
      let w = whole_says (drop at s) framed in
      omega (arith, (whole-iff (drop at s)).0 (from-denied w.0), length-drop at s)

  -- the payload's length and first number
  size-here : length (payload_of (drop at s)) ≡ f.len
  size-here = let w = whole_says (drop at s) framed in length-payload_of (drop at s) (from-denied w.0) ∙ w.2

  count-here : step_fixed ≤ f.len → literal_count (payload_of (drop at s)) ≡ field s (at + frame_head) 2
  unfolding literal_count field
  count-here l =
      let w = whole_says (drop at s) framed in
      sym (ap number (payload-part s at 0 2 (omega arith))) ∙ ap (λ (k : ℕ). number (take 2 (drop k s))) (add-zero (at + frame_head))

  sized-iff : T (step_length_fits (payload_of (drop at s))) ↔ Sized f.len (field s (at + frame_head) 2)
  unfolding step_length_fits literal_count
  sized-iff = rw size-here (simp (and-iff, leb-iff, eqb-iff) (
    λ q. (let e = count-here q.0.0 in (q.0.0, omega arith, omega arith)),
    λ q. (let e = count-here q.0 in ((q.0, omega arith), omega arith)),
  ))

  fits_iff : T (not (is_bad (drop at s))) ↔ StepFits f.kind f.len (field s (at + frame_head) 2)
  unfolding step_kind
  fits_iff =
      let w = whole_says (drop at s) framed in (
        λ g. (let q = (good-iff (drop at s)).0 g in (sym w.1 ∙ (eqb-iff _ _).0 q.1, sized-iff.0 q.2)),
        λ q. (good-iff (drop at s)).1 (from-denied w.0, (eqb-iff _ _).1 (w.1 ∙ q.0), sized-iff.1 q.1),
      )

  -- where its numbers fit there is a step, and else none
  pub bad-here : (StepFits f.kind f.len (field s (at + frame_head) 2) → ⊥) → None ≡ step_found (drop at s)
  bad-here h = found-bad (drop at s) (λ g. h (fits_iff.0 g))

  pub whole_here : {n : ℕ} → n ≡ field s (at + frame_head) 2 → StepFits f.kind f.len n
      → Some (record { literals = n; hints = (f.len - step_fixed - number_width * n) / number_width }) ≡ step_found (drop at s)
  unfolding hint_count
  whole_here {n} is q =
      let e = count-here q.1.0 in
      let z = size-here in
      ap₂ (λ (a b : ℕ). Some (record { literals = a; hints = b })) (is ∙ sym e) (omega (arith, is))
      ∙ found-whole (drop at s) (fits_iff.1 (rw is at q))
