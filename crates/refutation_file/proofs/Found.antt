-- What the step at the start of some bytes says of them: its frame is good, its counts are those of its payload, and its literals
-- and its hints are the lists of numbers in their stretches. Assumes nothing.
use mathlib.Core.Path.{◌≡◌, refl, sym, ap, ◌∙◌}
use mathlib.Core.Logic.{◌↔◌}
use mathlib.Core.Bool.{Bool, true, false, not}
use Prim.Native.Nat.{ℕ, zero, suc, ◌+◌, ◌*◌, ◌≤◌}
use native.Mathlib.Omega.{arith}
use mathlib.Core.List.{[], ◌∷◌, map, map-map}
use lib.ListN.{length, take, drop, length-drop}
use lib.Seq.{take-take, length-take-le}
use lib.Dec.{T, eqb}
use Rattle.std.specs.Prelude.{Option, Some, None}
use Rattle.std.proofs.lemmas.Option.{none-some, same_Some}
use Rattle.laws.proofs.Tests.{neither-iff, not-not-iff, from-denied}
use Rattle.laws.proofs.Numbers.{field-drop}
use Rattle.laws.proofs.Frames.{whole-iff, length-payload_of}
use Rattle.laws.proofs.Parts.{map_same}
use Rattle.demands.proofs.Files.{counts}
use Rattle.spec.specs.Lists.{Bytes, up_to, one, ◌when◌, first_fault}
use Rattle.spec.specs.Numbers.{number, field, signed}
use Rattle.spec.specs.Frames.{frame_head, number_width, step_fixed, step_kind, step_length_fits, cut_short, kind_field, payload_length, payload_of}
use Rattle.spec.specs.Refutation.{literal_count, hint_count, step_in, hint_bytes, is_bad}
use Rattle.refutation_file.specs.declared.steps.Step.{Step}
use Rattle.refutation_file.specs.Numbers.{number_count, numbers_in, literals_in}
use Rattle.refutation_file.specs.Found.{bad_or, step_of, step_found, step_refusal, literal_bytes, step_bytes}

-- a frame is good by the three parts of 17
pub good-iff : (s : Bytes)
    → T (not (is_bad s)) ↔ (T (not (cut_short s)) × T (eqb (kind_field s) step_kind) × T (step_length_fits (payload_of s)))
unfolding is_bad
good-iff s = simp (neither-iff, not-not-iff) (λ h. (h.0.0, h.0.1, h.1), λ h. ((h.0, h.1), h.2))

-- no step: 17
pub bad-step : (s : Bytes) → step_found s ≡ None → is_bad s ≡ true
unfolding step_found
bad-step s e = go (is_bad s) refl e
  where
    go : (b : Bool) → is_bad s ≡ b → bad_or b (step_of (payload_of s)) ≡ None → is_bad s ≡ true
    go true f e = f
    go false f e = absurd (none-some _ (sym e))

-- the right answer has the number of the table's line
pub numbered : (s : Bytes) {r : Option Step} → r ≡ step_found s → step_refusal r ≡ first_fault (one (17 when is_bad s))
unfolding step_found first_fault
numbered s e = ap step_refusal e ∙ go (is_bad s)
  where
    go : (b : Bool) → step_refusal (bad_or b (step_of (payload_of s))) ≡ first_fault (one (17 when b))
    go true = refl
    go false = refl

-- a step: no 17, and its counts
pub whole-step : (s : Bytes) {x : Step} → step_found s ≡ Some x
    → (is_bad s ≡ false) × (literal_count (payload_of s) ≡ x.literals) × (hint_count (payload_of s) ≡ x.hints)
unfolding step_found
whole-step s {x} e = go (is_bad s) refl e
  where
    go : (b : Bool) → is_bad s ≡ b → bad_or b (step_of (payload_of s)) ≡ Some x
        → (is_bad s ≡ false) × (literal_count (payload_of s) ≡ x.literals) × (hint_count (payload_of s) ≡ x.hints)
    go true f e = absurd (none-some x e)
    go false f e = let q = same_Some (step_of (payload_of s)) x e in (f, ap (λ (y : Step). y.literals) q, ap (λ (y : Step). y.hints) q)

-- its payload is there, and as long as its counts say
payload-length : (s : Bytes) {x : Step} → step_found s ≡ Some x
    → (frame_head + payload_length s ≤ length s) × (length (payload_of s) ≡ payload_length s)
    × (length (payload_of s) ≡ step_fixed + number_width * (x.literals + x.hints))
payload-length s e =
    let w = whole-step s e in
    let g = (good-iff s).0 (from-denied w.0) in
    ((whole-iff s).0 g.0, length-payload_of s g.0, omega (arith, counts (payload_of s) g.2, w.1, w.2))

pub step-length : (s : Bytes) {x : Step} → step_found s ≡ Some x
    → (frame_head + payload_length s ≡ step_bytes x) × (frame_head + payload_length s ≤ length s)
step-length s e = let p = payload-length s e in (omega arith, p.0)

-- ---- stretches

-- what stands in the first n elements stands in the list
pub take_in : (n w at : ℕ) (l : Bytes) → at + w ≤ n → take w (drop at (take n l)) ≡ take w (drop at l)
take_in n w zero l h = take-take w n l (omega arith)
take_in zero w (suc at) l h = let no : ⊥ = omega arith in absurd no
take_in (suc n) w (suc at) [] h = refl
take_in (suc n) w (suc at) (x ∷ l) h = take_in n w at l (omega arith)

field_in : (n w at : ℕ) (l : Bytes) → at + w ≤ n → field (take n l) at w ≡ field l at w
unfolding field
field_in n w at l h = ap number (take_in n w at l h)

-- how long the stretches of the literals and of the hints are
literals-size : (s : Bytes) {x : Step} → step_found s ≡ Some x → length (literal_bytes (payload_of s)) ≡ number_width * x.literals
unfolding literal_bytes
literals-size s {x} e =
    rw (whole-step s e).1 (length-take-le (number_width * x.literals) (drop step_fixed (payload_of s)) (rw length-drop (omega (arith, payload-length s e))))

pub hints-size : (s : Bytes) {x : Step} → step_found s ≡ Some x → length (hint_bytes (payload_of s)) ≡ number_width * x.hints
unfolding hint_bytes
hints-size s e = rw ((whole-step s e).1, length-drop) (omega (arith, payload-length s e))

-- ---- lists of numbers

numbers-in : (list : Bytes) (n : ℕ) → length list ≡ number_width * n → numbers_in list ≡ map (λ i. field list (number_width * i) number_width) (up_to n)
unfolding numbers_in
numbers-in list n e = let q : number_count list ≡ n = omega arith in rw q

-- the literals of a step are the list in their stretch
pub literals-list : (s : Bytes) {x : Step} → step_found s ≡ Some x
    → ((step_in (payload_of s)).literals ≡ literals_in (literal_bytes (payload_of s))) × (length (literal_bytes (payload_of s)) ≡ number_width * x.literals)
unfolding step_in literals_in literal_bytes
literals-list s {x} e =
    let n = x.literals in
    let p = payload_of s in
    let list = take (number_width * n) (drop step_fixed p) in
    let size = literals-size s e in
    let w = (whole-step s e).1 in
    let numbers = ap (map (signed number_width)) (numbers-in list n (rw w at size)) in
    let each-one = map_same _ _ n λ i l.
    ap (signed number_width)
    (field_in (number_width * n) number_width (number_width * i) (drop step_fixed p) (omega arith)
    ∙ field-drop p step_fixed (number_width * i) number_width) in
    (rw w (sym (numbers ∙ map-map (signed number_width) (λ i. field list (number_width * i) number_width) (up_to n) ∙ each-one)), size)

-- and its hints the list in theirs
pub hints-list : (s : Bytes) {x : Step} → step_found s ≡ Some x
    → ((step_in (payload_of s)).hints ≡ numbers_in (hint_bytes (payload_of s))) × (length (hint_bytes (payload_of s)) ≡ number_width * x.hints)
unfolding step_in hint_bytes
hints-list s {x} e =
    let h = x.hints in
    let p = payload_of s in
    let size = hints-size s e in
    let at = step_fixed + number_width * literal_count p in
    (rw (whole-step s e).2 (sym (numbers-in (drop at p) h size ∙ map_same _ _ h (λ i l. field-drop p at (number_width * i) number_width))), size)
