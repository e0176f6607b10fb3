-- A table of parts, each filled in its turn: what a part holds then, and the turn of a part that was lent. Assumes nothing.
use borrow.Rule.Slice.PartMut.{mid_of, put_mid, same_len_mid, Post-is}
use mathlib.Core.Path.{◌≡◌, refl, sym, ap, ap₂, ◌∙◌}
use mathlib.Core.Logic.{⊎_elim}
use Prim.Native.Nat.{ℕ, zero, suc, ◌+◌, ◌*◌, ◌-◌, ◌≤◌, ◌<◌}
use native.Mathlib.Nat.{suc-mul, mul-le-mul_right}
use native.Mathlib.Numerals.{add-one}
use native.Mathlib.Omega.{arith}
use mathlib.Core.List.{List, ◌++◌, append_assoc}
use lib.ListN.{length, take, drop, length-append, length-drop}
use lib.Seq.{slice, length-take-le, length-slice, take_at, drop_at, take-add, take-take, drop-drop}
use lib.Seq.{take-append-le, take-append-add, drop-append-add}
use Rattle.laws.proofs.Tests.{le-or-lt}
use Rattle.listing.specs.Listed.{filled}

-- ---- a part that is replaced

module _ {ℓ} {A : Type ℓ} where
  -- the row with what stands from `at` on, as long as the new part, replaced by it
  abbrev replaced : List A → ℕ → ℕ → List A → List A
  replaced xs at width new = take at xs ++ (new ++ drop (at + width) xs)

  -- a stretch, as a slice that is lent
  pub slice-tail : (xs : List A) (a k : ℕ) → a ≤ length xs → slice a (a + k) xs ≡ take k (drop a xs)
  slice-tail xs a k h = ap (drop a) (take-add a k xs) ∙ drop_at (take a xs) (take k (drop a xs)) a (length-take-le a xs h)

  module _ (xs new : List A) (at width : ℕ) (fits : at + width ≤ length xs) (e : length new ≡ width) where
    length-replaced : length (replaced xs at width new) ≡ length xs
    length-replaced =
        omega (
          arith,
          length-append (take at xs) (new ++ drop (at + width) xs),
          length-append new (drop (at + width) xs),
          length-take-le at xs (omega arith),
          length-drop (at + width) xs,
        )

    -- the part is the new one
    part-new : slice at (at + width) (replaced xs at width new) ≡ new
    part-new =
        let k : length (take at xs) ≡ at = length-take-le at xs (omega arith) in
        let rest = new ++ drop (at + width) xs in
        ap (λ (n : ℕ). drop at (take (n + width) (take at xs ++ rest))) (sym k)
        ∙ ap (drop at) (take-append-add (take at xs) rest width)
        ∙ drop_at (take at xs) (take width rest) at k
        ∙ take_at new (drop (at + width) xs) width e

    -- and what stands before it, and behind it, is as it was
    part-below : (a z : ℕ) → z ≤ at → slice a z (replaced xs at width new) ≡ slice a z xs
    part-below a z l =
        let room : z ≤ length (take at xs) = omega (arith, length-take-le at xs (omega arith)) in
        ap (drop a) (take-append-le z (take at xs) (new ++ drop (at + width) xs) room ∙ take-take z at xs l)

    behind : (a : ℕ) → at + width ≤ a → drop a (replaced xs at width new) ≡ drop a xs
    behind a l =
        let front = take at xs ++ new in
        let k : length front ≡ at + width = omega (arith, length-append (take at xs) new, length-take-le at xs (omega arith)) in
        let m : a ≡ at + width + (a - (at + width)) = omega arith in
        ap (drop a) (sym (append_assoc (take at xs) new (drop (at + width) xs)))
        ∙ ap (λ (n : ℕ). drop n (front ++ drop (at + width) xs)) m
        ∙ ap (λ (n : ℕ). drop (n + (a - (at + width))) (front ++ drop (at + width) xs)) (sym k)
        ∙ drop-append-add front (drop (at + width) xs) (a - (at + width))
        ∙ drop-drop (a - (at + width)) (at + width) xs
        ∙ ap (λ (n : ℕ). drop n xs) (sym m)

    part-above : (a k : ℕ) → at + width ≤ a → a ≤ length xs → slice a (a + k) (replaced xs at width new) ≡ slice a (a + k) xs
    part-above a k l m =
        slice-tail (replaced xs at width new) a k (rw length-replaced m)
        ∙ ap (take k) (behind a l)
        ∙ sym (slice-tail xs a k m)

-- ---- a table that was filled

module _ {ℓ} {A : Type ℓ} (f : ℕ → List A → List A) (keeps : (i : ℕ) (xs : List A) → length (f i xs) ≡ length xs)
    (width : ℕ) (old : List A) where
  -- a train's part of a table
  abbrev part : ℕ → List A → List A
  part i xs = slice (i * width) (i * width + width) xs

  -- the n-th part's turn: it has its width, before and after
  module _ (n : ℕ) (h : suc n * width ≤ length old) (before : List A) (e : length before ≡ length old) where
    room : n * width + width ≤ length before
    room = omega (arith, suc-mul n width)

    sized : length (f n (part n before)) ≡ width
    sized = keeps n (part n before) ∙ length-slice (n * width) (n * width + width) before room ∙ omega arith

  pub length-filled : (n : ℕ) → n * width ≤ length old → length (filled f width n old) ≡ length old
  unfolding filled
  length-filled zero h = refl
  length-filled (suc n) h =
      let before = filled f width n old in
      let e = length-filled n (omega (arith, suc-mul n width)) in
      length-replaced before (f n (part n before)) (n * width) width (room n h before e) (sized n h before e) ∙ e

  -- a part whose turn is still to come
  filled-later : (n i : ℕ) → n ≤ i → suc i * width ≤ length old → part i (filled f width n old) ≡ part i old
  unfolding filled
  filled-later zero i l h = refl
  filled-later (suc n) i l h =
      let before = filled f width n old in
      let turn : suc n * width ≤ i * width = mul-le-mul_right width l in
      let fits : suc n * width ≤ length old = omega (arith, suc-mul i width) in
      let e = length-filled n (omega (arith, suc-mul n width)) in
      part-above before (f n (part n before)) (n * width) width (room n fits before e) (sized n fits before e)
      (i * width) width (omega (arith, suc-mul n width)) (omega (arith, suc-mul i width))
      ∙ filled-later n i (omega arith) h

  -- the part with a number is what f makes of the one that was there
  pub filled-part : (n i : ℕ) → n * width ≤ length old → i < n → part i (filled f width n old) ≡ f i (part i old)
  unfolding filled
  filled-part zero i h l = let no' : ⊥ = omega arith in absurd no'
  filled-part (suc n) i h l =
      let before = filled f width n old in
      let e = length-filled n (omega (arith, suc-mul n width)) in
      ⊎_elim
      (λ m.
      let turn : suc i * width ≤ n * width = mul-le-mul_right width m in
      part-below before (f n (part n before)) (n * width) width (room n h before e) (sized n h before e)
      (i * width) (i * width + width) (omega (arith, suc-mul i width))
      ∙ filled-part n i (omega (arith, suc-mul n width)) m)
      (λ m.
      let same : i ≡ n = omega arith in
      ap (λ (k : ℕ). part k (filled f width (suc n) old)) same
      ∙ part-new before (f n (part n before)) (n * width) width (room n h before e) (sized n h before e)
      ∙ ap (f n) (filled-later n n (omega arith) h)
      ∙ ap (λ (k : ℕ). f k (part k old)) (sym same))
      (le-or-lt (suc i) n)

-- ---- a part that was lent, and given back changed

-- a part of a table, as it is lent
abbrev pub lent {ℓ} : {A : Type ℓ} → ℕ → ℕ → List A → List A
lent at width xs = take (at + width - at) (drop at xs)

pub part-lent {ℓ} : {A : Type ℓ} (at width : ℕ) (xs : List A) → at ≤ length xs → lent at width xs ≡ slice at (at + width) xs
part-lent at width xs h =
    let e : at + width - at ≡ width = omega arith in
    ap (λ (n : ℕ). take n (drop at xs)) e ∙ sym (slice-tail xs at width h)

module _ {A : Type 0} (f : ℕ → List A → List A) (width i : ℕ) (old xs ys : List A) (fits : i * width + width ≤ length xs) where
  abbrev at : ℕ
  at = i * width

  pub filled_next : xs ≡ filled f width i old → ys ≡ f i (mid_of at (at + width - at) xs)
      → put_mid at (at + width - at) xs ys ≡ filled f width (i + 1) old
  unfolding filled
  filled_next e g =
      ap₂ (λ (part rest : List A). take at xs ++ (part ++ rest)) (g ∙ ap (f i) (part-lent at width xs (omega arith)))
      (Post-is at (at + width) xs (omega arith))
      ∙ ap (λ (zs : List A). take at zs ++ (f i (slice at (at + width) zs) ++ drop (at + width) zs)) e
      ∙ ap (λ (n : ℕ). filled f width n old) (sym (add-one i))

pub length-next : (width i : ℕ) (xs ys : List ℕ) → length ys ≡ length (mid_of (i * width) (i * width + width - i * width) xs)
    → length (put_mid (i * width) (i * width + width - i * width) xs ys) ≡ length xs
length-next width i xs ys e = same_len_mid (i * width) (i * width + width - i * width) xs ys e
