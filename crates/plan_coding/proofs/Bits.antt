-- A byte for each number below n, 1 where a test holds, written over a part of the output. Assumes nothing.
use mathlib.Core.Path.{◌≡◌, refl, sym, ap, ◌∙◌}
use mathlib.Core.Bool.{Bool, true, false}
use mathlib.Core.List.{◌++◌, map, append_assoc}
use Prim.Native.Nat.{ℕ, ◌+◌, ◌≤◌, ◌<◌}
use native.Mathlib.Omega.{arith}
use lib.ListN.{length, get_or, take, drop, length-map, length-drop}
use lib.Seq.{sets, sets-eq, length-take-le}
use borrow.Rule.Slice.PartMut.{put_mid}
use mir.Val.{bool_byte}
use Rattle.std.proofs.lemmas.Grind.{same_number_lists}
use Rattle.std.proofs.lemmas.List.Edits.{paste_all}
use Rattle.std.proofs.lemmas.Slice.{put_mid-paste}
use Rattle.spec.specs.Lists.{Bytes, up_to}
use Rattle.spec.specs.Plan.{bit}
use Rattle.laws.proofs.Parts.{length-up_to, map_at}

-- a bool as a byte
pub bit-is : (b : Bool) → bool_byte b ≡ bit b
unfolding bit
bit-is true = refl
bit-is false = refl

-- a part that was written whole
part-written : (out vs : Bytes) (at k : ℕ) → k ≡ length vs → at + length vs ≤ length out → put_mid at k out vs ≡ sets out at vs
part-written out vs at k e h =
    put_mid-paste at k out vs vs k refl refl e
    ∙ paste_all out at vs k e
    ∙ sym (append_assoc (take at out) vs (drop (at + k) out))
    ∙ ap (λ (n : ℕ). take at out ++ vs ++ drop (at + n) out) e
    ∙ sym (sets-eq vs out at h)

-- where a loop over the part has written its first i bytes, and these are all
pub bits-written : (p : ℕ → Bool) (n at k : ℕ) (out items : Bytes) (i : ℕ) → at + n ≤ length out → k ≡ n
    → length items ≡ length (take k (drop at out)) → length (take k (drop at out)) ≤ i
    → ((j : ℕ) → j < i → get_or items j 0 ≡ bool_byte (p j)) → put_mid at k out items ≡ sets out at (map (λ j. bit (p j)) (up_to n))
bits-written p n at k out items i fits e long done below =
    let byte : ℕ → ℕ = λ j. bit (p j) in
    let part : length (take k (drop at out)) ≡ k = length-take-le k (drop at out) (omega (arith, length-drop at out, e, fits)) in
    let size : length items ≡ n = long ∙ part ∙ e in
    let whole : items ≡ map byte (up_to n) =
    same_number_lists _ _ (size ∙ sym (length-map (up_to n) byte ∙ length-up_to n))
    (λ j l. below j (omega (arith, size, l, part, done, e)) ∙ bit-is (p j) ∙ sym (map_at byte n j 0 (omega (arith, size, l)))) in
    part-written out items at k (e ∙ sym size) (omega (arith, size, fits)) ∙ ap (sets out at) whole
