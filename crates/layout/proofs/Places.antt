-- Where a plan's moves stand: inside its bytes; and the three parts of the test of a plan. Assumes nothing.
use mathlib.Core.Path.{◌≡◌, refl, sym, ap, ap₂, ◌∙◌}
use mathlib.Core.Bool.{Bool, true, false, ◌&&◌}
use Prim.Native.Nat.{ℕ, suc, ◌+◌, ◌*◌, ◌≤◌, ◌<◌}
use native.Mathlib.Nat.{mul-le-mul, mul-le-mul_right, suc-mul}
use native.Mathlib.Omega.{arith}
use mathlib.Core.List.{[], ◌∷◌}
use lib.ListN.{length, get_or, take}
use lib.Dec.{eqb, ltb}
use Rattle.model.specs.declared.Book.{Book as BookStruct}
use Rattle.spec.specs.Lists.{Bytes, all, up_to}
use Rattle.spec.specs.Numbers.{field}
use Rattle.spec.specs.Instance.{Instance, instance_of}
use Rattle.spec.specs.Plan.{is_bit, is_move, move_of, move_at, plan_of, plan_length, plan_fits}
use Rattle.spec.specs.Held.{held}
use Rattle.laws.proofs.Tests.{bool-ext, ltb_iff, leb-iff}
use Rattle.laws.proofs.Rows.{all_map}
use Rattle.laws.proofs.Parts.{singles}
use Rattle.tables.specs.Tables.{Passed}
use Rattle.tables.proofs.Small.{nodes-is, intervals-is}

-- a train's moves are one behind another, behind those of the trains before it
module _ (I : Instance) where
  pub place-from : (i t : ℕ) → move_at I i t ≡ move_at I i 0 + t * 2
  unfolding move_at
  place-from i t = omega arith

  pub place-first : (i : ℕ) → move_at I i 0 ≡ I.nodes + i * (I.intervals * 2)
  unfolding move_at
  place-first i = omega arith

  pub place_end : move_at I I.trains 0 ≡ plan_length I
  unfolding plan_length
  place_end = place-first I.trains

  pub train-fits : (i : ℕ) → i < I.trains → move_at I i 0 + I.intervals * 2 ≤ plan_length I
  unfolding plan_length
  train-fits i known =
      let turn : suc i * (I.intervals * 2) ≤ I.trains * (I.intervals * 2) = mul-le-mul_right (I.intervals * 2) known in
      omega (arith, place-first i, suc-mul i (I.intervals * 2))

  pub move-fits : (i t : ℕ) → i < I.trains → t < I.intervals → move_at I i t + 2 ≤ plan_length I
  move-fits i t known inside = omega (arith, place-from i t, train-fits i known)

  -- the move there
  pub move-is : (s : Bytes) (i t : ℕ) → move_of (field s (move_at I i t) 2) ≡ (plan_of I s).move i t
  unfolding plan_of
  move-is s i t = refl

module _ (b : BookStruct) (p : Passed b) where
  -- a move's place, by the struct's counts
  pub place_is : (i t : ℕ) → b.node_count + (i * (b.intervals * 2) + t * 2) ≡ move_at (instance_of (held b)) i t
  unfolding move_at
  place_is i t = rw (nodes-is b p, intervals-is b p)

  -- the nodes' bytes lie inside a plan
  pub nodes-fit : b.node_count ≤ plan_length (instance_of (held b))
  unfolding plan_length
  nodes-fit = omega (arith, nodes-is b p)

  -- no number in it is large
  pub span_small : (i : ℕ) → i ≤ b.train_count → i * (b.intervals * 2) ≤ 1048576
  span_small i l =
      mul-le-mul {n₂ = 8} {m₂ = 131072} (omega (arith, p.packed.counts.trains)) (omega (arith, p.packed.numbers.intervals))

-- ---- 15

-- bytes below 2 are bits
pub bit_below : (x : ℕ) → ltb x 2 ≡ is_bit x
unfolding is_bit
bit_below x = bool-ext _ _ (λ h. (leb-iff x 1).1 (omega (arith, (ltb_iff x 2).0 h))) (λ h. (ltb_iff x 2).1 (omega (arith, (leb-iff x 1).0 h)))

pub all-bits : (xs : Bytes) → all (λ x. ltb x 2) xs ≡ all is_bit xs
unfolding all
all-bits [] = refl
all-bits (x ∷ xs) = ap₂ ◌&&◌ (bit_below x) (all-bits xs)

-- a byte 0 or 1 a node
pub bits_are : (s : Bytes) (n : ℕ) → n ≤ length s → all (λ x. ltb x 2) (take n s) ≡ all (λ k. is_bit (get_or s k 0)) (up_to n)
bits_are s n h = all-bits (take n s) ∙ ap (all is_bit) (sym (singles s 0 n h)) ∙ all_map is_bit (λ k. get_or s k 0) (up_to n)

-- the three parts of the test
module _ (I : Instance) (s : Bytes) where
  abbrev moves : Bool
  moves = all (λ i. all (λ t. is_move I i ((plan_of I s).move i t)) (up_to I.intervals)) (up_to I.trains)

  pub fits-long : eqb (length s) (plan_length I) ≡ false → false ≡ plan_fits I s
  unfolding plan_fits
  fits-long e = rw e

  pub fits_bits : eqb (length s) (plan_length I) ≡ true → all (λ n. is_bit (get_or s n 0)) (up_to I.nodes) ≡ false → false ≡ plan_fits I s
  unfolding plan_fits
  fits_bits e f = rw (e, f)

  pub fits_moves : {test : Bool} → eqb (length s) (plan_length I) ≡ true → all (λ n. is_bit (get_or s n 0)) (up_to I.nodes) ≡ true
      → test ≡ moves → test ≡ plan_fits I s
  unfolding plan_fits
  fits_moves e f t = rw (e, f) t
