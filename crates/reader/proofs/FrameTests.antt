-- The first fault of a frame, by the tests that the code makes in a row, and those tests in the specification's words. Assumes
-- nothing.
use mathlib.Core.Path.{◌≡◌, refl, ap, ◌∙◌}
use mathlib.Core.Logic.{◌≢◌}
use mathlib.Core.Bool.{Bool, true, false, not}
use mathlib.Core.Option.{some}
use Prim.Native.Nat.{ℕ, ◌≤◌}
use native.Mathlib.Omega.{arith}
use mathlib.Core.List.{List, [], ◌∷◌}
use lib.ListN.{length}
use lib.Dec.{T, eqb}
use Rattle.laws.proofs.Tests.{decide, true_of, denied-of, empty-length}
use Rattle.spec.specs.Lists.{Bytes, any, Fault, ◌when◌, first_fault}
use Rattle.spec.specs.Frames.{Format, Kind, kind_number, kind_order, rank, rank_in, find_kind, kind_field, payload_of, behind, cut_short}
use Rattle.spec.specs.Read.{Reading, unknown_kind, out_of_order, kind_faults, frame_faults}
use Rattle.demands.proofs.Growing.{none-iff}
use Rattle.frames.proofs.Order.{rank-none}
use Rattle.frames.specs.Framed.{out_of_order_by}

-- ---- the first fault of a table

pub fault-here : (n : ℕ) (b : Bool) (fs : List Fault) → b ≡ true → first_fault (n when b ∷ fs) ≡ some n
unfolding first_fault
fault-here n b fs e = rw (e, first_fault) refl

pub fault-next : (n : ℕ) (b : Bool) (fs : List Fault) → b ≡ false → first_fault (n when b ∷ fs) ≡ first_fault fs
unfolding first_fault
fault-next n b fs e = rw (e, first_fault) refl

module _ (F : Format) (r : Reading) (s : Bytes) where
  pub first-cut : cut_short s ≡ true → first_fault (frame_faults F r s) ≡ some 1
  unfolding frame_faults
  first-cut e = fault-here 1 (cut_short s) _ e

  pub first-unknown : cut_short s ≡ false → unknown_kind (kind_field s) ≡ true → first_fault (frame_faults F r s) ≡ some 2
  unfolding frame_faults
  first-unknown e f = fault-next 1 (cut_short s) _ e ∙ fault-here 2 (unknown_kind (kind_field s)) _ f

  pub first-order : cut_short s ≡ false → unknown_kind (kind_field s) ≡ false → out_of_order r.last s ≡ true → first_fault (frame_faults F r s) ≡ some 3
  unfolding frame_faults
  first-order e f g = fault-next 1 (cut_short s) _ e ∙ fault-next 2 (unknown_kind (kind_field s)) _ f ∙ fault-here 3 (out_of_order r.last s) _ g

  pub first-content : cut_short s ≡ false → unknown_kind (kind_field s) ≡ false → out_of_order r.last s ≡ false
      → first_fault (frame_faults F r s) ≡ first_fault (kind_faults F r.book (find_kind (kind_field s) kind_order) (payload_of s))
  unfolding frame_faults
  first-content e f g = fault-next 1 (cut_short s) _ e ∙ fault-next 2 (unknown_kind (kind_field s)) _ f ∙ fault-next 3 (out_of_order r.last s) _ g

-- ---- the tests

-- a number is a kind's exactly where its rank is at most the last kind's
rank-some : (n : ℕ) (ks : List Kind) → T (any (λ k. eqb n (kind_number k)) ks) → rank_in n ks ≤ length ks
unfolding any rank_in
rank-some n [] h = absurd h
rank-some n (k ∷ ks) h = decide (eqb n (kind_number k))
    (λ t. rw (true_of (eqb n (kind_number k)) t, rank_in) (omega arith))
    (λ f. let e = denied-of (eqb n (kind_number k)) f in
    let m = rank-some n ks (rw e at h) in
    rw (e, rank_in) (omega arith))

pub known-rank : (n : ℕ) → rank n ≢ 9 → unknown_kind n ≡ false
unfolding unknown_kind rank kind_order
known-rank n h = decide (any (λ k. eqb n (kind_number k)) kind_order)
    (λ t. ap not (true_of (any (λ k. eqb n (kind_number k)) kind_order) t))
    (λ f. absurd (h (rank-none n kind_order ((none-iff (λ k. eqb n (kind_number k)) kind_order).0 f))))

pub unknown-rank : (n : ℕ) → rank n ≡ 9 → unknown_kind n ≡ true
unfolding unknown_kind rank kind_order
unknown-rank n e = decide (any (λ k. eqb n (kind_number k)) kind_order)
    (λ t. let m = rank-some n kind_order t in let no' : ⊥ = omega arith in absurd no')
    (λ f. ap not (denied-of (any (λ k. eqb n (kind_number k)) kind_order) f))

pub order-by : (last : ℕ) (s : Bytes) → out_of_order last s ≡ out_of_order_by last (kind_field s) (length (behind s))
unfolding out_of_order out_of_order_by
order-by last s = simp (empty-length (behind s))
