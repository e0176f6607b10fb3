-- The variables on the trail are opened again, one by one: those that still have a value stand on the trail from j on. Behind the
-- last, each entry is 0. Assumes nothing.
use mathlib.Core.Path.{◌≡◌, refl, sym, ap, ◌∙◌}
use mathlib.Core.Logic.{◌⊎◌, inl, inr}
use Prim.Native.Nat.{ℕ, ◌+◌, ◌≤◌, ◌<◌}
use native.Mathlib.Omega.{arith}
use mathlib.Core.List.{List}
use lib.ListN.{length, get_or, set, length-set, length-replicate}
use lib.Seq.{get_or-set_same, get_or-set_other, ext_get_or}
use lib.Dec.{eqb}
use Rattle.spec.specs.Lists.{Bytes}
use Rattle.spec.specs.Entry.{zeroed}
use Rattle.laws.proofs.Tests.{eqb-iff, decide, not_iff}
use Rattle.propagation.specs.Known.{Trailed}
use Rattle.propagation.proofs.Values.{get_or-zeroed}

-- the slice is as long as it was, and what has a value stands on the trail from j on
pub record Opening (values₀ : Bytes) (trail : List ℕ) (set' : ℕ) (values : Bytes) (j : ℕ) : Type 0 where
  pub size : length values ≡ length values₀
  pub left : (v : ℕ) → v < length values → (get_or values v 0 ≡ 0) ⊎ ((k : ℕ) × (j ≤ k) × (k < set') × (get_or trail k 0 ≡ v))

pub opening-start : {values : Bytes} {trail : List ℕ} {set' : ℕ} → Trailed values trail set' → Opening values trail set' values 0
opening-start t = record {
  size = refl;
  left = λ v h. elim (t.on_trail v h) [ inl o ↦ inl o | inr w ↦ inr (w.0, omega arith, w.1, w.2) ];
}

module _ {values₀ : Bytes} {trail : List ℕ} {set' : ℕ} {values : Bytes} {j : ℕ} where
  -- the variable at j
  pub opening-next : Trailed values₀ trail set' → Opening values₀ trail set' values j → j < set'
      → Opening values₀ trail set' (set values (get_or trail j 0) 0) (j + 1)
  opening-next t o l =
      let u = get_or trail j 0 in
      record {
        size = length-set values u 0 ∙ o.size;
        left = λ v h. decide (eqb v u)
            (λ q. let e = (eqb-iff v u).0 q in inl (rw e (get_or-set_same values u 0 0 (omega (arith, t.below j l, o.size)))))
            (λ q. let n : v ≡ u → ⊥ = λ e. (not_iff (eqb v u)).0 q ((eqb-iff v u).1 e) in
            elim (o.left v (omega (arith, length-set values u 0))) [
              | inl z ↦ inl (get_or-set_other values u v 0 0 n ∙ z)
              | inr w ↦ (let other : w.0 ≡ j → ⊥ = λ e. n (sym w.3 ∙ ap (λ (k : ℕ). get_or trail k 0) e) in
                  inr (w.0, omega (arith, w.1, other), w.2, w.3))
            ]);
      }

  -- behind the last
  pub opening-done : Opening values₀ trail set' values j → set' ≤ j → values ≡ zeroed 0 (length values₀)
  unfolding zeroed
  opening-done o l =
      ext_get_or 0 values (zeroed 0 (length values₀)) (o.size ∙ sym (length-replicate {A = ℕ} (length values₀) 0)) λ v h.
      elim (o.left v h) [
        | inl z ↦ z ∙ sym (get_or-zeroed (length values₀) v)
        | inr w ↦ (let no : ⊥ = omega (arith, w.1, w.2) in absurd no)
      ]
