-- The parts that the loops pass make up the families of the specification. Assumes nothing.
use mathlib.Core.Path.{◌≡◌, refl, sym, ap, ap₂, ◌∙◌}
use Prim.Native.Nat.{ℕ, ◌+◌, ◌*◌, ◌-◌}
use native.Mathlib.Nat.{le_refl, suc-mul}
use native.Mathlib.Numerals.{add-one}
use native.Mathlib.Omega.{arith}
use mathlib.Core.List.{List, ◌∷◌, append-nil}
use Rattle.spec.specs.Lists.{up_to, range, each, one}
use Rattle.spec.specs.Instance.{Instance}
use Rattle.spec.specs.Formula.{Clause, not', width, base, claim_var, clauses_b, clauses_i, clauses_d, clauses_e, clauses_g, clauses_h, family_b, family_c, family_d, family_e, family_f, family_g, family_h, family_i}
use Rattle.laws.proofs.Parts.{each-mem-same, each_same, map_same}
use Rattle.clauses.proofs.Turns.{up_to-range, range-next, range-end}
use Rattle.formula.specs.Families.{B, C, D, E, G, H, train_clauses, family_clauses, call_runs, call_clauses, pairs_behind}

module _ (I : Instance) where
  -- the next interval's first variable
  pub base-next : (i t : ℕ) → base I i (t + 1) ≡ base I i t + width I i
  unfolding base
  base-next i t = omega (arith, succ-mul t (width I i))
    where
      succ-mul : (a b : ℕ) → (a + 1) * b ≡ a * b + b
      succ-mul a b = ap (λ (k : ℕ). k * b) (add-one a) ∙ suc-mul a b

  -- from 0 on
  from_start : (f : ℕ → List Clause) (n : ℕ) → each (range 0 n) f ≡ each (up_to n) f
  from_start f n = ap (λ (ks : List ℕ). each ks f) (sym (up_to-range n))

  pub shape-b : family_clauses I B ≡ family_b I
  unfolding family_clauses train_clauses family_b
  shape-b = each_same _ _ I.trains (λ i _. from_start (λ t. clauses_b (I.runs i) (base I i t)) (I.departure i))

  pub shape-c : family_clauses I C ≡ family_c I
  unfolding family_clauses train_clauses family_c
  shape-c = refl

  pub shape-d : family_clauses I D ≡ family_d I
  unfolding family_clauses train_clauses family_d each
  shape-d = each_same _ _ I.trains (λ i _. only_one (λ t. clauses_d I i (base I i t)) (I.departure i))
    where
      only_one : (f : ℕ → List Clause) (d : ℕ) → each (range d (d + 1)) f ≡ f d
      only_one f d =
          ap (λ (ks : List ℕ). each ks f) (range-next d (d + 1) (omega arith) ∙ ap (λ (ks : List ℕ). d ∷ ks) (range-end (d + 1) (d + 1) (le_refl (d + 1))))
          ∙ append-nil (f d)

  pub shape-e : family_clauses I E ≡ family_e I
  unfolding family_clauses train_clauses family_e
  shape-e = each_same _ _ I.trains (λ i _.
      each-mem-same _ _ (range (I.departure i) (I.intervals - 1)) (λ t _. ap (clauses_e I i (base I i t)) (sym (base-next i t))))

  pub shape-f : (each (up_to I.trains) λ i. each (up_to (I.calls i)) λ c. call_clauses I i c) ≡ family_f I
  unfolding family_f call_clauses call_runs
  shape-f = refl

  pub shape-g : family_clauses I G ≡ family_g I
  unfolding family_clauses train_clauses family_g
  shape-g = each_same _ _ I.trains (λ i _. from_start (λ t. clauses_g I i (base I i t)) I.intervals)

  pub shape-h : family_clauses I H ≡ family_h I
  unfolding family_clauses train_clauses family_h
  shape-h = each_same _ _ I.trains (λ i _. from_start (λ t. clauses_h I i (base I i t)) I.intervals)

  pub shape-i : (each (up_to I.intervals) λ t. each (up_to I.trains) λ i. pairs_behind I t i) ≡ family_i I
  unfolding family_i pairs_behind
  shape-i = refl

  -- claims lie one behind the other
  pub claim-shift : (i t s : ℕ) → claim_var I i t 0 + s ≡ claim_var I i t s
  unfolding claim_var
  claim-shift i t s = omega arith

  -- the pairs of two trains' claims, by the first claim of each
  pub pairs-from : (n i j t lower higher : ℕ) → lower ≡ claim_var I i t 0 → higher ≡ claim_var I j t 0
      → clauses_i n (λ s. lower + s) (λ s. higher + s) ≡ clauses_i n (claim_var I i t) (claim_var I j t)
  unfolding clauses_i
  pairs-from n i j t lower higher e f = map_same _ _ n (λ s _.
      ap₂ (λ (a b : ℕ). not' a ∷ one (not' b)) (ap (λ (x : ℕ). x + s) e ∙ claim-shift i t s) (ap (λ (x : ℕ). x + s) f ∙ claim-shift j t s))
