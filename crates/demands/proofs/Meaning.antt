-- What each family of clauses says of a valuation. Assumes nothing.
use mathlib.Core.Path.{◌≡◌, refl}
use mathlib.Core.Logic.Iff
use mathlib.Core.Logic.{◌↔◌, ◌⊎◌}
use mathlib.Core.Bool.{Bool, true, false, not, ◌&&◌}
use Prim.Native.Nat.{ℕ, ◌+◌, ◌-◌, ◌≤◌, ◌<◌}
use mathlib.Core.List.{Memᴰ}
use lib.ListN.{get_or}
use lib.Dec.{T, ltb}
use Rattle.laws.proofs.Tests.{meaning, and-iff, or-iff, all-iff}
use Rattle.laws.proofs.Rows.{rows, all_append}
use Rattle.spec.specs.Lists.{any, up_to}
use Rattle.spec.specs.Instance.{Instance, free_nodes_of, in_window, served_at_departure}
use Rattle.spec.specs.Formula.{is, not', border_var, run_var, gone_var, claim_var, clauses_b, clauses_c, clauses_d, clauses_e, clause_e, followers_e, servers_f, clauses_g, claims_g, clauses_h, clauses_i, family_a, family_b, family_c, family_d, family_e, family_f, family_g, family_h, family_i, own_variables, formula}
use Rattle.spec.specs.Cap.{counter_of, count_var, count_clause, carry_clause, cap_clauses}
use Rattle.spec.specs.Assignment.{truth, deny, is_yes, value_of, is_true, holds, satisfies}

module _ (α : ℕ → Bool) where
  pub affirmed : (v : ℕ) → is_true α (is v) ≡ α v
  unfolding is_true truth is_yes value_of
  affirmed v = go (α v)
    where
      go : (b : Bool) → is_yes (value_of b) ≡ b
      go true = refl
      go false = refl

  pub denied' : (v : ℕ) → is_true α (not' v) ≡ not (α v)
  unfolding is_true truth is_yes value_of deny
  denied' v = go (α v)
    where
      go : (b : Bool) → is_yes (deny (value_of b)) ≡ not b
      go true = refl
      go false = refl

-- how a family's clauses are taken apart
ruleset taken = (rows, affirmed, denied', meaning)

module _ (I : Instance) (α : ℕ → Bool) where
  -- A: a denied border is not set, a forced one is
  pub means_a : T (satisfies α (family_a I)) ↔ ((n : ℕ) → n < I.nodes
      → (T (I.denied n) → T (α (border_var I n)) → ⊥) × (T (I.forced n) → T (α (border_var I n))))
  unfolding satisfies holds family_a
  means_a = simp taken Iff.rfl

  -- B: nothing before the departure
  pub means_b : T (satisfies α (family_b I)) ↔ ((i : ℕ) → i < I.trains → (t : ℕ) → t < I.departure i
      → ((r : ℕ) → r < I.runs i → T (α (run_var I i t r)) → ⊥) × (T (α (gone_var I i t)) → ⊥))
  unfolding satisfies holds family_b clauses_b run_var gone_var
  means_b = simp taken Iff.rfl

  -- C: one move at least, and no two
  pub means_c : T (satisfies α (family_c I)) ↔ ((i : ℕ) → i < I.trains → (t : ℕ) → I.departure i ≤ t → t < I.intervals
      → (T (any (λ r. α (run_var I i t r)) (up_to (I.runs i))) ⊎ T (α (gone_var I i t)))
      × ((m : ℕ) → m < I.runs i + 1 → (n : ℕ) → m + 1 ≤ n → n < I.runs i + 1
      → T (α (run_var I i t m)) → T (α (run_var I i t n)) → ⊥))
  unfolding satisfies holds family_c clauses_c run_var gone_var
  means_c = simp taken (simp or-iff Iff.rfl)

  -- D: at the departure a run from the given place, and not gone
  pub means_d : T (satisfies α (family_d I)) ↔ ((i : ℕ) → i < I.trains
      → ((r : ℕ) → r < I.runs i → (T (I.given i r) → ⊥) → T (α (run_var I i (I.departure i) r)) → ⊥)
      × (T (α (gone_var I i (I.departure i))) → ⊥))
  unfolding satisfies holds family_d clauses_d run_var gone_var
  means_d = simp taken Iff.rfl

  -- E: a run is followed by one from its end, or by gone where it may leave; gone by gone
  pub means_e : T (satisfies α (family_e I)) ↔ ((i : ℕ) → i < I.trains → (t : ℕ) → I.departure i ≤ t → t < I.intervals - 1
      → ((r : ℕ) → r < I.runs i → T (α (run_var I i t r))
      → T (any (λ q. I.follows i r q && α (run_var I i (t + 1) q)) (up_to (I.runs i))) ⊎ T (I.leaves i r && α (gone_var I i (t + 1))))
      × (T (α (gone_var I i t)) → T (α (gone_var I i (t + 1)))))
  unfolding satisfies holds family_e clauses_e clause_e followers_e run_var gone_var
  means_e = simp taken (simp or-iff Iff.rfl)

  -- F: a call that the given place does not serve in time is served by a run's end
  pub means_f : T (satisfies α (family_f I)) ↔ ((i : ℕ) → i < I.trains → (c : ℕ) → c < I.calls i → (T (served_at_departure I i c) → ⊥)
      → (t : ℕ) × (I.departure i ≤ t) × (t < I.intervals)
      × (T (in_window I i c (t + 1)) × ((r : ℕ) × (r < I.runs i) × (T (I.serves i c r) × T (α (run_var I i t r))))))
  unfolding satisfies holds family_f servers_f run_var
  means_f = simp taken Iff.rfl

  -- G: a run claims its segments
  pub means_g : T (satisfies α (family_g I)) ↔ ((i : ℕ) → i < I.trains → (t : ℕ) → t < I.intervals → (r : ℕ) → r < I.runs i
      → (s : ℕ) → Memᴰ s (I.path i r) → T (α (run_var I i t r)) → T (α (claim_var I i t s)))
  unfolding satisfies holds family_g clauses_g claims_g run_var claim_var
  means_g = simp (taken, all-iff) Iff.rfl

  -- H: a claim reaches over a node that is no border
  pub means_h : T (satisfies α (family_h I)) ↔ ((i : ℕ) → i < I.trains → (t : ℕ) → t < I.intervals → (n : ℕ) → n < I.nodes
      → (s : ℕ) → s < I.segments → (u : ℕ) → u < I.segments → T (I.meet n s u)
      → T (α (claim_var I i t s)) → T (α (border_var I n)) ⊎ T (α (claim_var I i t u)))
  unfolding satisfies holds family_h clauses_h claim_var
  means_h = simp taken (simp or-iff Iff.rfl)

  -- I: no segment is claimed by two trains
  pub means_i : T (satisfies α (family_i I)) ↔ ((t : ℕ) → t < I.intervals → (i : ℕ) → i < I.trains → (j : ℕ) → i + 1 ≤ j → j < I.trains
      → (s : ℕ) → s < I.segments → T (α (claim_var I i t s)) → T (α (claim_var I j t s)) → ⊥)
  unfolding satisfies holds family_i clauses_i
  means_i = simp taken Iff.rfl

  -- The cap: where a node is set, what was counted before it is counted by one more, up to the cap; and what is counted stays so.
  pub means_cap : (first : ℕ) → T (satisfies α (cap_clauses I first)) ↔ ((j : ℕ) → j < (counter_of I).most + 1 → (k : ℕ) → k < (counter_of I).spare
      → (T (α (get_or (free_nodes_of I) (j + k) 0)) → T (ltb 0 j && not (α (count_var I first (j - 1) k))) ⊎ T (ltb j (counter_of I).most && α (count_var I first j k)))
      × (T (ltb j (counter_of I).most && ltb 0 k) → T (α (count_var I first j (k - 1))) → T (α (count_var I first j k))))
  unfolding satisfies holds cap_clauses count_clause carry_clause
  means_cap first = simp taken (simp or-iff Iff.rfl)

  -- the whole formula, family by family
  pub record Families : Type 0 where
    pub A : T (satisfies α (family_a I))
    pub B : T (satisfies α (family_b I))
    pub C : T (satisfies α (family_c I))
    pub D : T (satisfies α (family_d I))
    pub E : T (satisfies α (family_e I))
    pub F : T (satisfies α (family_f I))
    pub G : T (satisfies α (family_g I))
    pub H : T (satisfies α (family_h I))
    pub J : T (satisfies α (family_i I))
    pub extra : T (satisfies α (cap_clauses I (own_variables I)))

  pub families : T (satisfies α (formula I)) → Families
  unfolding satisfies formula
  families h =
      let k = simp (all_append, and-iff) at h in
      record {
        A = k.0;
        B = k.1.0;
        C = k.1.1.0;
        D = k.1.1.1.0;
        E = k.1.1.1.1.0;
        F = k.1.1.1.1.1.0;
        G = k.1.1.1.1.1.1.0;
        H = k.1.1.1.1.1.1.1.0;
        J = k.1.1.1.1.1.1.1.1.0;
        extra = k.1.1.1.1.1.1.1.1.1;
      }

  pub from-families : Families → T (satisfies α (formula I))
  unfolding satisfies formula
  from-families k =
      simp (all_append, and-iff)
      (k.A, (k.B, (k.C, (k.D, (k.E, (k.F, (k.G, (k.H, (k.J, k.extra)))))))))
