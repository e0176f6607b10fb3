-- What the theorems use of the end of the formula (P7): the cap's clauses ask exactly of a plan that it sets no more nodes of kind 1 than
-- the cap, and a plan's values of the cap's variables are a byte 0 or 1 each. Assumes nothing.
use mathlib.Core.Path.{◌≡◌, sym, ap, ◌∙◌, subst}
use mathlib.Core.Logic.{◌↔◌, ◌⊎◌, inl, inr}
use mathlib.Core.Bool.{Bool, not, ◌&&◌}
use mathlib.Core.Option.{Option, none, some}
use Prim.Native.Nat.{ℕ, ◌+◌, ◌*◌, ◌-◌, ◌≤◌, ◌<◌}
use native.Mathlib.Omega.{arith}
use mathlib.Core.List.{List, map}
use lib.ListN.{length, get_or, length-map}
use lib.Dec.{T, eqb, ltb, T_not}
use Rattle.laws.proofs.Tests.{meaning, and-iff, ltb_iff, leb-iff, decide, le-or-lt, true_of, denied-of, up_to-mem, get_or-mem}
use Rattle.laws.proofs.Rows.{rows}
use Rattle.laws.proofs.Picks.{pick-map, pick-numbers, mem-pick}
use Rattle.laws.proofs.Parts.{part_in, part_at, part-each, length-each, length-up_to, sum-constant, map_at, singles}
use Rattle.spec.specs.Lists.{all, pick, up_to, sum_to}
use Rattle.spec.specs.Instance.{Instance, is_free, free_nodes_of}
use Rattle.spec.specs.Plan.{Plan, IsPlan, bit, is_bit}
use Rattle.spec.specs.Cap.{allows, counter_for, counter_of, set_count, set_among, within_cap, cap_variables, count_var, cap_clauses, cap_values}
use Rattle.spec.specs.Formula.{border_var, own_variables}
use Rattle.spec.specs.Assignment.{satisfies, assigned, encode}
use Rattle.demands.proofs.Meaning.{means_cap}
use Rattle.demands.proofs.Coding.{Codes}
use Rattle.demands.proofs.Encoding.{codes-encoded, part-cap, bit-one, is-bit}
use Rattle.demands.proofs.Counting.{passing, passing-most, Counts, counts-few, count-counts}

-- ---- counting the nodes of kind 1

module _ (I : Instance) where
  -- node number n of kind 1, counted from 0, is a node of the book
  pub free-inside : (n : ℕ) → n < length (free_nodes_of I) → get_or (free_nodes_of I) n 0 < I.nodes
  unfolding free_nodes_of
  free-inside n h = (up_to-mem I.nodes _).0 ((mem-pick (is_free I) _ (up_to I.nodes)).0 (get_or-mem (free_nodes_of I) n 0 h)).0

  module _ (border : ℕ → Bool) where
    -- whether the node of kind 1 with a number is set
    abbrev pub set_at : ℕ → Bool
    set_at n = border (get_or (free_nodes_of I) n 0)

    pub set_all : passing set_at (length (free_nodes_of I)) ≡ set_count I border
    unfolding set_count
    set_all = pick-numbers border 0 (free_nodes_of I)

    pub set-among : (n : ℕ) → n ≤ length (free_nodes_of I) → set_among I border n ≡ passing set_at n
    unfolding set_among
    set-among n h =
        let nodes = free_nodes_of I in
        ap (λ (xs : List ℕ). length (pick border xs)) (sym (singles nodes 0 n h))
        ∙ ap length (pick-map border (λ i. get_or nodes i 0) (up_to n))
        ∙ length-map (pick set_at (up_to n)) (λ i. get_or nodes i 0)

-- ---- the counter

-- a counter goes over all nodes of kind 1, or counts nothing
pub counter-whole : (cap : Option ℕ) (free : ℕ)
    → (counter_for cap free).most + (counter_for cap free).spare ≤ free
unfolding counter_for
counter-whole none free = omega arith
counter-whole (some c) free = decide (ltb c free)
    (λ h. rw (true_of (ltb c free) h, counter_for) (let l = (ltb_iff c free).0 h in omega (arith, l)))
    (λ h. rw (denied-of (ltb c free) h, counter_for) (omega arith))

-- The cap allows as many as there are exactly where the counter counts no more than it may. `g n` is how many of the first n are set.
pub counter-allows : (cap : Option ℕ) (free : ℕ) (g : ℕ → ℕ) → ((n : ℕ) → g n ≤ n)
    → T (allows cap (g free)) ↔ (g ((counter_for cap free).most + (counter_for cap free).spare) ≤ (counter_for cap free).most)
unfolding allows counter_for
counter-allows none free g few = ((λ _. let m = few 0 in omega (arith, m)), λ _. tt)
counter-allows (some c) free g few = decide (ltb c free)
    (λ h. rw (true_of (ltb c free) h, counter_for)
    (let l = (ltb_iff c free).0 h in
    let n : c + (free - c) ≡ free = omega (arith, l) in (
      (λ w. subst (λ (k : ℕ). g k ≤ c) (sym n) ((leb-iff (g free) c).0 w)),
      (λ w. (leb-iff (g free) c).1 (subst (λ (k : ℕ). g k ≤ c) n w)),
    )))
    (λ h. rw (denied-of (ltb c free) h, counter_for) (
      (λ w. let m = few 0 in omega (arith, m)),
      (λ w. (leb-iff (g free) c).1 (below (T_not (ltb c free) h) (few free))),
    ))
  where
    below : (T (ltb c free) → ⊥) → g free ≤ free → g free ≤ c
    below above m = elim (le-or-lt free c) [ inl l ↦ omega (arith, l, m) | inr l ↦ absurd (above ((ltb_iff c free).1 l)) ]

module _ (I : Instance) (p : Plan) where
  abbrev free : ℕ
  free = length (free_nodes_of I)

  abbrev f : ℕ → Bool
  f = set_at I p.border

  within-iff : T (within_cap I p) ↔ (passing f ((counter_of I).most + (counter_of I).spare) ≤ (counter_of I).most)
  unfolding within_cap counter_of
  within-iff =
      let k = counter-allows I.cap free (passing f) (passing-most f) in
      let e = set_all I p.border in (
        (λ w. k.0 (subst (λ (n : ℕ). T (allows I.cap n)) (sym e) w)),
        (λ w. subst (λ (n : ℕ). T (allows I.cap n)) e (k.1 w)),
      )

  -- ---- the four laws

  -- a valuation that codes a plan and satisfies the clauses: the plan is within the cap
  pub cap-kept : (α : ℕ → Bool) → Codes I α p → T (satisfies α (cap_clauses I (own_variables I))) → T (within_cap I p)
  unfolding counter_of border_var
  cap-kept α code h = within-iff.1 (counts-few f (counter_of I).most (counter_of I).spare (λ j k. α (count_var I (own_variables I) j k)) counts)
    where
      inside : (j : ℕ) → j ≤ (counter_of I).most → (k : ℕ) → k < (counter_of I).spare → j + k < free
      inside j l k b = let w = counter-whole I.cap free in omega (arith, w, l, b)

      counts : Counts f (counter_of I).most (counter_of I).spare (λ j k. α (count_var I (own_variables I) j k))
      counts = record {
        more = λ j l k b t below.
            let set = subst T (sym (code.borders _ (free-inside I (j + k) (inside j l k b)))) t in
            elim (((means_cap I α (own_variables I)).0 h j (omega (arith, l)) k b).0 set) [
              | inl q ↦ (let r = simp and-iff at q in absurd (T_not (α (count_var I (own_variables I) (j - 1) k)) r.1 (below ((ltb_iff 0 j).0 r.0))))
              | inr q ↦ (let r = simp and-iff at q in ((ltb_iff j _).0 r.0, r.1))
            ];
        stays = λ j l k a b t. ((means_cap I α (own_variables I)).0 h j (omega (arith, l)) k b).1 (simp and-iff ((ltb_iff j _).1 l, (ltb_iff 0 k).1 a)) t;
      }

  -- how many values there are, in a row and in all
  length-row : (j : ℕ) → length (map (λ k. bit (ltb j (set_among I p.border (j + k + 1)))) (up_to (counter_of I).spare)) ≡ (counter_of I).spare
  length-row j = length-map (up_to (counter_of I).spare) _ ∙ length-up_to (counter_of I).spare

  pub cap-length : length (cap_values I p) ≡ cap_variables I
  unfolding cap_values cap_variables
  cap-length =
      length-each (λ j. map (λ k. bit (ltb j (set_among I p.border (j + k + 1)))) (up_to (counter_of I).spare)) (λ _. (counter_of I).spare) length-row (counter_of I).most
      ∙ sum-constant (counter_of I).spare (counter_of I).most

  pub cap-bits : T (all is_bit (cap_values I p))
  unfolding cap_values
  cap-bits = simp (rows, meaning) (λ j l k h. is-bit _)

  -- the plan's value of a variable of the cap
  assigned-count : (j : ℕ) → j < (counter_of I).most → (k : ℕ) → k < (counter_of I).spare
      → assigned (encode I p) (count_var I (own_variables I) j k) ≡ ltb j (passing f (j + k + 1))
  unfolding assigned count_var cap_values counter_of
  assigned-count j l k h =
      let part = part_in (part-cap I p)
      (part-each (λ j. map (λ k. bit (ltb j (set_among I p.border (j + k + 1)))) (up_to (counter_of I).spare)) (λ _. (counter_of I).spare) length-row (counter_of I).most j l) in
      let there : own_variables I + (j * (counter_of I).spare + k) ≡ own_variables I + sum_to (λ _. (counter_of I).spare) j + k =
      omega (arith, sum-constant (counter_of I).spare j) in
      ap (λ (n : ℕ). eqb (get_or (encode I p) n 0) 1) there
      ∙ ap (λ (x : ℕ). eqb x 1) (part_at part k 0 (rw (length-row j) h) ∙ map_at _ (counter_of I).spare k 0 h)
      ∙ bit-one _
      ∙ ap (ltb j) (set-among I p.border (j + k + 1) (omega (arith, counter-whole I.cap free, l, h)))

  -- a plan within the cap satisfies the clauses through its assignment
  pub cap-satisfied : IsPlan I p → T (within_cap I p) → T (satisfies (assigned (encode I p)) (cap_clauses I (own_variables I)))
  unfolding counter_of border_var
  cap-satisfied moves h = (means_cap I (assigned (encode I p)) (own_variables I)).1 λ j l k b. (
    (λ set. first j (omega (arith, l)) k b set),
    (λ both t.
        let r = simp and-iff at both in
        let low = (ltb_iff j _).0 r.0 in
        let high = (ltb_iff 0 k).0 r.1 in
        subst T (sym (assigned-count j low k b))
        (counts.stays j low k high b (subst T (assigned-count j low (k - 1) (omega (arith, b))) t))),
  )
    where
      counts : Counts f (counter_of I).most (counter_of I).spare (λ j k. ltb j (passing f (j + k + 1)))
      counts = count-counts f (counter_of I).most (counter_of I).spare (within-iff.0 h)

      inside : (j : ℕ) → j ≤ (counter_of I).most → (k : ℕ) → k < (counter_of I).spare → j + k < free
      inside j l k b = let w = counter-whole I.cap free in omega (arith, w, l, b)

      α : ℕ → Bool
      α = assigned (encode I p)

      first : (j : ℕ) → j ≤ (counter_of I).most → (k : ℕ) → k < (counter_of I).spare → T (α (get_or (free_nodes_of I) (j + k) 0))
          → T (ltb 0 j && not (α (count_var I (own_variables I) (j - 1) k))) ⊎ T (ltb j (counter_of I).most && α (count_var I (own_variables I) j k))
      first j l k b set =
          let t = subst T ((codes-encoded I p moves).borders _ (free-inside I (j + k) (inside j l k b))) set in
          decide (ltb 0 j && not (α (count_var I (own_variables I) (j - 1) k))) inl (λ no₀.
          let m = counts.more j l k b t (λ a.
          let low : j - 1 < (counter_of I).most = omega (arith, a, l) in
          subst T (assigned-count (j - 1) low k b)
          (decide (α (count_var I (own_variables I) (j - 1) k)) (λ t. t)
          (λ n. absurd (T_not (ltb 0 j && not (α (count_var I (own_variables I) (j - 1) k))) no₀ ((and-iff (ltb 0 j) (not (α (count_var I (own_variables I) (j - 1) k)))).1 ((ltb_iff 0 j).1 a, n)))))) in
          inr (simp and-iff ((ltb_iff j _).1 m.0, subst T (sym (assigned-count j m.0 k b)) m.1)))
