-- The end of the formula, P7: "The formula takes a cap: at most that many kind 1 nodes set. Its clauses follow family I and its extra
-- variables follow all others". The clauses are a counter over the nodes of kind 1, in rising node number; docs/FORMATS.md has their
-- order with an example. Without a cap there is nothing here. Assumes nothing.
use Rattle.std.specs.Prelude.{Bool, true, false, ◌&&◌, ℕ, suc, ◌+◌, ◌*◌, ◌-◌, List, ◌∷◌, ◌++◌, map, length, take, get_or, ℤ, pos, negsuc, ltb, leb}
use Rattle.std.proofs.Math.Option.{Option, none, some}
use Rattle.spec.specs.Lists.{Bytes, pick, up_to, each, only, one}
use Rattle.spec.specs.Instance.{Instance, free_nodes_of}
use Rattle.spec.specs.Plan.{Plan, bit}

-- "at most that many": a cap allows a count; without one every count is allowed
unfoldable pub allows : Option ℕ → ℕ → Bool
allows none n = true
allows (some c) n = leb n c

-- A counter: it counts nodes that are set up to `most`, and has `spare` more nodes of kind 1 than that. With `spare` 0 it counts nothing.
pub record Counter : Type 0 where
  pub most : ℕ
  pub spare : ℕ

-- a counter that counts nothing
abbrev pub no_counter : Counter
no_counter = record { most = 0; spare = 0 }

-- "A cap not below the count of kind 1 nodes adds nothing."
unfoldable pub counter_for : Option ℕ → ℕ → Counter
counter_for none free = no_counter
counter_for (some c) free = elim (ltb c free) [ true ↦ record { most = c; spare = free - c } | false ↦ no_counter ]

module _ (I : Instance) where
  unfoldable pub counter_of : Counter
  counter_of = counter_for I.cap (length (free_nodes_of I))

  -- how many nodes of kind 1 are set, and how many of the first n of them
  unfoldable pub set_count : (ℕ → Bool) → ℕ
  set_count border = length (pick border (free_nodes_of I))

  unfoldable pub set_among : (ℕ → Bool) → ℕ → ℕ
  set_among border n = length (pick border (take n (free_nodes_of I)))

  -- what the cap asks of a plan: "at most that many kind 1 nodes set"
  unfoldable pub within_cap : Plan → Bool
  within_cap p = allows I.cap (set_count p.border)

  -- ---- the variables: by j below `most`, then k below `spare`: more than j of the first j + k + 1 nodes of kind 1 are set

  unfoldable pub cap_variables : ℕ
  cap_variables = counter_of.most * counter_of.spare

  -- the variable of j and k; `first` is the first of the variables that follow all others
  unfoldable pub count_var : ℕ → ℕ → ℕ → ℕ
  count_var first j k = first + (j * counter_of.spare + k)

  -- ---- the clauses: by j up to `most`, then k below `spare`

  -- Where j of the first j + k nodes are set and the next one is too, more than j are set; of the greatest j: that one is not set.
  unfoldable pub count_clause : ℕ → ℕ → ℕ → List ℤ
  count_clause first j k =
      negsuc (get_or (free_nodes_of I) (j + k) 0)
      ∷ (only (ltb 0 j) (one (negsuc (count_var first (j - 1) k))) ++ only (ltb j counter_of.most) (one (pos (suc (count_var first j k)))))

  -- What has been counted stays counted.
  unfoldable pub carry_clause : ℕ → ℕ → ℕ → List (List ℤ)
  carry_clause first j k =
      only (ltb j counter_of.most && ltb 0 k) (one (negsuc (count_var first j (k - 1)) ∷ one (pos (suc (count_var first j k)))))

  unfoldable pub cap_clauses : ℕ → List (List ℤ)
  cap_clauses first =
      each (up_to (counter_of.most + 1)) λ j. each (up_to counter_of.spare) λ k. count_clause first j k ∷ carry_clause first j k

  -- ---- the values that a plan gives to the variables, a byte each

  unfoldable pub cap_values : Plan → Bytes
  cap_values p =
      each (up_to counter_of.most) λ j. map (λ k. bit (ltb j (set_among p.border (j + k + 1)))) (up_to counter_of.spare)
