-- The clauses of a cap's counter as the loops pass them: by the counter that the code holds, and by a slice that has the nodes of kind 1 at
-- its start. That they are those of the specification is a lemma. Assumes nothing.
use Rattle.std.specs.Prelude.{◌&&◌, ℕ, ◌+◌, ◌*◌, ◌-◌, ◌≤◌, ◌<◌, List, ◌∷◌, ◌++◌, length, get_or, ℤ, ltb}
use Rattle.spec.specs.Lists.{up_to, each, only, one}
use Rattle.spec.specs.Read.{max_nodes}
use Rattle.spec.specs.Formula.{Clause, is, not'}
use Rattle.layout.specs.declared.counter.Counter.{Counter}

module _ (c : Counter) (first : ℕ) where
  -- the variable of j and k
  abbrev pub variable_at : ℕ → ℕ → ℕ
  variable_at j k = first + (j * c.spare + k)

  -- the literal of the row before: none in the first row
  abbrev pub before_at : ℕ → ℕ → List ℤ
  before_at j k = only (ltb 0 j) (one (not' (variable_at (j - 1) k)))

  -- the clause that counts a node, and the one that keeps what was counted
  abbrev pub count_at : ℕ → ℕ → ℕ → Clause
  count_at node j k = not' node ∷ (before_at j k ++ only (ltb j c.most) (one (is (variable_at j k))))

  abbrev pub carry_at : ℕ → ℕ → List Clause
  carry_at j k = only (ltb j c.most && ltb 0 k) (one (not' (variable_at j (k - 1)) ∷ one (is (variable_at j k))))

  -- the clauses of j and k, of a row, and of all rows
  abbrev pub clauses_at : List ℕ → ℕ → ℕ → List Clause
  clauses_at nodes j k = count_at (get_or nodes (j + k) 0) j k ∷ carry_at j k

  unfoldable pub row_clauses : List ℕ → ℕ → List Clause
  row_clauses nodes j = each (up_to c.spare) (clauses_at nodes j)

  unfoldable pub counter_clauses : List ℕ → List Clause
  counter_clauses nodes = each (up_to (c.most + 1)) (row_clauses nodes)

-- the nodes that a counter goes over: so many stand in the slice, each with a number that a book's nodes have
pub record Listed (c : Counter) (nodes : List ℕ) : Type 0 where
  pub room : c.most + c.spare ≤ length nodes
  pub known : (n : ℕ) → n < c.most + c.spare → get_or nodes n 0 < max_nodes
