-- What a cap leaves as it is, and what its counter adds. Assumes nothing.
use mathlib.Core.Path.{◌≡◌, refl, sym, ap, ◌∙◌}
use mathlib.Core.Option.{Option}
use Prim.Native.Nat.{ℕ, ◌+◌, ◌*◌, ◌≤◌, ◌<◌}
use native.Mathlib.Nat.{mul-le-mul}
use native.Mathlib.Omega.{arith}
use mathlib.Core.Bool.{Bool, true, false, not, ◌&&◌}
use mathlib.Core.List.{List, [], ◌∷◌, ◌++◌}
use lib.ListN.{length, get_or, take}
use Rattle.model.specs.declared.Book.{Book as BookStruct}
use Rattle.spec.specs.Lists.{pick, only, one}
use Rattle.spec.specs.Book.{denies_border, forces_border}
use Rattle.spec.specs.Instance.{Instance, instance_of, compile, under, is_free, free_nodes_of}
use Rattle.spec.specs.Cap.{counter_for, counter_of, cap_variables}
use Rattle.spec.specs.Formula.{width, first_var, own_variables, variables}
use Rattle.spec.specs.Held.{held}
use Rattle.network.proofs.Held.{kind_at}
use Rattle.tables.proofs.Scans.{taken}

module _ (cap : Option ℕ) (I : Instance) where
  -- the nodes of kind 1 are the same ones
  pub free-under : free_nodes_of (under cap I) ≡ free_nodes_of I
  unfolding free_nodes_of is_free
  free-under = refl

  -- and so the counter is that of the cap and of their number
  pub counter-under : counter_of (under cap I) ≡ counter_for cap (length (free_nodes_of I))
  unfolding counter_of
  counter-under = ap (λ (ns : List ℕ). counter_for cap (length ns)) free-under

  -- the variables of document 01 are the same, and the counter's follow them
  pub own-under : own_variables (under cap I) ≡ own_variables I
  unfolding own_variables first_var width
  own-under = refl

  pub variables-under : variables (under cap I) ≡ own_variables I + (counter_of (under cap I)).most * (counter_of (under cap I)).spare
  unfolding variables cap_variables
  variables-under = ap (λ (n : ℕ). n + (counter_of (under cap I)).most * (counter_of (under cap I)).spare) own-under

-- a counter over few nodes has few variables
pub counter-small : (m s : ℕ) → m + s ≤ 96 → m * s ≤ 9216
counter-small m s few = mul-le-mul {n₂ = 96} {m₂ = 96} (omega (arith, few)) (omega (arith, few))

-- picked twice is picked by both tests
pub pick-twice : (f g : ℕ → Bool) (xs : List ℕ) → pick f (pick g xs) ≡ pick (λ x. g x && f x) xs
unfolding pick only
pick-twice f g [] = refl
pick-twice f g (x ∷ xs) = first (g x) (pick-twice f g xs)
  where
    first : (c : Bool) → pick f (pick g xs) ≡ pick (λ x. g x && f x) xs
        → pick f (only c (one x) ++ pick g xs) ≡ only (c && f x) (one x) ++ pick (λ x. g x && f x) xs
    first true e = ap (λ (l : List ℕ). only (f x) (one x) ++ l) e
    first false e = e

-- whether a node is of kind 1, by the array of the kinds
pub free-at : (b : BookStruct) (n : ℕ) → n < length (take b.node_count b.nodes) → {kind : ℕ} → kind ≡ get_or (take b.node_count b.nodes) n 0
    → is_free (instance_of (held b)) n ≡ (not (denies_border kind) && not (forces_border kind))
unfolding is_free instance_of compile
free-at b n l e =
    let here = taken b.node_count b.nodes n 0 l in
    ap (λ (k : ℕ). not (denies_border k) && not (forces_border k)) (kind_at b n here.0 ∙ sym here.1 ∙ sym e)
