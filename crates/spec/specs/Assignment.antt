-- Assignments: the truth of a literal, judging, decoding, and a plan written as an assignment. Assumes nothing.
use Rattle.std.specs.Prelude.{Bool, true, false, ◌&&◌, cond, ℕ, zero, suc, List, [], ◌∷◌, ◌++◌, map, length, get_or, pos, negsuc, eqb}
use Rattle.std.proofs.Math.Option.{Option, none, some}
use Rattle.spec.specs.Lists.{Bytes, any, all, up_to, each}
use Rattle.spec.specs.Instance.{Instance}
use Rattle.spec.specs.Sections.{together}
use Rattle.spec.specs.Plan.{Plan, Move, run, absent, gone, is_gone, runs, of_run, bit, is_bit, plan_bytes}
use Rattle.spec.specs.Cap.{cap_values}
use Rattle.spec.specs.Formula.{Literal, Clause, run_var, gone_var, border_var, variables}

-- What is known of a variable: nothing, or its value.
pub data Value : Type 0 where
  open' yes' no' : Value

unfoldable pub deny : Value → Value
deny open' = open'
deny yes' = no'
deny no' = yes'

-- The truth of a literal, by what is known of each variable. 0 is no literal, and never true.
unfoldable pub truth : (ℕ → Value) → Literal → Value
truth known (pos zero) = no'
truth known (pos (suc v)) = known v
truth known (negsuc v) = deny (known v)

unfoldable pub is_yes : Value → Bool
is_yes open' = false
is_yes yes' = true
is_yes no' = false

unfoldable pub value_of : Bool → Value
value_of b = cond b yes' no'

-- a literal is true, where every variable has a value
unfoldable pub is_true : (ℕ → Bool) → Literal → Bool
is_true α l = is_yes (truth (λ v. value_of (α v)) l)

-- a clause is true where one of its literals is
unfoldable pub holds : (ℕ → Bool) → Clause → Bool
holds α c = any (is_true α) c

unfoldable pub satisfies : (ℕ → Bool) → List Clause → Bool
satisfies α cs = all (holds α) cs

-- 14: "the least false clause", counted from n
unfoldable pub first_false : (ℕ → Bool) → ℕ → List Clause → Option ℕ
first_false α n [] = none
first_false α n (c ∷ cs) = elim (holds α c) [ true ↦ first_false α (suc n) cs | false ↦ some n ]

-- "An assignment is one byte 0 or 1 a variable."
unfoldable pub assigned : Bytes → ℕ → Bool
assigned s v = eqb (get_or s v 0) 1

-- 13: "length or byte wrong"
unfoldable pub assignment_fits : Instance → Bytes → Bool
assignment_fits I s = eqb (length s) (variables I) && all is_bit s

-- "the number of the run whose variable is 1, 65535 where gone is 1, 65534 where neither is"
unfoldable pub first_run : (ℕ → Bool) → List ℕ → Option ℕ
first_run f [] = none
first_run f (r ∷ rs) = elim (f r) [ true ↦ some r | false ↦ first_run f rs ]

unfoldable pub chosen : Option ℕ → Bool → Move
chosen (some r) g = run r
chosen none g = cond g gone absent

-- "The plan that an accepted one decodes to"
unfoldable pub decoded : Instance → (ℕ → Bool) → Plan
decoded I α = record {
  border = λ n. α (border_var I n);
  move = λ i t. chosen (first_run (λ r. α (run_var I i t r)) (up_to (I.runs i))) (α (gone_var I i t));
}

unfoldable pub decode : Instance → Bytes → Bytes
decode I s = plan_bytes I (decoded I (assigned s))

-- "A plan's assignment claims exactly the sections its runs touch."
unfoldable pub claims : Instance → Plan → ℕ → ℕ → ℕ → Bool
claims I p i t s = any (λ u. together I p.border u s) (of_run (p.move i t) (λ r. I.path i r))

-- the plan as an assignment: a byte a variable, in the variables' order
unfoldable pub encode : Instance → Plan → Bytes
encode I p =
    map (λ n. bit (p.border n)) (up_to I.nodes)
    ++ ((each (up_to I.trains) λ i. each (up_to I.intervals) λ t.
    map (λ r. bit (runs (p.move i t) (eqb r))) (up_to (I.runs i))
    ++ (bit (is_gone (p.move i t)) ∷ map (λ s. bit (claims I p i t s)) (up_to I.segments)))
    ++ cap_values I p)
