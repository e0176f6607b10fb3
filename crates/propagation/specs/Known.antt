-- What is known of the variables, as a slice of bytes holds it, and the trail of the variables that were set. Assumes nothing.
use Rattle.std.specs.Prelude.{◌≡◌, ◌⊎◌, not, ℕ, zero, suc, ◌≤◌, ◌<◌, List, [], ◌∷◌, length, get_or, drop, ℤ, pos, negsuc, eqb}
use Rattle.std.proofs.Math.Option.{Option, none, some}
use Rattle.spec.specs.Lists.{Bytes, pick}
use Rattle.spec.specs.Formula.{Literal, Clause}
use Rattle.spec.specs.Assignment.{Value, open', yes', no', truth}
use Rattle.spec.specs.Refutation.{Values, Hinted, proves, makes, useless}
use Rattle.propagation.specs.declared.hints.Value.{Value as Answer}
use Rattle.propagation.specs.declared.hints.Value.TheVariants.{Open, Yes, No}

-- a byte of the slice: 0 nothing is known, 1 the variable is true, any other that it is false
unfoldable pub value_in : ℕ → Value
value_in zero = open'
value_in (suc zero) = yes'
value_in (suc (suc n)) = no'

unfoldable pub values_in : Bytes → Values
values_in values v = value_in (get_or values v 0)

-- the answer that a truth value is
abbrev pub answered : Value → Answer
answered open' = Open
answered yes' = Yes
answered no' = No

-- the byte that makes a literal true
unfoldable pub true_byte : Literal → ℕ
true_byte (pos n) = 1
true_byte (negsuc n) = 2

-- the byte that makes it false
unfoldable pub false_byte : Literal → ℕ
false_byte (pos n) = 2
false_byte (negsuc n) = 1

-- how many variables have a value
unfoldable pub known : Bytes → ℕ
known values = length (pick (λ x. not (eqb x 0)) values)

-- The first `set` entries of the trail are the variables that have a value, each once.
pub record Trailed (values : Bytes) (trail : List ℕ) (set : ℕ) : Type 0 where
  pub counted : known values ≡ set
  pub room : length values ≤ length trail
  pub below : (j : ℕ) → j < set → get_or trail j 0 < length values
  pub on_trail : (v : ℕ) → v < length values → (get_or values v 0 ≡ 0) ⊎ ((j : ℕ) × (j < set) × (get_or trail j 0 ≡ v))

-- What is left on the trail where there are so many variables: the entries in front, no more than these, are variables, each below
-- their number; those behind are as they were. Which variables, and in what order, is free.
pub record LeftOnTrail (variables : ℕ) (trail trail' : List ℕ) : Type 0 where
  pub written : ℕ
  pub most : written ≤ variables
  pub in_front : (j : ℕ) → j < written → get_or trail' j 0 < variables
  pub behind : drop written trail' ≡ drop written trail

-- What a clause does, literal by literal, where one open literal was found or none: left at the first true literal or second
-- open one.
unfoldable pub scan : Values → Option Literal → Clause → Hinted
scan k none [] = proves
scan k (some u) [] = makes u
scan k o (l ∷ ls) = elim (truth k l) [
  | no' ↦ scan k o ls
  | yes' ↦ useless
  | open' ↦ elim o [ none ↦ scan k (some l) ls | some u ↦ useless ]
]

-- the open literal that was found; 0 stands for none
unfoldable pub found_in : ℤ → Option Literal
found_in (pos zero) = none
found_in (pos (suc v)) = some (pos (suc v))
found_in (negsuc v) = some (negsuc v)
