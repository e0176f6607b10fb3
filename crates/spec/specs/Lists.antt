-- The words that the specification is written with: lists over ranges, tests over lists, and the first fault of a table.
-- Assumes nothing.
use Rattle.std.specs.Prelude.{Bool, true, false, not, ◌&&◌, ◌||◌, ℕ, zero, suc, ◌+◌, ◌-◌, List, [], ◌∷◌, ◌++◌, ltb, eqb}
use Rattle.std.proofs.Math.Option.{Option, none, some}

-- a file or a lent slice of bytes, as the list of its numbers
abbrev pub Bytes : Type 0
Bytes = List ℕ

-- n numbers from a on
unfoldable pub count : ℕ → ℕ → List ℕ
count a zero = []
count a (suc n) = a ∷ count (suc a) n

-- 0 to n - 1
unfoldable pub up_to : ℕ → List ℕ
up_to n = count 0 n

-- a to z - 1
unfoldable pub range : ℕ → ℕ → List ℕ
range a z = count a (z - a)

-- the lists of each element, one behind the other
unfoldable pub each {ℓ κ} : {A : Type ℓ} {B : Type κ} → List A → (A → List B) → List B
each [] f = []
each (x ∷ xs) f = f x ++ each xs f

-- a list where the test holds, else nothing
unfoldable pub only {ℓ} : {A : Type ℓ} → Bool → List A → List A
only true xs = xs
only false xs = []

-- the list of one element
abbrev pub one {ℓ} : {A : Type ℓ} → A → List A
one x = x ∷ []

unfoldable pub all {ℓ} : {A : Type ℓ} → (A → Bool) → List A → Bool
all f [] = true
all f (x ∷ xs) = f x && all f xs

-- every number of the list is a byte
abbrev pub bytes : Bytes → Bool
bytes xs = all (λ x. ltb x 256) xs

unfoldable pub any {ℓ} : {A : Type ℓ} → (A → Bool) → List A → Bool
any f [] = false
any f (x ∷ xs) = f x || any f xs

-- the elements that pass a test
unfoldable pub pick {ℓ} : {A : Type ℓ} → (A → Bool) → List A → List A
pick f [] = []
pick f (x ∷ xs) = only (f x) (one x) ++ pick f xs

unfoldable pub empty {ℓ} : {A : Type ℓ} → List A → Bool
empty [] = true
empty (x ∷ xs) = false

-- the last element, or d
unfoldable pub last_or {ℓ} : {A : Type ℓ} → A → List A → A
last_or d [] = d
last_or d (x ∷ xs) = last_or x xs

-- two lists of numbers are the same
unfoldable pub same : List ℕ → List ℕ → Bool
same [] [] = true
same [] (y ∷ ys) = false
same (x ∷ xs) [] = false
same (x ∷ xs) (y ∷ ys) = eqb x y && same xs ys

unfoldable pub has : ℕ → List ℕ → Bool
has n xs = any (eqb n) xs

-- no number stands twice
unfoldable pub different : List ℕ → Bool
different [] = true
different (x ∷ xs) = all (λ y. not (eqb x y)) xs && different xs

-- the least of n numbers from a on that passes a test, or a + n
unfoldable pub least_from : (ℕ → Bool) → ℕ → ℕ → ℕ
least_from f a zero = a
least_from f a (suc n) = elim (f a) [ true ↦ a | false ↦ least_from f (suc a) n ]

-- f 0 + … + f (n - 1)
unfoldable pub sum_to : (ℕ → ℕ) → ℕ → ℕ
sum_to f zero = 0
sum_to f (suc n) = sum_to f n + f n

-- One line of a table of refusals: the number, and whether its condition holds.
pub record Fault : Type 0 where
  pub number : ℕ
  pub holds : Bool

infix 70 ◌when◌
abbrev pub ◌when◌ : ℕ → Bool → Fault
n when b = record { number = n; holds = b }

-- the number of the first line whose condition holds
unfoldable pub first_fault : List Fault → Option ℕ
first_fault [] = none
first_fault (f ∷ fs) = elim f.holds [ true ↦ some f.number | false ↦ first_fault fs ]

-- the line's condition does not hold
unfoldable pub passes : Fault → Bool
passes f = not f.holds

unfoldable pub faultless : List Fault → Bool
faultless fs = all passes fs

-- the number that was found, or 0
unfoldable pub or_zero : Option ℕ → ℕ
or_zero none = 0
or_zero (some n) = n

-- What a check gives: its result, or a refusal's number and detail.
pub data Verdict (A : Type 0) : Type 0 where
  accepted : A → Verdict A
  refused : ℕ → ℕ → Verdict A

-- the next check, where this one has accepted
unfoldable pub and_then : {A B : Type 0} → Verdict A → (A → Verdict B) → Verdict B
and_then (accepted a) f = f a
and_then (refused n d) f = refused n d
