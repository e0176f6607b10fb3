-- Loops over a row of an array: tests over `slice i n xs`, the elements from i up to n, one element at a time; the test of one
-- element of a row that passes; and the length of an array of structs, from what is known of it. Assumes nothing.
use mathlib.Core.Path.{◌≡◌, sym, ap, ◌∙◌}
use mathlib.Core.Bool.{Bool, false, ◌||◌}
use Prim.Native.Nat.{ℕ, ◌+◌, ◌≤◌, ◌<◌}
use native.Mathlib.Numerals.{add-one}
use native.Mathlib.Omega.{arith}
use mathlib.Core.List.{List, [], ◌∷◌, map}
use lib.ListN.{length, get_or, take, length-map, length-take, drop_of_length-le}
use lib.Seq.{slice, slice-cons, get_or-take}
use lib.Dec.{T}
use Rattle.spec.specs.Lists.{any, all}
use Rattle.laws.proofs.Tests.{all-at}

-- for `search (needs, length-of-map)`: an array of structs is as long as the list of its elements' values
pub length-of-map {ℓ κ} : {A : Type ℓ} {B : Type κ} (f : A → B) (xs : List A) (n : ℕ) → length (map f xs) ≡ n → length xs ≡ n
length-of-map f xs n e = sym (length-map xs f) ∙ e

module _ {ℓ} {A : Type ℓ} (xs : List A) (n i : ℕ) (d : A) (l : i < n) (fits : n ≤ length xs) where
  -- the element at i, and the others
  pub slice-next : slice i n xs ≡ get_or xs i d ∷ slice (i + 1) n xs
  slice-next = rw add-one (slice-cons i n xs d l fits)

  pub any_next : (f : A → Bool) → any f (slice i n xs) ≡ (f (get_or xs i d) || any f (slice (i + 1) n xs))
  unfolding any
  any_next f = ap (any f) slice-next

-- nothing is left at the end
module _ {ℓ} {A : Type ℓ} (xs : List A) (n i : ℕ) (l : n ≤ i) where
  pub slice-end : slice i n xs ≡ []
  slice-end = let s : length (take n xs) ≤ i = rw length-take (omega arith) in drop_of_length-le (take n xs) s

  pub any-end : (f : A → Bool) → any f (slice i n xs) ≡ false
  unfolding any
  any-end f = ap (any f) slice-end

-- a row that passes, passes at each place
module _ {ℓ} {A : Type ℓ} (f : A → Bool) where
  pub all-take-at : (xs : List A) (n i : ℕ) (d : A) → i < n → n ≤ length xs → T (all f (take n xs)) → T (f (get_or xs i d))
  all-take-at xs n i d l fits h =
      let room : i < length (take n xs) = rw length-take (omega arith) in
      rw (get_or-take n xs i d l) at (all-at f (take n xs) i d h room)
