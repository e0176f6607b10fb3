-- What the contracts of iterators and of `==` on slices say, in the words of the specification: tests of lists, the least number that
-- passes a test, numbers in a row, and a part of a table. Assumes nothing.
use Rattle.std.proofs.Common.{◌≡◌, ℕ, zero, suc, ◌+◌, List, [], ◌∷◌, ◌++◌, Bool, true, false, ◌&&◌, ◌||◌, ◌==◌, cond, refl, ap, ap₂, ◌∙◌, arith, add-one, ◌<◌, length, get_or, take, slice_range, Option, Some, None, unwrap_or}
use lib.ListN.{length-take}
use lib.Seq.{get_or-take}
use Rattle.std.proofs.lemmas.Slice.{between_is}
use Rattle.std.specs.List.{list_any, list_all, filter, find, range_with_len}
use Rattle.std.specs.Option.{option_map}
use Rattle.std.specs.Str.{bytes_eq}
use Rattle.spec.specs.Lists.{any, all, pick, only, one, same, count, up_to, least_from}
use Rattle.listing.specs.Listed.{place_at}

pub any-scan : {A : Type 0} (f : A → Bool) (xs : List A) → list_any f xs ≡ any f xs
unfolding any
any-scan f [] = refl
any-scan f (x ∷ xs) = ap (λ (t : Bool). f x || t) (any-scan f xs)

pub all-scan : {A : Type 0} (f : A → Bool) (xs : List A) → list_all f xs ≡ all f xs
unfolding all
all-scan f [] = refl
all-scan f (x ∷ xs) = ap (λ (t : Bool). f x && t) (all-scan f xs)

pub pick-scan : {A : Type 0} (f : A → Bool) (xs : List A) → filter f xs ≡ pick f xs
unfolding pick only
pick-scan f [] = refl
pick-scan {A = A} f (x ∷ xs) = go (f x) (pick-scan f xs)
  where
    go : (t : Bool) → filter f xs ≡ pick f xs → cond t (x ∷ filter f xs) (filter f xs) ≡ only t (one x) ++ pick f xs
    go true e = ap (λ (ys : List A). x ∷ ys) e
    go false e = e

pub same-scan : (xs ys : List ℕ) → bytes_eq xs ys ≡ same xs ys
unfolding same
same-scan [] [] = refl
same-scan [] (y ∷ ys) = refl
same-scan (x ∷ xs) [] = refl
same-scan (x ∷ xs) (y ∷ ys) = ap (λ (t : Bool). (x == y) && t) (same-scan xs ys)

-- ---- numbers in a row

pub count-scan : (a n : ℕ) → range_with_len a n ≡ count a n
unfolding count
count-scan a zero = refl
count-scan a (suc n) = ap (λ (xs : List ℕ). a ∷ xs) (ap (λ (k : ℕ). range_with_len k n) (add-one a) ∙ count-scan (suc a) n)

pub all-numbers : (f : ℕ → Bool) (n : ℕ) → list_all f (range_with_len 0 n) ≡ all f (up_to n)
unfolding up_to
all-numbers f n = all-scan f (range_with_len 0 n) ∙ ap (all f) (count-scan 0 n)

-- the first that passes, or the one behind the last
pub least-scan : (f : ℕ → Bool) (a n end : ℕ) (o : Option ℕ) → end ≡ a + n → option_map (λ x. x) o ≡ find f (range_with_len a n)
    → unwrap_or o end ≡ least_from f a n
unfolding count least_from
least-scan f a n end o last e =
    ap₂ (unwrap_or {T = ℕ}) (whole o ∙ e ∙ ap (find f) (count-scan a n)) last ∙ found a n
  where
    whole : (p : Option ℕ) → p ≡ option_map (λ x. x) p
    whole None = refl
    whole (Some x) = refl

    found : (a n : ℕ) → unwrap_or (find f (count a n)) (a + n) ≡ least_from f a n
    found a zero = omega arith
    found a (suc n) = go (f a) (let e : a + suc n ≡ suc a + n = omega arith in ap (unwrap_or (find f (count (suc a) n))) e ∙ found (suc a) n)
      where
        go : (t : Bool) → unwrap_or (find f (count (suc a) n)) (a + suc n) ≡ least_from f (suc a) n
            → unwrap_or (cond t (Some a) (find f (count (suc a) n))) (a + suc n) ≡ elim t [ true ↦ a | false ↦ least_from f (suc a) n ]
        go true h = refl
        go false h = h

-- ---- a part of a table

pub place-lent : (table : List ℕ) (at l : ℕ) → slice_range table at (at + l) ≡ place_at table at l
unfolding place_at
place-lent table at l = between_is table at (at + l)

-- one of the first n elements of a list
pub taken : {A : Type 0} (n : ℕ) (xs : List A) (i : ℕ) (d : A) → i < length (take n xs) → (i < n) × (get_or (take n xs) i d ≡ get_or xs i d)
taken n xs i d h = let l : i < n = omega (arith, length-take n xs) in (l, get_or-take n xs i d l)
