-- What a chain of iterators answers, in the specification's words: whether a test holds of an element, the elements that pass one,
-- and the last of a row. Assumes nothing.
use Rattle.std.proofs.Common.{◌≡◌, ℕ, Bool, true, false, not, ◌||◌, ◌&&◌, List, [], ◌∷◌, ◌++◌, cond, get_or, refl, ap, ◌∙◌, map, Bor}
use Rattle.std.specs.List as std_list
use Rattle.std.specs.List.{list_any, filter, slice_get}
use Rattle.std.specs.declared.option.Option.{Option}
use Rattle.std.specs.declared.option.Option.TheVariants.{Some, None}
use Rattle.std.specs.Option.{option_map, option_copied, unwrap_or}
use Rattle.std.proofs.lemmas.Option.{unwrap_or-slice_get}
use Rattle.spec.specs.Lists.{any, all, pick, only, one, last_or}

module _ {A : Type 0} (f : A → Bool) where
  pub any-list : (xs : List A) → list_any f xs ≡ any f xs
  unfolding any
  any-list [] = refl
  any-list (x ∷ xs) = ap (λ (b : Bool). f x || b) (any-list xs)

  step : (b : Bool) (x : A) (xs ys : List A) → xs ≡ ys → cond b (x ∷ xs) xs ≡ only b (one x) ++ ys
  unfolding only
  step true x xs ys e = ap (λ (l : List A). x ∷ l) e
  step false x xs ys e = e

  pub filter-pick : (xs : List A) → filter f xs ≡ pick f xs
  unfolding pick
  filter-pick [] = refl
  filter-pick (x ∷ xs) = step (f x) x (filter f xs) (pick f xs) (filter-pick xs)

module _ {A : Type 0} (d : A) where
  -- what `nth(n).copied()` gives, or d
  pub nth-or : (r : Option (Bor A)) {o : Option A} (xs : List A) (n : ℕ) → o ≡ option_copied r → option_map (λ y. y.now) r ≡ slice_get xs n
      → unwrap_or o d ≡ get_or xs n d
  nth-or r xs n c e = ap (λ (o : Option A). unwrap_or o d) (c ∙ e) ∙ unwrap_or-slice_get xs n d

  -- what `last().copied()` gives, or d
  last-after : (o : Option (Bor A)) (xs : List (Bor A))
      → unwrap_or (option_copied (std_list.last_or o xs)) d ≡ last_or (unwrap_or (option_copied o) d) (map (λ y. y.now) xs)
  unfolding last_or
  last-after o [] = refl
  last-after o (x ∷ xs) = last-after (Some x) xs

  pub last-copied : {r : Option (Bor A)} {o : Option A} {ys : List A} (xs : List (Bor A))
      → o ≡ option_copied r → r ≡ std_list.last_or None xs → map (λ y. y.now) xs ≡ ys → unwrap_or o d ≡ last_or d ys
  last-copied xs c e m =
      ap (λ (o : Option A). unwrap_or o d) (c ∙ ap option_copied e) ∙ last-after None xs ∙ ap (last_or d) m

-- none passes a test: each fails it
pub none-all {ℓ} : {A : Type ℓ} (f : A → Bool) (xs : List A) → not (any f xs) ≡ all (λ x. not (f x)) xs
unfolding any all
none-all f [] = refl
none-all f (x ∷ xs) = not-or (f x) (any f xs) ∙ ap (λ (b : Bool). not (f x) && b) (none-all f xs)
  where
    not-or : (a b : Bool) → not (a || b) ≡ (not a && not b)
    not-or true b = refl
    not-or false b = refl
