-- The last element of a row: of a row that has grown, of its first n, of what is left of it, of what is made of it, and of those that pass a
-- test. Assumes nothing.
use mathlib.Core.Path.{◌≡◌, refl, sym, ap, ap₂, ◌∙◌, subst}
use mathlib.Core.Logic.{◌⊎◌, inl, inr}
use mathlib.Core.Bool.{Bool, true, false, not}
use Prim.Native.Nat.{ℕ, zero, suc, ◌-◌, ◌≤◌, ◌<◌}
use native.Mathlib.Omega.{arith}
use mathlib.Core.List.Memᴰ
use mathlib.Core.List.{List, [], ◌∷◌, ◌++◌, map, Memᴰ}
use lib.ListN.{length, get_or, take, drop}
use lib.Seq.{take-suc, take_all}
use lib.Dec.{T, T_not}
use Rattle.spec.specs.Lists.{one, last_or, pick, only}
use Rattle.laws.proofs.Tests.{true_of, decide}
use Rattle.laws.proofs.Picks.{pick-append}

module _ {ℓ} {A : Type ℓ} where
  pub last-append : (xs : List A) (z x : A) → last_or z (xs ++ one x) ≡ x
  unfolding last_or
  last-append [] z x = refl
  last-append (y ∷ xs) z x = last-append xs y x

  -- a row that is not empty is what stands before its last element, and this
  pub last-split : (z : A) (xs : List A) → 1 ≤ length xs → (front : List A) × (xs ≡ front ++ one (last_or z xs))
  unfolding last_or
  last-split z [] h = absurd (omega arith)
  last-split z (x ∷ []) h = ([], refl)
  last-split z (x ∷ y ∷ xs) h = let s = last-split x (y ∷ xs) (omega arith) in (x ∷ s.0, ap (◌∷◌ x) s.1)

  pub last-take : (xs : List A) (n : ℕ) (z d : A) → 1 ≤ n → n ≤ length xs → last_or z (take n xs) ≡ get_or xs (n - 1) d
  last-take xs n z d some fits =
      let e : n ≡ suc (n - 1) = omega arith in
      let l : n - 1 < length xs = omega arith in
      ap (λ (k : ℕ). last_or z (take k xs)) e
      ∙ ap (last_or z) (take-suc xs (n - 1) d l)
      ∙ last-append (take (n - 1) xs) z (get_or xs (n - 1) d)

  pub last-at : (xs : List A) (z d : A) → 1 ≤ length xs → last_or z xs ≡ get_or xs (length xs - 1) d
  last-at xs z d h = ap (last_or z) (sym (take_all (length xs) xs (omega arith))) ∙ last-take xs (length xs) z d h (omega arith)

  -- what stands for the last element of an empty row does not matter where there is one
  last-other : (y z : A) (xs : List A) → 1 ≤ length xs → last_or y xs ≡ last_or z xs
  unfolding last_or
  last-other y z [] h = absurd (omega arith)
  last-other y z (x ∷ xs) h = refl

  pub last-drop : (n : ℕ) (z : A) (xs : List A) → n < length xs → last_or z (drop n xs) ≡ last_or z xs
  unfolding last_or
  last-drop zero z xs h = refl
  last-drop (suc n) z [] h = absurd (omega arith)
  last-drop (suc n) z (x ∷ xs) h = last-drop n z xs (omega arith) ∙ last-other z x xs (omega arith)

pub last-map {ℓ κ} : {A : Type ℓ} {B : Type κ} (f : A → B) (z : A) (xs : List A) → last_or (f z) (map f xs) ≡ f (last_or z xs)
unfolding last_or
last-map f z [] = refl
last-map f z (x ∷ xs) = last-map f x xs

-- of numbers below a bound
pub last-below : (n z : ℕ) (xs : List ℕ) → z < n → ((x : ℕ) → Memᴰ x xs → x < n) → last_or z xs < n
unfolding last_or
last-below n z [] l h = l
last-below n z (x ∷ xs) l h = last-below n x xs (h x (Memᴰ.head refl)) (λ y m. h y (Memᴰ.tail m))

-- ---- the last of those that pass a test

module _ {ℓ} {A : Type ℓ} (f : A → Bool) where
  -- none passes in the row
  abbrev pub None : List A → Type ℓ
  None xs = (x : A) → Memᴰ x xs → T (f x) → ⊥

  none-cons : {x : A} {xs : List A} → T (not (f x)) → None xs → None (x ∷ xs)
  none-cons {x} h n y (Memᴰ.head e) t = T_not (f x) h (subst (λ (z : A). T (f z)) e t)
  none-cons h n y (Memᴰ.tail m) t = n y m t

  pick-none : (xs : List A) → None xs → pick f xs ≡ []
  unfolding pick only
  pick-none [] h = refl
  pick-none (x ∷ xs) h = go (f x) (h x (Memᴰ.head refl)) (pick-none xs (λ y m. h y (Memᴰ.tail m)))
    where
      go : (c : Bool) → (T c → ⊥) → pick f xs ≡ [] → only c (one x) ++ pick f xs ≡ []
      go true n e = absurd (n tt)
      go false n e = e

  -- it is the one that passes and has none behind it
  pub last-picked : (z : A) (before : List A) (c : A) (after : List A) → T (f c) → None after → last_or z (pick f (before ++ c ∷ after)) ≡ c
  unfolding pick only
  last-picked z before c after h none' =
      ap (last_or z) (pick-append f before (c ∷ after)
      ∙ ap₂ (λ (t : Bool) (ys : List A). pick f before ++ (only t (one c) ++ ys)) (true_of (f c) h) (pick-none after none'))
      ∙ last-append (pick f before) z c

  -- there is such a one where one passes
  pub picked-split : (xs : List A) → 1 ≤ length (pick f xs)
      → (before : List A) × (c : A) × (after : List A) × (xs ≡ before ++ c ∷ after) × T (f c) × None after
  picked-split xs h = elim (found xs) [ inl n ↦ (let e = ap length (pick-none xs n) in absurd (omega arith)) | inr s ↦ s ]
    where
      found : (xs : List A)
          → None xs ⊎ ((before : List A) × (c : A) × (after : List A) × (xs ≡ before ++ c ∷ after) × T (f c) × None after)
      found [] = inl (λ x m _. Memᴰ.not-nil m)
      found (x ∷ xs) = elim (found xs) [
        | inr s ↦ inr (x ∷ s.0, s.1, s.2, ap (◌∷◌ x) s.3, s.4, s.5)
        | inl n ↦ decide (f x) (λ h. inr ([], x, xs, refl, h, n)) (λ h. inl (none-cons h n))
      ]
