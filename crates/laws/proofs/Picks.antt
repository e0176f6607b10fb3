-- The elements of a row that pass a test: which they are, how many, and what is made of them. Assumes nothing.
use mathlib.Core.Path.{◌≡◌, refl, sym, ap, ap₂, ◌∙◌, subst}
use mathlib.Core.Logic.{◌↔◌}
use mathlib.Core.Bool.{Bool, true, false}
use Prim.Native.Nat.{ℕ, suc, ◌+◌, ◌≤◌, ◌<◌}
use native.Mathlib.Omega.{arith}
use native.Mathlib.Numerals.{add-one}
use mathlib.Core.List.Memᴰ
use mathlib.Core.List.{List, [], ◌∷◌, ◌++◌, map, append_assoc, append-nil, Memᴰ}
use lib.ListN.{length, get_or, length-map, length-append}
use lib.Seq.{take_all}
use lib.Dec.{T}
use Rattle.spec.specs.Lists.{one, only, pick, each, all, up_to, range}
use Rattle.laws.proofs.Tests.{all-iff, true_of}
use Rattle.laws.proofs.Parts.{up_to-suc, up_to-split, singles}

pub pick-map {ℓ κ} : {A : Type ℓ} {B : Type κ} (f : A → Bool) (g : B → A) (xs : List B) → pick f (map g xs) ≡ map g (pick (λ x. f (g x)) xs)
unfolding pick only
pick-map f g [] = refl
pick-map {A = A} f g (x ∷ xs) = first (f (g x)) (pick-map f g xs)
  where
    first : (c : Bool) → pick f (map g xs) ≡ map g (pick (λ x. f (g x)) xs)
        → only c (one (g x)) ++ pick f (map g xs) ≡ map g (only c (one x) ++ pick (λ x. f (g x)) xs)
    first true e = ap (λ (l : List A). g x ∷ l) e
    first false e = e

module _ {ℓ} {A : Type ℓ} (f : A → Bool) where
  pub pick-append : (xs ys : List A) → pick f (xs ++ ys) ≡ pick f xs ++ pick f ys
  unfolding pick
  pick-append [] ys = refl
  pick-append (x ∷ xs) ys = rw (pick-append xs ys) (sym (append_assoc (only (f x) (one x)) (pick f xs) (pick f ys)))

  pub pick-most : (xs : List A) → length (pick f xs) ≤ length xs
  unfolding pick only
  pick-most [] = omega arith
  pick-most (x ∷ xs) = more (f x) (pick-most xs)
    where
      more : (b : Bool) → length (pick f xs) ≤ length xs → length (only b (one x) ++ pick f xs) ≤ suc (length xs)
      more true h = omega arith
      more false h = omega arith

  -- those of the row that pass, and no others
  pub mem-pick : (x : A) (xs : List A) → Memᴰ x (pick f xs) ↔ (Memᴰ x xs × T (f x))
  unfolding pick only
  mem-pick x xs = (to xs, λ h. back xs h.0 h.1)
    where
      first : (y : A) (ys : List A) (c : Bool) → f y ≡ c → Memᴰ x (only c (one y) ++ pick f ys)
          → (Memᴰ x (pick f ys) → Memᴰ x ys × T (f x)) → Memᴰ x (y ∷ ys) × T (f x)
      first y ys true e (Memᴰ.head q) rest = (Memᴰ.head q, subst (λ (z : A). T (f z)) (sym q) (subst T (sym e) tt))
      first y ys true e (Memᴰ.tail m) rest = let r = rest m in (Memᴰ.tail r.0, r.1)
      first y ys false e m rest = let r = rest m in (Memᴰ.tail r.0, r.1)

      to : (xs : List A) → Memᴰ x (pick f xs) → Memᴰ x xs × T (f x)
      to [] m = absurd (Memᴰ.not-nil m)
      to (y ∷ ys) m = first y ys (f y) refl m (to ys)

      taken : (c : Bool) (y : A) (ys : List A) → x ≡ y → T c → Memᴰ x (only c (one y) ++ ys)
      taken true y ys q h = Memᴰ.head q
      taken false y ys q h = absurd h

      later : (c : Bool) (y : A) (ys : List A) → Memᴰ x ys → Memᴰ x (only c (one y) ++ ys)
      later true y ys m = Memᴰ.tail m
      later false y ys m = m

      back : (xs : List A) → Memᴰ x xs → T (f x) → Memᴰ x (pick f xs)
      back [] m h = elim m [ ]
      back (y ∷ ys) (Memᴰ.head q) h = taken (f y) y (pick f ys) q (subst (λ (z : A). T (f z)) q h)
      back (y ∷ ys) (Memᴰ.tail m) h = later (f y) y (pick f ys) (back ys m h)

  -- a test that holds of the row holds of what is picked
  pub all-pick : (g : A → Bool) (xs : List A) → T (all g xs) → T (all g (pick f xs))
  all-pick g xs h = (all-iff g (pick f xs)).1 λ x m. (all-iff g xs).0 h x ((mem-pick x xs).0 m).0

  -- the rows of those that pass
  pub each-pick {κ} : {B : Type κ} (g : A → List B) (xs : List A) → each (pick f xs) g ≡ each xs (λ x. only (f x) (g x))
  unfolding each pick only
  each-pick g [] = refl
  each-pick {B = B} g (x ∷ xs) = first (f x) ∙ ap (λ (l : List B). only (f x) (g x) ++ l) (each-pick g xs)
    where
      first : (b : Bool) → each (only b (one x) ++ pick f xs) g ≡ only b (g x) ++ each (pick f xs) g
      first true = refl
      first false = refl

-- tests that agree on a row pick the same
pub pick_same {ℓ} : {A : Type ℓ} (f g : A → Bool) (xs : List A) → ((x : A) → Memᴰ x xs → f x ≡ g x) → pick f xs ≡ pick g xs
unfolding pick
pick_same f g [] h = refl
pick_same {A = A} f g (x ∷ xs) h =
    ap₂ (λ (c : Bool) (l : List A). only c (one x) ++ l) (h x (Memᴰ.head refl)) (pick_same f g xs (λ y m. h y (Memᴰ.tail m)))

-- fewer pass a stricter test
pub pick-fewer {ℓ} : {A : Type ℓ} (f g : A → Bool) (xs : List A) → ((x : A) → T (f x) → T (g x)) → length (pick f xs) ≤ length (pick g xs)
unfolding pick only
pick-fewer f g [] h = omega arith
pick-fewer {A = A} f g (x ∷ xs) h = first (f x) (g x) (h x) (pick-fewer f g xs h)
  where
    first : (c e : Bool) → (T c → T e) → length (pick f xs) ≤ length (pick g xs)
        → length (only c (one x) ++ pick f xs) ≤ length (only e (one x) ++ pick g xs)
    first true true k l = omega arith
    first true false k l = absurd (k tt)
    first false true k l = omega arith
    first false false k l = l

-- as many numbers as elements pass, where a number is asked for its element
pub pick-numbers {ℓ} : {A : Type ℓ} (f : A → Bool) (d : A) (xs : List A)
    → length (pick (λ n. f (get_or xs n d)) (up_to (length xs))) ≡ length (pick f xs)
pick-numbers f d xs =
    sym (length-map (pick (λ n. f (get_or xs n d)) (up_to (length xs))) (λ n. get_or xs n d))
    ∙ ap length (sym (pick-map f (λ n. get_or xs n d) (up_to (length xs))))
    ∙ ap (λ ys. length (pick f ys)) (singles xs d (length xs) (omega arith) ∙ take_all (length xs) xs (omega arith))

-- the numbers below e + 1 that pass: those below e, and e if it passes
module _ (f : ℕ → Bool) (e : ℕ) where
  pick_next : pick f (up_to (e + 1)) ≡ pick f (up_to e) ++ only (f e) (one e)
  unfolding pick
  pick_next =
      ap (λ (n : ℕ). pick f (up_to n)) (add-one e)
      ∙ ap (pick f) (up_to-suc e)
      ∙ pick-append f (up_to e) (one e)
      ∙ ap (λ (l : List ℕ). pick f (up_to e) ++ l) (append-nil (only (f e) (one e)))

  pub pick-taken : f e ≡ true → pick f (up_to (e + 1)) ≡ pick f (up_to e) ++ one e
  unfolding only
  pick-taken h = pick_next ∙ ap (λ (b : Bool). pick f (up_to e) ++ only b (one e)) h

  pub pick-left : f e ≡ false → pick f (up_to (e + 1)) ≡ pick f (up_to e)
  unfolding only
  pick-left h = pick_next ∙ ap (λ (b : Bool). pick f (up_to e) ++ only b (one e)) h ∙ append-nil (pick f (up_to e))

-- where a number passes, one more passes than before it
pub pick-room : (f : ℕ → Bool) (n i : ℕ) → i < n → T (f i) → length (pick f (up_to i)) + 1 ≤ length (pick f (up_to n))
unfolding pick only
pick-room f n i l t =
    let cut = ap length (ap (pick f) (up_to-split n i l) ∙ pick-append f (up_to i) (i ∷ range (suc i) n))
    ∙ length-append (pick f (up_to i)) (only (f i) (one i) ++ pick f (range (suc i) n)) in
    let here = ap (λ (c : Bool). length (only c (one i) ++ pick f (range (suc i) n))) (true_of (f i) t) in
    omega (arith, cut, here)
