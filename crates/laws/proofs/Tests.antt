-- What a test means: each lemma turns a test into a statement and back. `meaning` is the set of them that `simp` is given.
-- Assumes nothing.
use mathlib.Core.Path.{◌≡◌, refl, sym, subst}
use mathlib.Core.Logic.{◌↔◌, ◌⊎◌, inl, inr}
use mathlib.Core.Bool.{Bool, true, false, not, ◌&&◌, ◌||◌}
use Prim.Native.Nat.{ℕ, zero, suc, ◌+◌, ◌-◌, ◌≤◌, ◌<◌}
use native.Mathlib.Omega.{arith}
use native.Mathlib.Nat.{lt_of_not-le}
use native.Mathlib.Decide.{dec_le}
use mathlib.Core.List.{List, [], ◌∷◌, Memᴰ}
use lib.ListN.{length, get_or}
use lib.Dec.{T, leb, ltb, eqb, leb→le, le→leb, ltb→lt, lt→ltb, eqb→eq, eqb_refl, T_not, not_T}
use Rattle.spec.specs.Lists.{all, any, up_to, range, count, same, empty}

-- ---- Bool

pub and-false : (t : Bool) → (t && false) ≡ false
and-false true = refl
and-false false = refl

pub and-iff : (a b : Bool) → T (a && b) ↔ (T a × T b)
and-iff true b = (λ h. (tt, h), λ h. h.1)
and-iff false b = (λ h. absurd h, λ h. h.0)

pub not_iff : (b : Bool) → T (not b) ↔ (T b → ⊥)
not_iff b = (T_not b, not_T b)

pub implies-iff : (a b : Bool) → T (not a || b) ↔ (T a → T b)
implies-iff true b = (λ h _. h, λ h. h tt)
implies-iff false b = (λ _ h. absurd h, λ _. tt)

pub or-iff : (a b : Bool) → T (a || b) ↔ (T a ⊎ T b)
or-iff true b = (λ _. inl tt, λ _. tt)
or-iff false b = (λ h. inr h, λ h. elim h [ inl x ↦ absurd x | inr x ↦ x ])

pub neither-iff : (a b : Bool) → T (not (a || b)) ↔ (T (not a) × T (not b))
neither-iff true b = (λ h. absurd h, λ h. h.0)
neither-iff false b = (λ h. (tt, h), λ h. h.1)

pub not-not-iff : (b : Bool) → T (not (not b)) ↔ T b
not-not-iff true = (λ h. h, λ h. h)
not-not-iff false = (λ h. h, λ h. h)

-- a test holds or not
pub decide {ℓ} : {X : Type ℓ} (b : Bool) → (T b → X) → (T (not b) → X) → X
decide true f g = f tt
decide false f g = g tt

-- a test that is known is a constructor
pub true_of : (b : Bool) → T b → b ≡ true
true_of true h = refl
true_of false h = absurd h

pub false_of : (b : Bool) → (T b → ⊥) → b ≡ false
false_of true h = absurd (h tt)
false_of false h = refl

pub denied-of : (b : Bool) → T (not b) → b ≡ false
denied-of b h = false_of b (T_not b h)

pub from-true : {b : Bool} → b ≡ true → T b
from-true e = subst T (sym e) tt

pub from_false : {b : Bool} → b ≡ false → T b → ⊥
from_false e h = subst T e h

pub from-denied : {b : Bool} → b ≡ false → T (not b)
from-denied {b} e = not_T b (from_false e)

-- two tests that imply each other are equal
pub bool-ext : (a b : Bool) → (T a → T b) → (T b → T a) → a ≡ b
bool-ext true true f g = refl
bool-ext true false f g = absurd (f tt)
bool-ext false true f g = absurd (g tt)
bool-ext false false f g = refl

-- ---- numbers

pub eqb-iff : (a b : ℕ) → T (eqb a b) ↔ (a ≡ b)
eqb-iff a b = (eqb→eq a b, λ e. subst (λ (x : ℕ). T (eqb a x)) e (eqb_refl a))

pub ltb_iff : (a b : ℕ) → T (ltb a b) ↔ (a < b)
ltb_iff a b = (ltb→lt a b, lt→ltb a b)

pub leb-iff : (a b : ℕ) → T (leb a b) ↔ (a ≤ b)
leb-iff a b = (leb→le a b, le→leb a b)

pub eqb-sym : (a b : ℕ) → eqb a b ≡ eqb b a
eqb-sym a b = bool-ext (eqb a b) (eqb b a) (λ h. (eqb-iff b a).1 (sym (eqb→eq a b h))) (λ h. (eqb-iff a b).1 (sym (eqb→eq b a h)))

-- one order or the other
pub le-or-lt : (a b : ℕ) → (a ≤ b) ⊎ (b < a)
le-or-lt a b = elim (dec_le a b) [ yes h ↦ inl h | no h ↦ inr (lt_of_not-le h) ]

-- ---- rows of anything

pub all-iff {ℓ} : {A : Type ℓ} (f : A → Bool) (xs : List A) → T (all f xs) ↔ ((x : A) → Memᴰ x xs → T (f x))
unfolding all
all-iff {A = A} f xs = (to xs, back xs)
  where
    to : (xs : List A) → T (all f xs) → (x : A) → Memᴰ x xs → T (f x)
    to [] h x m = elim m [ ]
    to (y ∷ ys) h x (Memᴰ.head e) = subst (λ (z : A). T (f z)) (sym e) ((and-iff (f y) (all f ys)).0 h).0
    to (y ∷ ys) h x (Memᴰ.tail m) = to ys ((and-iff (f y) (all f ys)).0 h).1 x m

    back : (xs : List A) → ((x : A) → Memᴰ x xs → T (f x)) → T (all f xs)
    back [] h = tt
    back (y ∷ ys) h = (and-iff (f y) (all f ys)).1 (h y (Memᴰ.head refl), back ys (λ x m. h x (Memᴰ.tail m)))

pub any-iff {ℓ} : {A : Type ℓ} (f : A → Bool) (xs : List A) → T (any f xs) ↔ ((x : A) × Memᴰ x xs × T (f x))
unfolding any
any-iff {A = A} f xs = (to xs, λ h. back xs h.0 h.1 h.2)
  where
    to : (xs : List A) → T (any f xs) → (x : A) × Memᴰ x xs × T (f x)
    to [] h = absurd h
    to (y ∷ ys) h =
        elim ((or-iff (f y) (any f ys)).0 h)
        [ inl a ↦ (y, Memᴰ.head refl, a) | inr b ↦ (let r = to ys b in (r.0, Memᴰ.tail r.1, r.2)) ]

    back : (xs : List A) (x : A) → Memᴰ x xs → T (f x) → T (any f xs)
    back [] x m h = elim m [ ]
    back (y ∷ ys) x (Memᴰ.head e) h = (or-iff (f y) (any f ys)).1 (inl (subst (λ (z : A). T (f z)) e h))
    back (y ∷ ys) x (Memᴰ.tail m) h = (or-iff (f y) (any f ys)).1 (inr (back ys x m h))

-- what stands at a number in a row is in the row
pub get_or-mem {ℓ} : {A : Type ℓ} (xs : List A) (i : ℕ) (d : A) → i < length xs → Memᴰ (get_or xs i d) xs
get_or-mem [] i d h = let no' : ⊥ = omega arith in absurd no'
get_or-mem (x ∷ xs) zero d h = Memᴰ.head refl
get_or-mem (x ∷ xs) (suc i) d h = Memᴰ.tail (get_or-mem xs i d (omega arith))

-- a test of the whole row holds of what stands at a number
pub all-at {ℓ} : {A : Type ℓ} (f : A → Bool) (xs : List A) (i : ℕ) (d : A) → T (all f xs) → i < length xs → T (f (get_or xs i d))
all-at f xs i d h l = (all-iff f xs).0 h (get_or xs i d) (get_or-mem xs i d l)

-- a row without elements
pub nil-of-length {ℓ} : {A : Type ℓ} (xs : List A) → length xs ≡ 0 → xs ≡ []
nil-of-length [] h = refl
nil-of-length (x ∷ xs) h = let no' : ⊥ = omega arith in absurd no'

-- a row is empty exactly where its length is 0
pub empty-length {ℓ} : {A : Type ℓ} (xs : List A) → empty xs ≡ eqb (length xs) 0
unfolding empty
empty-length [] = refl
empty-length (x ∷ xs) = sym (false_of (eqb (suc (length xs)) 0) (λ t. let e = (eqb-iff (suc (length xs)) 0).0 t in omega arith))

-- ---- rows of numbers

pub count-iff : (n a x : ℕ) → Memᴰ x (count a n) ↔ ((a ≤ x) × (x < a + n))
unfolding count
count-iff n a x = (to n a, λ h. back n a h.0 h.1)
  where
    to : (n a : ℕ) → Memᴰ x (count a n) → (a ≤ x) × (x < a + n)
    to zero a m = elim m [ ]
    to (suc n) a (Memᴰ.head e) = (omega arith, omega arith)
    to (suc n) a (Memᴰ.tail m) = let h = to n (suc a) m in (omega arith, omega arith)

    back : (n a : ℕ) → a ≤ x → x < a + n → Memᴰ x (count a n)
    back zero a h k = let no' : ⊥ = omega arith in absurd no'
    back (suc n) a h k =
        elim (dec_le (suc a) x)
        [ yes l ↦ Memᴰ.tail (back n (suc a) l (omega arith)) | no l ↦ (let e : x ≡ a = omega arith in Memᴰ.head e) ]

pub up_to-mem : (n x : ℕ) → Memᴰ x (up_to n) ↔ (x < n)
unfolding up_to
up_to-mem n x = (λ m. let h = (count-iff n 0 x).0 m in omega arith, λ h. (count-iff n 0 x).1 (omega arith, omega arith))

pub range-mem : (a z x : ℕ) → Memᴰ x (range a z) ↔ ((a ≤ x) × (x < z))
unfolding range
range-mem a z x =
    (λ m. let h = (count-iff (z - a) a x).0 m in (omega arith, omega arith), λ h. (count-iff (z - a) a x).1 (omega arith, omega arith))

pub all-up_to : (f : ℕ → Bool) (n : ℕ) → T (all f (up_to n)) ↔ ((i : ℕ) → i < n → T (f i))
all-up_to f n =
    (λ h i l. (all-iff f (up_to n)).0 h i ((up_to-mem n i).1 l), λ h. (all-iff f (up_to n)).1 (λ i m. h i ((up_to-mem n i).0 m)))

pub all-range : (f : ℕ → Bool) (a z : ℕ) → T (all f (range a z)) ↔ ((i : ℕ) → a ≤ i → i < z → T (f i))
all-range f a z = (
  λ h i l k. (all-iff f (range a z)).0 h i ((range-mem a z i).1 (l, k)),
  λ h. (all-iff f (range a z)).1 (λ i m. let r = (range-mem a z i).0 m in h i r.0 r.1),
)

pub any-up_to : (f : ℕ → Bool) (n : ℕ) → T (any f (up_to n)) ↔ ((i : ℕ) × (i < n) × T (f i))
any-up_to f n = (
  λ h. let r = (any-iff f (up_to n)).0 h in (r.0, (up_to-mem n r.0).0 r.1, r.2),
  λ h. (any-iff f (up_to n)).1 (h.0, (up_to-mem n h.0).1 h.1, h.2),
)

pub any-range : (f : ℕ → Bool) (a z : ℕ) → T (any f (range a z)) ↔ ((i : ℕ) × (a ≤ i) × (i < z) × T (f i))
any-range f a z = (
  λ h. let r = (any-iff f (range a z)).0 h in let k = (range-mem a z r.0).0 r.1 in (r.0, k.0, k.1, r.2),
  λ h. (any-iff f (range a z)).1 (h.0, (range-mem a z h.0).1 (h.1, h.2), h.3),
)

pub same-iff : (xs ys : List ℕ) → T (same xs ys) ↔ (xs ≡ ys)
unfolding same
same-iff xs ys = (to xs ys, λ e. subst (λ (zs : List ℕ). T (same xs zs)) e (self xs))
  where
    to : (xs ys : List ℕ) → T (same xs ys) → xs ≡ ys
    to [] [] h = refl
    to [] (y ∷ ys) h = absurd h
    to (x ∷ xs) [] h = absurd h
    to (x ∷ xs) (y ∷ ys) h =
        let p = (and-iff (eqb x y) (same xs ys)).0 h in
        λ i. eqb→eq x y p.0 i ∷ to xs ys p.1 i

    self : (xs : List ℕ) → T (same xs xs)
    self [] = tt
    self (x ∷ xs) = (and-iff (eqb x x) (same xs xs)).1 (eqb_refl x, self xs)

pub ruleset meaning = (and-iff, not_iff, implies-iff, eqb-iff, ltb_iff, leb-iff, all-up_to, all-range, any-up_to, any-range)
