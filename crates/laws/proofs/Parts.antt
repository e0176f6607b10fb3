-- Rows behind rows: where the row of one element stands among the rows of all, and what is read there. `Part xs n ys` says
-- that ys stands in xs from place n on. Assumes nothing.
use mathlib.Core.Path.{◌≡◌, refl, sym, ap, ap₂, ◌∙◌}
use Prim.Native.Nat.{ℕ, zero, suc, ◌+◌, ◌*◌, ◌-◌, ◌≤◌, ◌<◌}
use native.Mathlib.Nat.{add-zero, zero-add, add-suc, suc-add, suc-mul, zero-mul}
use native.Mathlib.Omega.{arith}
use mathlib.Core.List.{List, [], ◌∷◌, ◌++◌, map, append_assoc, append-nil, map-append, Memᴰ}
use lib.ListN.{length, get_or, take, drop, length-append, length-map, get_or-append}
use lib.Seq.{get_or-append-add, get_or_at, take_at, drop_at, take-add, take-suc, drop-drop}
use Rattle.laws.proofs.Tests.{up_to-mem}
use native.Mathlib.Numerals.{add-one}
use Rattle.spec.specs.Lists.{Bytes, count, up_to, range, each, one, sum_to}
use Rattle.spec.specs.Numbers.{field, number}

-- ---- ranges

count-split : (a i m : ℕ) → count a (i + suc m) ≡ count a i ++ ((a + i) ∷ count (suc (a + i)) m)
unfolding count
count-split a zero m = simp (zero-add, add-zero)
count-split a (suc i) m = simp suc-add (ap (λ (l : List ℕ). a ∷ l) (count-split (suc a) i m ∙ simp (suc-add, add-suc)))

pub up_to-split : (n i : ℕ) → i < n → up_to n ≡ up_to i ++ (i ∷ range (suc i) n)
unfolding up_to range
up_to-split n i h =
    let e : n ≡ i + suc (n - suc i) = omega arith in
    ap (count 0) e ∙ count-split 0 i (n - suc i) ∙ simp zero-add

pub up_to-suc : (n : ℕ) → up_to (suc n) ≡ up_to n ++ one n
unfolding up_to count
up_to-suc n = ap (count 0) (sym (add-one n)) ∙ count-split 0 n 0 ∙ simp zero-add

pub length-count : (a n : ℕ) → length (count a n) ≡ n
unfolding count
length-count a zero = refl
length-count a (suc n) = ap suc (length-count (suc a) n)

pub length-up_to : (n : ℕ) → length (up_to n) ≡ n
unfolding up_to
length-up_to n = length-count 0 n

-- ---- rows

pub each_append {ℓ κ} : {A : Type ℓ} {B : Type κ} (xs ys : List A) (f : A → List B) → each (xs ++ ys) f ≡ each xs f ++ each ys f
unfolding each
each_append [] ys f = refl
each_append {B = B} (x ∷ xs) ys f =
    ap (λ (l : List B). f x ++ l) (each_append xs ys f) ∙ sym (append_assoc (f x) (each xs f) (each ys f))

pub each_map {ℓ κ μ} : {A : Type ℓ} {B : Type κ} {C : Type μ} (xs : List A) (f : A → B) (g : B → List C)
    → each (map f xs) g ≡ each xs (λ x. g (f x))
unfolding each
each_map [] f g = refl
each_map {C = C} (x ∷ xs) f g = ap (λ (l : List C). g (f x) ++ l) (each_map xs f g)

-- rows of one length
pub length-rows {ℓ κ} : {A : Type ℓ} {B : Type κ} (f : A → List B) (w : ℕ) → ((x : A) → length (f x) ≡ w) → (xs : List A)
    → length (each xs f) ≡ length xs * w
unfolding each
length-rows f w h [] = sym (zero-mul w)
length-rows f w h (x ∷ xs) =
    length-append (f x) (each xs f) ∙ ap₂ ◌+◌ (h x) (length-rows f w h xs) ∙ omega (arith, suc-mul (length xs) w)

-- rows behind rows of one length, and behind one element
pub front_same {ℓ} : {A : Type ℓ} (a b : List A) {c d : List A} → length a ≡ length b → a ++ c ≡ b ++ d → (a ≡ b) × (c ≡ d)
front_same a b {c} {d} l e = (
  sym (take_at a c (length b) l) ∙ ap (take (length b)) e ∙ take_at b d (length b) refl,
  sym (drop_at a c (length b) l) ∙ ap (drop (length b)) e ∙ drop_at b d (length b) refl,
)

pub head-same : {x y : ℕ} {xs ys : Bytes} → x ∷ xs ≡ y ∷ ys → (x ≡ y) × (xs ≡ ys)
head-same e = (cc, cc)

-- ---- where a row stands

module _ {ℓ} {A : Type ℓ} where
  -- ys stands in xs from place n on
  pub record Part (xs : List A) (n : ℕ) (ys : List A) : Type ℓ where
    pub front : List A
    pub rest : List A
    pub whole : xs ≡ front ++ (ys ++ rest)
    pub place : length front ≡ n

  pub part-here : (ys rest : List A) → Part (ys ++ rest) 0 ys
  part-here ys rest = record { front = []; rest = rest; whole = refl; place = refl }

  pub part-behind : (front ys : List A) → Part (front ++ ys) (length front) ys
  part-behind front ys = record { front = front; rest = []; whole = ap (λ (l : List A). front ++ l) (sym (append-nil ys)); place = refl }

  pub part_in : {xs ys zs : List A} {n m : ℕ} → Part xs n ys → Part ys m zs → Part xs (n + m) zs
  part_in {xs} {ys} {zs} p q = record {
    front = p.front ++ q.front;
    rest = q.rest ++ p.rest;
    whole = p.whole ∙ ap (λ (l : List A). p.front ++ (l ++ p.rest)) q.whole ∙ simp append_assoc;
    place = length-append p.front q.front ∙ ap₂ ◌+◌ p.place q.place;
  }

  -- an element of the part
  pub part_at : {xs ys : List A} {n : ℕ} → Part xs n ys → (j : ℕ) (d : A) → j < length ys → get_or xs (n + j) d ≡ get_or ys j d
  part_at {xs} {ys} p j d h =
      rw (p.whole, ← p.place) (get_or-append-add p.front (ys ++ p.rest) j d ∙ get_or-append ys p.rest d j h)

  -- the place under another name
  pub part_placed : {xs ys : List A} {n m : ℕ} → Part xs n ys → n ≡ m → Part xs m ys
  part_placed p e = record { front = p.front; rest = p.rest; whole = p.whole; place = p.place ∙ e }

  -- the part itself
  pub part-taken : {xs ys : List A} {n : ℕ} → Part xs n ys → take (length ys) (drop n xs) ≡ ys
  part-taken {xs} {ys} {n} p =
      ap (take (length ys)) (ap (drop n) p.whole ∙ drop_at p.front (ys ++ p.rest) n p.place) ∙ take_at ys p.rest (length ys) refl

  -- parts of one length at one place of the same list are the same
  pub parts_same : {xs zs ys ws : List A} {n : ℕ} → Part xs n ys → Part zs n ws → length ys ≡ length ws → xs ≡ zs → ys ≡ ws
  parts_same {n = n} p q l e = sym (part-taken p) ∙ ap₂ (λ (k : ℕ) (s : List A). take k (drop n s)) l e ∙ part-taken q

module _ {ℓ} {B : Type ℓ} (f : ℕ → List B) (w : ℕ → ℕ) (sized : (i : ℕ) → length (f i) ≡ w i) where
  -- rows of these lengths have this length together
  pub length-each : (n : ℕ) → length (each (up_to n) f) ≡ sum_to w n
  unfolding sum_to up_to count each
  length-each zero = refl
  length-each (suc n) =
      ap length (ap (λ (l : List ℕ). each l f) (up_to-suc n) ∙ each_append (up_to n) (one n) f)
      ∙ length-append (each (up_to n) f) (f n ++ [])
      ∙ ap₂ ◌+◌ (length-each n) (ap length (append-nil (f n)) ∙ sized n)

  -- the row of an element stands behind the rows before it
  pub part-each : (n i : ℕ) → i < n → Part (each (up_to n) f) (sum_to w i) (f i)
  unfolding each
  part-each n i h = record {
    front = each (up_to i) f;
    rest = each (range (suc i) n) f;
    whole = ap (λ (l : List ℕ). each l f) (up_to-split n i h) ∙ each_append (up_to i) (i ∷ range (suc i) n) f;
    place = length-each i;
  }

-- sums, term by term
pub sum-add : (f g : ℕ → ℕ) (n : ℕ) → sum_to (λ i. f i + g i) n ≡ sum_to f n + sum_to g n
unfolding sum_to
sum-add f g zero = refl
sum-add f g (suc n) = omega (arith, sum-add f g n)

-- a sum of equal terms, as far as they are equal
pub sum_below : (w : ℕ → ℕ) (k n : ℕ) → ((i : ℕ) → i < n → w i ≡ k) → sum_to w n ≡ n * k
unfolding sum_to
sum_below w k zero h = sym (zero-mul k)
sum_below w k (suc n) h = ap₂ ◌+◌ (sum_below w k n (λ i l. h i (omega arith))) (h n (omega arith)) ∙ sym (suc-mul n k)

pub sum-constant : (w n : ℕ) → sum_to (λ _. w) n ≡ n * w
unfolding sum_to
sum-constant w zero = sym (zero-mul w)
sum-constant w (suc n) = ap (λ (k : ℕ). k + w) (sum-constant w n) ∙ sym (suc-mul n w)

-- an element of a row of values
pub map_at {ℓ} : {B : Type ℓ} (f : ℕ → B) (n i : ℕ) (d : B) → i < n → get_or (map f (up_to n)) i d ≡ f i
map_at f n i d h = rw (up_to-split n i h) (get_or-map-mid (up_to i) (length-up_to i))
  where
    get_or-map-mid : (xs : List ℕ) → length xs ≡ i → get_or (map f (xs ++ (i ∷ range (suc i) n))) i d ≡ f i
    get_or-map-mid xs e =
        rw (map-append f xs (i ∷ range (suc i) n)) (get_or_at (map f xs) (f i) (map f (range (suc i) n)) d i (length-map xs f ∙ e))

-- rows of equal values are equal
pub map-mem-same {ℓ κ} : {A : Type ℓ} {B : Type κ} (f g : A → B) (xs : List A) → ((x : A) → Memᴰ x xs → f x ≡ g x) → map f xs ≡ map g xs
map-mem-same f g [] h = refl
map-mem-same f g (x ∷ xs) h = ap₂ ◌∷◌ (h x (Memᴰ.head refl)) (map-mem-same f g xs (λ y m. h y (Memᴰ.tail m)))

pub each-mem-same {ℓ κ} : {A : Type ℓ} {B : Type κ} (f g : A → List B) (xs : List A) → ((x : A) → Memᴰ x xs → f x ≡ g x)
    → each xs f ≡ each xs g
unfolding each
each-mem-same f g [] h = refl
each-mem-same f g (x ∷ xs) h = ap₂ ◌++◌ (h x (Memᴰ.head refl)) (each-mem-same f g xs (λ y m. h y (Memᴰ.tail m)))

pub map_same {ℓ} : {B : Type ℓ} (f g : ℕ → B) (n : ℕ) → ((i : ℕ) → i < n → f i ≡ g i) → map f (up_to n) ≡ map g (up_to n)
map_same f g n h = map-mem-same f g (up_to n) (λ i m. h i ((up_to-mem n i).0 m))

pub each_same {ℓ} : {B : Type ℓ} (f g : ℕ → List B) (n : ℕ) → ((i : ℕ) → i < n → f i ≡ g i) → each (up_to n) f ≡ each (up_to n) g
each_same f g n h = each-mem-same f g (up_to n) (λ i m. h i ((up_to-mem n i).0 m))

-- the number that a part stands for
pub part_field : {xs ys : Bytes} {n : ℕ} → Part xs n ys → field xs n (length ys) ≡ number ys
unfolding field
part_field p = ap number (part-taken p)

-- ---- a list cut into pieces

module _ {ℓ} {A : Type ℓ} where
  -- n pieces of w elements each, from c on
  pub chunks : (s : List A) (c w n : ℕ) → each (up_to n) (λ i. take w (drop (c + i * w) s)) ≡ take (n * w) (drop c s)
  unfolding each up_to count
  chunks s c w zero = sym (ap (λ (k : ℕ). take k (drop c s)) (zero-mul w))
  chunks s c w (suc n) =
      ap (λ (l : List ℕ). each l (λ i. take w (drop (c + i * w) s))) (up_to-suc n)
      ∙ each_append (up_to n) (one n) (λ i. take w (drop (c + i * w) s))
      ∙ ap₂ ◌++◌ (chunks s c w n) (append-nil _ ∙ ap (take w) (sym (drop-drop (n * w) c s)))
      ∙ sym (take-add (n * w) w (drop c s))
      ∙ ap (λ (k : ℕ). take k (drop c s)) (sym (suc-mul n w))

  -- the first n elements, one by one
  pub singles : (s : List A) (d : A) (n : ℕ) → n ≤ length s → map (λ i. get_or s i d) (up_to n) ≡ take n s
  unfolding up_to count
  singles s d zero h = refl
  singles s d (suc n) h =
      ap (map (λ i. get_or s i d)) (up_to-suc n)
      ∙ map-append (λ i. get_or s i d) (up_to n) (one n)
      ∙ ap (λ (l : List A). l ++ one (get_or s n d)) (singles s d n (omega arith))
      ∙ sym (take-suc s n d h)
