-- Loops over the walk. A loop over a range passes, at each turn, the words of one number. For a loop that goes another way `Ahead` says
-- that passing what is left comes to passing the whole. Assumes nothing.
use mathlib.Core.Path.{◌≡◌, refl, sym, ap, ap₂, ◌∙◌}
use Prim.Native.Nat.{ℕ, zero, suc, ◌+◌, ◌-◌, ◌≤◌, ◌<◌}
use native.Mathlib.Omega.{arith}
use native.Mathlib.Nat.{sub-zero}
use mathlib.Core.List.{List, [], ◌∷◌, ◌++◌, map, append-nil}
use lib.IntN.{ℤ, pos}
use Rattle.spec.specs.Lists.{count, up_to, range, each, one}
use Rattle.spec.specs.Formula.{Clause, words_of}
use Rattle.laws.proofs.Parts.{each_append}
use Rattle.demands.proofs.Words.{words_append}
use Rattle.clauses.specs.declared.Walk.{Walk}
use Rattle.clauses.specs.Walked.{Passes}
use Rattle.clauses.proofs.Laws.{passes_same, passes-behind, passes-nothing}

-- ---- ranges

pub up_to-range : (n : ℕ) → up_to n ≡ range 0 n
unfolding up_to range
up_to-range n = ap (count 0) (sym (sub-zero n))

pub range-next : (a z : ℕ) → a < z → range a z ≡ a ∷ range (a + 1) z
unfolding range count
range-next a z h =
    let e : z - a ≡ suc (z - (a + 1)) = omega arith in
    let f : suc a ≡ a + 1 = omega arith in
    ap (count a) e ∙ ap (λ (n : ℕ). a ∷ count n (z - (a + 1))) f

pub range-end : (a z : ℕ) → z ≤ a → range a z ≡ []
unfolding range count
range-end a z h = let e : z - a ≡ 0 = omega arith in ap (count a) e

-- one number more
count-last : (a n : ℕ) → count a (suc n) ≡ count a n ++ one (a + n)
unfolding count
count-last a zero = let e : a ≡ a + 0 = omega arith in ap one e
count-last a (suc n) =
    let e : suc a + n ≡ a + suc n = omega arith in
    ap (λ (ks : List ℕ). a ∷ ks) (count-last (suc a) n) ∙ ap (λ (k : ℕ). a ∷ (count (suc a) n ++ one k)) e

range-last : (a k : ℕ) → a ≤ k → range a (k + 1) ≡ range a k ++ one k
unfolding range
range-last a k h =
    let e : k + 1 - a ≡ suc (k - a) = omega arith in
    let f : a + (k - a) ≡ k = omega arith in
    ap (count a) e ∙ count-last a (k - a) ∙ ap (λ (n : ℕ). count a (k - a) ++ one n) f

-- ---- the words of rows of clauses

module _ {ℓ} {A : Type ℓ} where
  pub words-map : (f : A → Clause) (xs : List A) → words_of (map f xs) ≡ each xs (λ x. words_of (one (f x)))
  unfolding words_of each
  words-map f [] = refl
  words-map f (x ∷ xs) =
      ap₂ (λ (ls ms : List ℤ). ls ++ ms) (sym (append-nil (f x ++ one (pos 0)))) (words-map f xs)

  pub words-each : (f : A → List Clause) (xs : List A) → words_of (each xs f) ≡ each xs (λ x. words_of (f x))
  unfolding words_of each
  words-each f [] = refl
  words-each f (x ∷ xs) = words_append (f x) (each xs f) ∙ ap (λ (ls : List ℤ). words_of (f x) ++ ls) (words-each f xs)

pub each-one {ℓ} : {A : Type ℓ} (f : A → ℤ) (xs : List A) → each xs (λ x. one (f x)) ≡ map f xs
unfolding each
each-one f [] = refl
each-one f (x ∷ xs) = ap (λ (ls : List ℤ). f x ∷ ls) (each-one f xs)

-- a loop from 0 passes the literals of a clause, a row of clauses, or rows of them
pub literals-row : (f : ℕ → ℤ) (n : ℕ) → each (range 0 n) (λ k. one (f k)) ≡ map f (up_to n)
literals-row f n = ap (λ (ks : List ℕ). each ks (λ k. one (f k))) (sym (up_to-range n)) ∙ each-one f (up_to n)

pub words_row : (f : ℕ → Clause) (n : ℕ) → each (range 0 n) (λ k. words_of (one (f k))) ≡ words_of (map f (up_to n))
words_row f n = sym (words-map f (up_to n) ∙ ap (λ (ks : List ℕ). each ks (λ k. words_of (one (f k)))) (up_to-range n))

pub words-rows : (f : ℕ → List Clause) (n : ℕ) → each (range 0 n) (λ k. words_of (f k)) ≡ words_of (each (up_to n) f)
words-rows f n = sym (words-each f (up_to n) ∙ ap (λ (ks : List ℕ). each ks (λ k. words_of (f k))) (up_to-range n))

-- ---- loops over a range

-- before the first turn
pub turn-none : (f : ℕ → List ℤ) (a : ℕ) {w : Walk} → Passes (each (range a a) f) w w
unfolding each
turn-none f a = passes-nothing (ap (λ (ks : List ℕ). each ks f) (range-end a a (omega arith)))

module _ (f : ℕ → List ℤ) {w w' : Walk} where
  -- a turn
  pub turn : (a k : ℕ) → a ≤ k → {w'' : Walk} → Passes (each (range a k) f) w w' → Passes (f k) w' w''
      → Passes (each (range a (k + 1)) f) w w''
  unfolding each
  turn a k l h j = passes_same (sym longer) (passes-behind h j)
    where
      longer : each (range a (k + 1)) f ≡ each (range a k) f ++ f k
      longer =
          ap (λ (ks : List ℕ). each ks f) (range-last a k l)
          ∙ each_append (range a k) (one k) f
          ∙ ap (λ (ls : List ℤ). each (range a k) f ++ ls) (append-nil (f k))

  -- after the last
  pub turned : (a k z : ℕ) → k ≡ z → Passes (each (range a k) f) w w' → Passes (each (range a z) f) w w'
  turned a k z e h = passes_same (ap (λ (n : ℕ). each (range a n) f) e) h

-- ---- what is ahead

-- passing `rest` from here is passing `all` from the start
pub record Ahead (all rest : List ℤ) (w₀ w : Walk) : Type 0 where
  pub goes_on : {w' : Walk} → Passes rest w w' → Passes all w₀ w'

module _ {all rest : List ℤ} {w₀ w : Walk} where
  -- words that are the same
  pub ahead-same : {rest' : List ℤ} → rest ≡ rest' → Ahead all rest w₀ w → Ahead all rest' w₀ w
  ahead-same e h = record { goes_on = λ k. h.goes_on (passes_same (sym e) k) }

  -- a part was passed
  pub ahead-pass : {part : List ℤ} {w' : Walk} → Ahead all (part ++ rest) w₀ w → Passes part w w' → Ahead all rest w₀ w'
  ahead-pass h k = record { goes_on = λ j. h.goes_on (passes-behind k j) }

pub ahead-start : (all : List ℤ) (w : Walk) → Ahead all all w w
ahead-start all w = record { goes_on = λ k. k }

-- nothing is left
pub ahead-done : {all : List ℤ} {w₀ w : Walk} → Ahead all [] w₀ w → Passes all w₀ w
ahead-done h = h.goes_on (passes-nothing refl)
