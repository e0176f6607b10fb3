-- Links: whether the elements of a row each lead to the next, two neighbours at a time. Assumes nothing.
use Rattle.std.proofs.Common.{◌≡◌, Bool, true, ◌&&◌, ℕ, ◌≤◌, ◌<◌, List, [], ◌∷◌, length, get_or, take, drop, refl, arith}
use Rattle.std.proofs.Math.Dec.{T}
use Rattle.spec.specs.Lists.{all}
use Rattle.spec.specs.Book.{Book}
use Rattle.spec.specs.Runs.{leads_to, linked}
use Rattle.laws.proofs.Tests.{and-iff}

-- a row of one element or none
pub linked-short : (b : Book) (xs : List ℕ) → length xs < 2 → linked b xs ≡ true
unfolding linked
linked-short b [] h = refl
linked-short b (x ∷ []) h = refl
linked-short b (x ∷ y ∷ ys) h = absurd (omega arith)

-- the first two elements, and the others: a link, and a test of each of them
linked-two : (b : Book) (xs : List ℕ) → 2 ≤ length xs
    → linked b xs ≡ (leads_to b (get_or (take 2 xs) 0 0) (get_or (take 2 xs) 1 0) && linked b (drop 1 xs))
unfolding linked
linked-two b [] h = absurd (omega arith)
linked-two b (x ∷ []) h = absurd (omega arith)
linked-two b (x ∷ y ∷ ys) h = refl

all-two : (f : ℕ → Bool) (xs : List ℕ) → 2 ≤ length xs → T (all f xs)
    → T (f (get_or (take 2 xs) 0 0)) × T (f (get_or (take 2 xs) 1 0)) × T (all f (drop 1 xs))
unfolding all
all-two f [] h t = absurd (omega arith)
all-two f (x ∷ []) h t = absurd (omega arith)
all-two f (x ∷ y ∷ ys) h t =
    let p = (and-iff (f x) (f y && all f ys)).0 t in
    (p.0, ((and-iff (f y) (all f ys)).0 p.1).0, p.1)

-- the same of a window of two that a turn takes
module _ (pair xs ys : List ℕ) {w : ℕ} (two : w ≡ 2) (long : w ≤ length xs) (is : pair ≡ take w xs) (rest : ys ≡ drop 1 xs) where
  pub linked-next : (b : Book) → linked b xs ≡ (leads_to b (get_or pair 0 0) (get_or pair 1 0) && linked b ys)
  linked-next b = rw (is, two, rest) (linked-two b xs (omega arith))

  pub all-next : (f : ℕ → Bool) → T (all f xs) → T (f (get_or pair 0 0)) × T (f (get_or pair 1 0)) × T (all f ys)
  all-next f t = rw (is, two, rest) (all-two f xs (omega arith) t)
