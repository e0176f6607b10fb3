-- A chain of the numbers that pass a test: what a loop over all numbers passes, a loop along the chain passes. Assumes nothing.
use mathlib.Core.Path.{◌≡◌, refl, sym, ap, ◌∙◌}
use mathlib.Core.Bool.{Bool, true, false}
use Prim.Native.Nat.{ℕ, zero, suc, ◌+◌, ◌*◌, ◌-◌, ◌≤◌, ◌<◌}
use native.Mathlib.Omega.{arith}
use mathlib.Core.List.{List, ◌++◌}
use lib.ListN.{get_or}
use lib.Dec.{T}
use Rattle.spec.specs.Lists.{up_to, range, each, only}
use Rattle.spec.specs.Book.{Book}
use Rattle.spec.specs.Instance.{instance_of}
use Rattle.clauses.proofs.Laws.{only-false}
use Rattle.clauses.proofs.Turns.{up_to-range, range-next}
use Rattle.tables.specs.Tables.{least_from, first_follower}
use Rattle.tables.specs.Ready.{ChainsHeld}
use Rattle.tables.proofs.Links.{next-follower}
use Rattle.laws.proofs.Least.{least-from, least-holds}
use Rattle.formula.specs.Chained.{Chained}

-- ---- the rows of the numbers that pass

module _ {ℓ} {A : Type ℓ} (f : ℕ → Bool) (g : ℕ → List A) where
  abbrev rows : ℕ → ℕ → List A
  rows a n = each (range a n) λ q. only (f q) (g q)

  -- those before the least that passes are empty
  pub skip : (k a n : ℕ) → n ≡ a + k → rows a n ≡ rows (least_from f a k) n
  unfolding least_from each
  skip zero a n e = refl
  skip (suc k) a n e = go (f a) refl (skip k (suc a) n (omega arith))
    where
      go : (t : Bool) → f a ≡ t → rows (suc a) n ≡ rows (least_from f (suc a) k) n
          → rows a n ≡ rows (elim t [ true ↦ a | false ↦ least_from f (suc a) k ]) n
      go true t rest = refl
      go false t rest =
          let s : a + 1 ≡ suc a = omega arith in
          ap (λ (xs : List ℕ). each xs λ q. only (f q) (g q)) (range-next a n (omega arith))
          ∙ ap (λ (ys : List A). ys ++ rows (a + 1) n) (only-false (g a) t)
          ∙ ap (λ (b : ℕ). rows b n) s
          ∙ rest

-- ---- along the chain

-- the next behind a number
abbrev next_of : List ℕ → ℕ → ℕ
next_of chains q = get_or chains (2 * q + 1) 0

module _ {f : ℕ → Bool} {n first : ℕ} {chains : List ℕ} (c : Chained f n first chains) where
  pub first_below : first ≤ n
  first_below = omega (arith, c.least, least-from f 0 n)

  pub first_passes : first < n → T (f first)
  first_passes h = rw c.least (least-holds f 0 n (omega (arith, c.least)))

  -- all rows are those from the first on
  pub first_rows {ℓ} : {A : Type ℓ} (g : ℕ → List A) → (each (up_to n) λ q. only (f q) (g q)) ≡ rows f g first n
  first_rows g =
      ap (λ (xs : List ℕ). each xs λ q. only (f q) (g q)) (up_to-range n)
      ∙ skip f g n 0 n (omega arith)
      ∙ ap (λ (a : ℕ). rows f g a n) (sym c.least)

  -- behind a number that passes
  module _ (q : ℕ) (h : q < n) (t : T (f q)) where
    pub next-below : (q < next_of chains q) × (next_of chains q ≤ n)
    next-below = let b = least-from f (q + 1) (n - (q + 1)) in let e = c.next q h t in (omega arith, omega arith)

    pub next-passes : next_of chains q < n → T (f (next_of chains q))
    next-passes m =
        let e = c.next q h t in
        rw e (least-holds f (q + 1) (n - (q + 1)) (omega arith))

    -- the rows behind it are those from the next on
    pub next-rows {ℓ} : {A : Type ℓ} (g : ℕ → List A) → rows f g (q + 1) n ≡ rows f g (next_of chains q) n
    next-rows g = skip f g (n - (q + 1)) (q + 1) n (omega arith) ∙ ap (λ (a : ℕ). rows f g a n) (sym (c.next q h t))

-- ---- a train's runs

-- the runs that follow a run are chained
pub follows-chained : {b : Book} {i : ℕ} {chains : List ℕ} → ChainsHeld b i chains → {n : ℕ} → n ≡ (instance_of b).runs i
    → (r : ℕ) → r < (instance_of b).runs i → Chained ((instance_of b).follows i r) n (get_or chains (2 * r) 0) chains
unfolding first_follower
follows-chained {b} {i} h e r m = rw e (record { least = h.first r m; next = λ q k t. h.next q k ∙ next-follower b i r q t })
