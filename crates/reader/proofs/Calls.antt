-- There is room for a call of a train that has fewer than four: the calls are at most the sum of the trains' own, and each train
-- has at most four. Assumes nothing.
use mathlib.Core.Path.{◌≡◌}
use mathlib.Core.Logic.{inl, inr}
use Prim.Native.Nat.{ℕ, zero, suc, ◌+◌, ◌*◌, ◌≤◌, ◌<◌}
use native.Mathlib.Omega.{arith}
use mathlib.Core.List.{List, [], ◌∷◌, ◌++◌}
use lib.ListN.{length, length-append}
use lib.Dec.{T, ltb, eqb, eqb_refl}
use Rattle.laws.proofs.Tests.{and-iff, ltb_iff, true_of, le-or-lt}
use Rattle.spec.specs.Lists.{all, one, only, pick, sum_to}
use Rattle.spec.specs.Book.{Book, Call, calls_of}
use Rattle.spec.specs.Read.{max_calls, max_trains}
use Rattle.laws.proofs.Parts.{sum-add}
use Rattle.reader.specs.Added.{CallsFew}

-- ---- sums

-- one part is at most the whole
sum-part : (f : ℕ → ℕ) (n i : ℕ) → i < n → f i ≤ sum_to f n
unfolding sum_to
sum-part f zero i h = let no : ⊥ = omega arith in absurd no
sum-part f (suc n) i h =
    elim (le-or-lt n i)
    [ inl l ↦ (let e : i ≡ n = omega arith in rw e (omega arith)) | inr l ↦ (let r = sum-part f n i l in omega arith) ]

-- each part at most four
sum-most : (f : ℕ → ℕ) (n : ℕ) → ((i : ℕ) → f i ≤ 4) → sum_to f n ≤ 4 * n
unfolding sum_to
sum-most f zero h = omega arith
sum-most f (suc n) h = let r = sum-most f n h in omega (arith, h n)

-- and one of them less
sum_less : (f : ℕ → ℕ) (n i : ℕ) → ((i : ℕ) → f i ≤ 4) → i < n → f i < 4 → sum_to f n < 4 * n
unfolding sum_to
sum_less f zero i h l k = let no : ⊥ = omega arith in absurd no
sum_less f (suc n) i h l k =
    elim (le-or-lt n i) [
      | inl m ↦ (let e : i ≡ n = omega arith in let j : f n < 4 = rw e at k in let r = sum-most f n h in omega arith)
      | inr m ↦ (let r = sum_less f n i h m k in omega (arith, h n))
    ]

-- ---- calls

-- the calls of train i
abbrev of_train : List Call → ℕ → List Call
of_train cs i = pick (λ c. eqb c.train i) cs

-- calls of the first n trains are at most the sum of those trains' calls
calls-most : (n : ℕ) (cs : List Call) → T (all (λ c. ltb c.train n) cs) → length cs ≤ sum_to (λ i. length (of_train cs i)) n
unfolding all pick only
calls-most n [] h = omega arith
calls-most n (c ∷ cs) h =
    let q = (and-iff (ltb c.train n) (all (λ c. ltb c.train n) cs)).0 h in
    let rest = calls-most n cs q.1 in
    let here : length (only (eqb c.train c.train) (one c)) ≤ sum_to (λ i. length (only (eqb c.train i) (one c))) n
    = sum-part _ n c.train ((ltb_iff c.train n).0 q.0) in
    let own : 1 ≤ length (only (eqb c.train c.train) (one c)) = rw (true_of (eqb c.train c.train) (eqb_refl c.train), only) (omega arith) in
    let e : sum_to (λ i. length (only (eqb c.train i) (one c) ++ of_train cs i)) n
    ≡ sum_to (λ i. length (only (eqb c.train i) (one c))) n + sum_to (λ i. length (of_train cs i)) n
    = simp length-append (sum-add _ _ n) in
    rw e (omega arith)

-- all of them fit
pub calls-fit : (b : Book) → CallsFew b → length b.calls ≤ max_trains * max_calls
unfolding calls_of
calls-fit b w =
    let most = calls-most (length b.trains) b.calls w.known in
    let all' = sum-most (λ i. length (of_train b.calls i)) (length b.trains) w.few in
    omega (arith, w.trains)

-- a train that was read and has fewer than four calls leaves room for one
pub call-room : (b : Book) (i : ℕ) → CallsFew b → i < length b.trains → length (calls_of b i) < max_calls
    → length b.calls < max_trains * max_calls
unfolding calls_of
call-room b i w l k =
    let most = calls-most (length b.trains) b.calls w.known in
    let less = sum_less (λ i. length (of_train b.calls i)) (length b.trains) i w.few l k in
    omega (arith, w.trains)
