-- Clauses in the slices that hold them: as many begin as there are, each stands where its entry says, and its literals are of the
-- variables. Assumes nothing.
use mathlib.Core.Path.{◌≡◌, refl, ap, ap₂, ◌∙◌}
use mathlib.Core.Bool.{◌&&◌}
use Prim.Native.Nat.{ℕ, zero, suc, ◌+◌, ◌-◌, ◌≤◌, ◌<◌}
use native.Mathlib.Omega.{arith}
use mathlib.Core.List.{List, [], ◌∷◌, ◌++◌, append_assoc}
use lib.ListN.{length, get_or, take, drop, length-append}
use lib.Seq.{split_at, drop-append_seam}
use lib.IntN.{ℤ, pos}
use lib.Dec.{T, leb}
use Rattle.laws.proofs.Tests.{all-at}
use Rattle.spec.specs.Lists.{all, each, one}
use Rattle.spec.specs.Formula.{Clause, words_of}
use Rattle.spec.specs.Refutation.{variable_of, clause_at, clauses_of}
use Rattle.demands.proofs.Words.{words_append}
use Rattle.propagation.specs.Kept.{starts_from, Kept}

-- one clause's words, in front of others
words-cons : (c : Clause) (cs : List Clause) → words_of (c ∷ cs) ≡ c ++ (pos 0 ∷ words_of cs)
unfolding words_of each
words-cons c cs = append_assoc c (one (pos 0)) (words_of cs)

-- where the clause at i begins: behind the words of those before it
unfoldable pub place_of : List Clause → ℕ → ℕ
place_of cs i = length (words_of (take i cs))

-- as many places as clauses
pub length-starts : (at : ℕ) (cs : List Clause) → length (starts_from at cs) ≡ length cs
unfolding starts_from
length-starts at [] = refl
length-starts at (c ∷ cs) = ap suc (length-starts (at + (length c + 1)) cs)

-- the entry of the clause at i
pub start-at : (at : ℕ) (cs : List Clause) (i : ℕ) → i < length cs → get_or (starts_from at cs) i 0 ≡ at + place_of cs i
unfolding starts_from place_of words_of each
start-at at [] i h = let no : ⊥ = omega arith in absurd no
start-at at (c ∷ cs) zero h = omega arith
start-at at (c ∷ cs) (suc i) h =
    let rest = words_of (take i cs) in
    omega
    (arith, start-at (at + (length c + 1)) cs i (omega arith), length-append (c ++ one (pos 0)) rest, length-append c (one (pos 0)))

-- the clause at i stands there, closed by 0
pub stands_at : (cs : List Clause) (i : ℕ) → i < length cs
    → drop (place_of cs i) (words_of cs) ≡ get_or cs i [] ++ (pos 0 ∷ words_of (drop (suc i) cs))
unfolding place_of
stands_at cs i h =
    let c = get_or cs i [] in
    let rest = drop (suc i) cs in
    ap (λ (ds : List Clause). drop (length (words_of (take i cs))) (words_of ds)) (split_at cs i [] h)
    ∙ ap (drop (length (words_of (take i cs)))) (words_append (take i cs) (c ∷ rest))
    ∙ drop-append_seam (words_of (take i cs)) (words_of (c ∷ rest))
    ∙ words-cons c rest

module _ {vars : ℕ} {words : List ℤ} {starts : List ℕ} (k : Kept vars words starts) where
  -- a place for each clause
  pub starts-length : length starts ≡ length (clauses_of words)
  starts-length = ap length k.starting ∙ length-starts 0 (clauses_of words)

  -- the clause with the number h begins where its entry says
  pub clause-found : (h : ℕ) → 1 ≤ h → h ≤ length starts
      → (rest : List ℤ) × (drop (get_or starts (h - 1) 0) words ≡ clause_at (clauses_of words) h ++ (pos 0 ∷ rest))
  unfolding clause_at
  clause-found h low high =
      let cs = clauses_of words in
      let l : h - 1 < length cs = omega (arith, starts-length) in
      let e : get_or starts (h - 1) 0 ≡ place_of cs (h - 1) =
      ap (λ (s : List ℕ). get_or s (h - 1) 0) k.starting ∙ start-at 0 cs (h - 1) l ∙ omega arith in
      (words_of (drop (suc (h - 1)) cs), ap₂ drop e k.closed ∙ stands_at cs (h - 1) l)

  -- and its literals are of the variables
  pub clause-ranged : (h : ℕ) → 1 ≤ h → h ≤ length starts
      → T (all (λ l. leb 1 (variable_of l) && leb (variable_of l) vars) (clause_at (clauses_of words) h))
  unfolding clause_at
  clause-ranged h low high = all-at _ (clauses_of words) (h - 1) [] k.ranged (omega (arith, starts-length))
