-- The formula's words: every literal is of one of the formula's variables (`formula-in-range`), and the words, each clause
-- closed by 0, say which clauses they are (`words-split`) and how many words they have (`words_size`). Assumes nothing.
use mathlib.Core.Path.{◌≡◌, refl, sym, ap, ap₂, ◌∙◌}
use mathlib.Core.Logic.{◌↔◌, inl, inr}
use mathlib.Core.Bool.{Bool, ◌&&◌}
use Prim.Native.Nat.{ℕ, zero, suc, ◌+◌, ◌*◌, ◌-◌, ◌≤◌, ◌<◌}
use native.Mathlib.Omega.{arith}
use mathlib.Core.List.{List, [], ◌∷◌, ◌++◌, append-nil}
use lib.ListN.{length, get_or, length-append}
use lib.IntN.{ℤ, pos, negsuc}
use lib.Dec.{T, leb}
use lib.Arith.{digits_lt}
use Rattle.laws.proofs.Tests.{meaning, and-iff, leb-iff, le-or-lt, all-iff}
use Rattle.laws.proofs.Rows.{rows, all_append, all_cons}
use Rattle.laws.proofs.Parts.{each_append}
use Rattle.spec.specs.Lists.{all, each, one, sum_to}
use Rattle.spec.specs.Instance.{Instance, free_nodes_of}
use Rattle.spec.specs.Formula.{Literal, Clause, is, not', width, first_var, base, border_var, run_var, gone_var, claim_var, own_variables, variables, clauses_b, clauses_c, clauses_d, clauses_e, clause_e, followers_e, servers_f, clauses_g, claims_g, clauses_h, clauses_i, family_a, family_b, family_c, family_d, family_e, family_f, family_g, family_h, family_i, formula, words_of}
use Rattle.spec.specs.Cap.{counter_of, cap_variables, count_var, count_clause, carry_clause, cap_clauses}
use Rattle.spec.specs.Refutation.{variable_of, with_word, clauses_of, in_range}
use Rattle.demands.proofs.Wellformed.{Sound}
use Rattle.demands.proofs.Cap.{free-inside, counter-whole}

-- ---- literals of n variables

-- the test of one literal
within : ℕ → Literal → Bool
within n l = leb 1 (variable_of l) && leb (variable_of l) n

-- a literal that affirms a variable below n is of the n
is_within : (n v : ℕ) → T (within n (is v)) ↔ (v < n)
unfolding within variable_of
is_within n v = simp (and-iff, leb-iff) (λ h. h.1, λ h. (omega arith, h))

-- and so is one that denies it
not_within : (n v : ℕ) → T (within n (not' v)) ↔ (v < n)
unfolding within variable_of
not_within n v = simp (and-iff, leb-iff) (λ h. h.1, λ h. (omega arith, h))

-- how a family's literals are tested
ruleset tested = (rows, is_within, not_within, meaning)

-- ---- the numbering

-- a part of a sum ends by the sum's end
pub sum_below : (f : ℕ → ℕ) (n i : ℕ) → i < n → sum_to f i + f i ≤ sum_to f n
unfolding sum_to
sum_below f zero i h = omega arith
sum_below f (suc n) i h =
    elim (le-or-lt n i) [
      | inl l ↦ (let e : i ≡ n = omega arith in rw e (omega arith))
      | inr l ↦ omega (arith, sum_below f n i l)
    ]

module _ (I : Instance) where
  -- the variables of a train's interval are below the count
  base-below : (i : ℕ) → i < I.trains → (t : ℕ) → t < I.intervals → (j : ℕ) → j < width I i → base I i t + j < variables I
  unfolding base variables own_variables first_var
  base-below i l t h j k = omega (arith, sum_below (λ j. I.intervals * width I j) I.trains i l, digits_lt h k)

  -- a border's variable is one of the formula's
  border-below : (n : ℕ) → n < I.nodes → border_var I n < variables I
  unfolding border_var variables own_variables first_var
  border-below n h = omega arith

  -- a run's is, and the one behind the runs
  run-below : (i : ℕ) → i < I.trains → (t : ℕ) → t < I.intervals → (r : ℕ) → r < I.runs i + 1 → run_var I i t r < variables I
  unfolding run_var width
  run-below i l t h r k = base-below i l t h r (omega arith)

  -- gone's is
  gone-below : (i : ℕ) → i < I.trains → (t : ℕ) → t < I.intervals → gone_var I i t < variables I
  unfolding gone_var width
  gone-below i l t h = base-below i l t h (I.runs i) (omega arith)

  -- a claim's is
  claim-below : (i : ℕ) → i < I.trains → (t : ℕ) → t < I.intervals → (s : ℕ) → s < I.segments → claim_var I i t s < variables I
  unfolding claim_var width
  claim-below i l t h s k = base-below i l t h (I.runs i + 1 + s) (omega arith)

  -- ---- the families

  -- every literal of the clauses is of one of the formula's variables
  Kept : List Clause → Type 0
  Kept cs = T (all (all (within (variables I))) cs)

  -- A: borders
  kept_a : Kept (family_a I)
  unfolding Kept family_a
  kept_a = simp tested (λ n h. ((λ _. border-below n h), λ _. border-below n h))

  -- B: moves before the departure, which is before the last time
  kept_b : Sound I → Kept (family_b I)
  unfolding Kept family_b clauses_b run_var gone_var
  kept_b sound = simp tested (λ i l t k.
      let d = sound.departs i l in
      let h : t < I.intervals = omega arith in
      ((λ r q. run-below i l t h r (omega arith)), gone-below i l t h))

  -- C: moves from the departure on
  kept_c : Kept (family_c I)
  unfolding Kept family_c clauses_c run_var gone_var
  kept_c = simp tested (λ i l t _ h. (
    ((λ r q. run-below i l t h r (omega arith)), gone-below i l t h),
    λ m p n _ q. (run-below i l t h m p, run-below i l t h n q),
  ))

  -- D: moves at the departure
  kept_d : Sound I → Kept (family_d I)
  unfolding Kept family_d clauses_d run_var gone_var
  kept_d sound = simp tested (λ i l.
      let h = sound.departs i l in
      ((λ r q _. run-below i l (I.departure i) h r (omega arith)), gone-below i l (I.departure i) h))

  -- E: moves of two intervals, the second before the last time
  kept_e : Kept (family_e I)
  unfolding Kept family_e clauses_e clause_e followers_e run_var gone_var
  kept_e = simp tested (λ i l t _ k.
      let h : t < I.intervals = omega arith in
      let h' : t + 1 < I.intervals = omega arith in (
        (λ r q. (
          run-below i l t h r (omega arith),
          ((λ p m _. run-below i l (t + 1) h' p (omega arith)), λ _. gone-below i l (t + 1) h'),
        )),
        (gone-below i l t h, gone-below i l (t + 1) h'),
      ))

  -- F: runs from the departure on
  kept_f : Kept (family_f I)
  unfolding Kept family_f servers_f run_var
  kept_f = simp tested (λ i l c _ _ t _ h _ r q _. run-below i l t h r (omega arith))

  -- G: runs and the claims of their segments, which are the book's
  kept_g : Sound I → Kept (family_g I)
  unfolding Kept family_g clauses_g claims_g run_var claim_var
  kept_g sound = simp (tested, all-iff) (λ i l t h r k s m.
      (run-below i l t h r (omega arith), claim-below i l t h s (sound.inside i r l k s m)))

  -- H: claims and borders
  kept_h : Kept (family_h I)
  unfolding Kept family_h clauses_h claim_var
  kept_h = simp tested (λ i l t h n k s p u q _. (claim-below i l t h s p, (border-below n k, claim-below i l t h u q)))

  -- I: claims
  kept_i : Kept (family_i I)
  unfolding Kept family_i clauses_i
  kept_i = simp tested (λ t h i l j _ m s k. (claim-below i l t h s k, claim-below j m t h s k))

  -- the cap's: borders of nodes of kind 1, and its own variables, which follow all others
  count-below : (j : ℕ) → j < (counter_of I).most → (k : ℕ) → k < (counter_of I).spare → count_var I (own_variables I) j k < variables I
  unfolding count_var variables cap_variables
  count-below j l k h = omega (arith, digits_lt l h)

  kept_cap : Kept (cap_clauses I (own_variables I))
  unfolding Kept cap_clauses count_clause carry_clause counter_of border_var
  kept_cap = simp tested (λ j l k h.
      let inside = let w = counter-whole I.cap (length (free_nodes_of I)) in free-inside I (j + k) (omega (arith, w, l, h)) in (
        (
          border-below _ inside,
          ((λ p. count-below (j - 1) (omega (arith, p, l)) k h), λ p. count-below j p k h),
        ),
        λ p. (count-below j p.0 (k - 1) (omega (arith, h)), count-below j p.0 k h),
      ))

  -- every literal of the formula is of one of its variables
  pub formula-in-range : Sound I → T (in_range (variables I) (formula I))
  unfolding formula Kept within
  formula-in-range sound =
      simp (all_append, and-iff)
      (kept_a, (kept_b sound, (kept_c, (kept_d sound, (kept_e, (kept_f, (kept_g sound, (kept_h, (kept_i, kept_cap)))))))))

-- ---- the words of clauses

-- behind the words of others
pub words_append : (cs ds : List Clause) → words_of (cs ++ ds) ≡ words_of cs ++ words_of ds
unfolding words_of
words_append cs ds = each_append cs ds (λ c. c ++ one (pos 0))

-- of one clause
pub words-one : (c : Clause) → c ++ one (pos 0) ≡ words_of (one c)
unfolding words_of each
words-one c = sym (append-nil (c ++ one (pos 0)))

-- ---- the words say which clauses they are

-- every literal has a variable, so it is no closing 0
abbrev pub proper : List Clause → Bool
proper cs = all (λ c. all (λ l. leb 1 (variable_of l)) c) cs

-- clauses over n variables have no 0 in them
pub range-proper : (n : ℕ) (cs : List Clause) → T (in_range n cs) → T (proper cs)
range-proper n cs h = let k = simp (all-iff, and-iff) at h in simp all-iff (λ c m l p. (k c m l p).0)

-- a literal goes to the first clause
with-literal : (l : Literal) → T (leb 1 (variable_of l)) → (c : Clause) (cs : List Clause) → with_word l (c ∷ cs) ≡ (l ∷ c) ∷ cs
unfolding with_word variable_of
with-literal (pos zero) h c cs = absurd h
with-literal (pos (suc v)) h c cs = refl
with-literal (negsuc v) h c cs = refl

-- a clause and its 0 in front of words
clause-back : (c : Clause) → T (all (λ l. leb 1 (variable_of l)) c) → (ws : List ℤ)
    → clauses_of ((c ++ one (pos 0)) ++ ws) ≡ c ∷ clauses_of ws
unfolding clauses_of with_word
clause-back [] h ws = refl
clause-back (l ∷ c) h ws =
    let k = simp (all_cons, and-iff) at h in
    ap (with_word l) (clause-back c k.1 ws) ∙ with-literal l k.0 c (clauses_of ws)

-- the words of clauses say these clauses
pub words_back : (cs : List Clause) → T (proper cs) → clauses_of (words_of cs) ≡ cs
unfolding words_of each clauses_of
words_back [] h = refl
words_back (c ∷ cs) h =
    let k = simp (all_cons, and-iff) at h in
    clause-back c k.0 (words_of cs) ∙ ap (λ (ds : List Clause). c ∷ ds) (words_back cs k.1)

-- clauses with the same words are the same
pub words-split : (cs ds : List Clause) → T (proper cs) → T (proper ds) → words_of cs ≡ words_of ds → cs ≡ ds
words-split cs ds h k e = sym (words_back cs h) ∙ ap clauses_of e ∙ words_back ds k

-- ---- how many words clauses have

-- a sum with its first part in front
sum-front : (f : ℕ → ℕ) (n : ℕ) → sum_to f (suc n) ≡ f 0 + sum_to (λ k. f (suc k)) n
unfolding sum_to
sum-front f zero = omega arith
sum-front f (suc n) = omega (arith, sum-front f n)

-- a word a literal, and one more a clause
pub words_size : (cs : List Clause) → length (words_of cs) ≡ sum_to (λ k. length (get_or cs k []) + 1) (length cs)
unfolding words_of each sum_to
words_size [] = refl
words_size (c ∷ cs) =
    length-append (c ++ one (pos 0)) (words_of cs)
    ∙ ap₂ ◌+◌ (length-append c (one (pos 0))) (words_size cs)
    ∙ sym (sum-front (λ k. length (get_or (c ∷ cs) k []) + 1) (length cs))
