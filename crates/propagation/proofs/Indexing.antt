-- Noting where clauses begin, word by word: words that are clauses have no 0 but at the ends (`closed-proper`), so a 0 ends the
-- clause at hand and any other word is inside it. `Indexing` is what holds at each word. Assumes nothing.
use mathlib.Core.Path.{◌≡◌, refl, sym, ap, ap₂, ◌∙◌, subst}
use mathlib.Core.Logic.{inl, inr}
use Prim.Native.Nat.{ℕ, zero, suc, ◌+◌, ◌-◌, ◌≤◌, ◌<◌}
use native.Mathlib.Numerals.{add-one}
use native.Mathlib.Omega.{arith}
use mathlib.Core.List.{List, [], ◌∷◌, ◌++◌}
use lib.ListN.{length, get_or, take, drop, set, length-append, take-append-drop, get_or-append, get_or-eq_default}
use lib.Seq.{sets, take-suc, take_all, get_or-drop, get_or_at}
use lib.IntN.{ℤ, pos, negsuc}
use lib.Dec.{T, leb}
use Rattle.laws.proofs.Tests.{and-iff, leb-iff, le-or-lt, all-at}
use Rattle.laws.proofs.Rows.{all_cons}
use Rattle.spec.specs.Lists.{all, each, one}
use Rattle.spec.specs.Formula.{Clause, words_of}
use Rattle.spec.specs.Refutation.{variable_of, clauses_of}
use Rattle.demands.proofs.Words.{proper, words_back, words_append, words-one}
use Rattle.propagation.specs.Kept.{starts_from}
use Rattle.propagation.proofs.Lookup.{place_of, length-starts, start-at, stands_at}
use Rattle.propagation.proofs.Storing.{Stored, stored-start, stored-front, stored-done}

-- ---- no 0 but at the ends

-- the words of a clause with its 0, and of clauses behind it, as those of clauses without 0, of which there is a first
abbrev Cut : Clause → List Clause → Type 0
Cut c ds = (d : Clause) × (es : List Clause) × T (proper (d ∷ es)) × (words_of (d ∷ es) ≡ (c ++ one (pos 0)) ++ words_of ds)

-- a literal goes to the first
longer : (l : ℤ) (c : Clause) (ds : List Clause) → 1 ≤ variable_of l → Cut c ds → Cut (l ∷ c) ds
unfolding words_of each
longer l c ds h r =
    let q = simp (all_cons, and-iff) at r.2 in
    (l ∷ r.0, r.1, simp (all_cons, and-iff, leb-iff) ((h, q.0), q.1), ap (λ (ws : List ℤ). l ∷ ws) r.3)

-- and a 0 makes a new one
cut : (c : Clause) (ds : List Clause) → T (proper ds) → Cut c ds
unfolding words_of each all variable_of
cut [] ds p = ([], ds, p, refl)
cut (pos zero ∷ c) ds p = let r = cut c ds p in ([], r.0 ∷ r.1, r.2, ap (λ (ws : List ℤ). pos 0 ∷ ws) r.3)
cut (pos (suc v) ∷ c) ds p = longer (pos (suc v)) c ds (omega arith) (cut c ds p)
cut (negsuc v ∷ c) ds p = longer (negsuc v) c ds (omega arith) (cut c ds p)

-- clauses have the words of clauses without 0
recut : (cs : List Clause) → (ds : List Clause) × T (proper ds) × (words_of ds ≡ words_of cs)
unfolding words_of each all
recut [] = ([], tt, refl)
recut (c ∷ cs) =
    let r = recut cs in
    let s = cut c r.0 r.1 in
    (s.0 ∷ s.1, s.2, s.3 ∙ ap (λ (ws : List ℤ). (c ++ one (pos 0)) ++ ws) r.2)

-- so the clauses that words say have none
pub closed-proper : (words : List ℤ) → words ≡ words_of (clauses_of words) → T (proper (clauses_of words))
closed-proper words e =
    let r = recut (clauses_of words) in
    subst (λ (ds : List Clause). T (proper ds)) (sym (ap clauses_of (e ∙ sym r.2) ∙ words_back r.0 r.1)) r.1

-- ---- places

module _ (cs : List Clause) (k : ℕ) where
  -- the next clause begins behind this one and its 0
  place-next : k < length cs → place_of cs (suc k) ≡ place_of cs k + (length (get_or cs k []) + 1)
  unfolding place_of
  place-next h =
      let c = get_or cs k [] in
      ap (λ (ds : List Clause). length (words_of ds)) (take-suc cs k [] h)
      ∙ ap length (words_append (take k cs) (one c) ∙ ap (λ (ws : List ℤ). words_of (take k cs) ++ ws) (sym (words-one c)))
      ∙ length-append (words_of (take k cs)) (c ++ one (pos 0))
      ∙ ap (λ (n : ℕ). place_of cs k + n) (length-append c (one (pos 0)))

  -- a place is in the words, or right behind them
  place-most : place_of cs k ≤ length (words_of cs)
  unfolding place_of
  place-most =
      let e = ap (λ (ds : List Clause). length (words_of ds)) (take-append-drop k cs) in
      omega (arith, sym e ∙ ap length (words_append (take k cs) (drop k cs)), length-append (words_of (take k cs)) (words_of (drop k cs)))

  -- behind the last clause it is right behind them
  place-last : length cs ≤ k → place_of cs k ≡ length (words_of cs)
  unfolding place_of
  place-last h = ap (λ (ds : List Clause). length (words_of ds)) (take_all k cs h)

  module _ (h : k < length cs) where
    -- a word of the clause
    word-inside : (j : ℕ) → j < length (get_or cs k []) → get_or (words_of cs) (place_of cs k + j) (pos 0) ≡ get_or (get_or cs k []) j (pos 0)
    word-inside j l =
        sym (get_or-drop (place_of cs k) (words_of cs) j (pos 0))
        ∙ ap (λ (ws : List ℤ). get_or ws j (pos 0)) (stands_at cs k h)
        ∙ get_or-append (get_or cs k []) _ (pos 0) j l

    -- the word behind it
    word-behind : get_or (words_of cs) (place_of cs k + length (get_or cs k [])) (pos 0) ≡ pos 0
    word-behind =
        sym (get_or-drop (place_of cs k) (words_of cs) (length (get_or cs k [])) (pos 0))
        ∙ ap (λ (ws : List ℤ). get_or ws (length (get_or cs k [])) (pos 0)) (stands_at cs k h)
        ∙ get_or_at (get_or cs k []) (pos 0) _ (pos 0) (length (get_or cs k [])) refl

-- ---- the loop

-- at a word: the places of the clauses before were stored, and the word is in the clause at hand or right behind it
pub record Indexing (cs : List Clause) (starts₀ starts : List ℕ) (first clause at : ℕ) : Type 0 where
  pub begins : first ≡ place_of cs clause
  pub from : first ≤ at
  pub within : at ≤ first + length (get_or cs clause [])
  pub stored : Stored starts₀ 0 (starts_from 0 cs) starts clause

-- before the first word
pub indexing-start : (cs : List Clause) (starts : List ℕ) → length cs ≤ length starts → Indexing cs starts starts 0 0 0
unfolding place_of words_of each
indexing-start cs starts h = record {
  begins = refl;
  from = omega arith;
  within = omega arith;
  stored = stored-start starts 0 _ (omega (arith, length-starts 0 cs));
}

module _ {cs : List Clause} {words : List ℤ} {starts₀ starts : List ℕ} {first clause at : ℕ} (closed : words ≡ words_of cs)
    (i : Indexing cs starts₀ starts first clause at) where
  -- at a word there is a clause at hand
  at-hand : at < length words → clause < length cs
  at-hand l = elim (le-or-lt (length cs) clause) [
    | inl h ↦ (
        let e : length (get_or cs clause []) ≡ 0 = ap length (get_or-eq_default cs [] h) in
        let no : ⊥ = omega (arith, ap length closed, i.begins, i.within, place-last cs clause h) in
        absurd no)
    | inr h ↦ h
  ]

  -- and room for its place
  pub place-room : at < length words → clause < length starts
  place-room l = omega (arith, at-hand l, i.stored.fits, i.stored.size, length-starts 0 cs)

  -- a word, found from the place of the clause at hand
  word_at : (j : ℕ) → at ≡ first + j → get_or words at (pos 0) ≡ get_or (words_of cs) (place_of cs clause + j) (pos 0)
  word_at j e = ap₂ (λ (ws : List ℤ) (n : ℕ). get_or ws n (pos 0)) closed (e ∙ ap (λ (n : ℕ). n + j) i.begins)

  -- a 0 ends the clause
  ends : T (proper cs) → at < length words → get_or words at (pos 0) ≡ pos 0 → at ≡ first + length (get_or cs clause [])
  unfolding variable_of
  ends p l z = elim (le-or-lt (first + length (get_or cs clause [])) at) [
    | inl h ↦ omega (arith, i.within)
    | inr h ↦ (
        let c = get_or cs clause [] in
        let k : at - first < length c = omega (arith, i.from) in
        let w : get_or c (at - first) (pos 0) ≡ pos 0 =
        sym (word_at (at - first) (omega (arith, i.from)) ∙ word-inside cs clause (at-hand l) (at - first) k) ∙ z in
        let t = all-at (λ m. leb 1 (variable_of m)) c (at - first) (pos 0) (all-at _ cs clause [] p (at-hand l)) k in
        absurd (subst (λ (m : ℤ). T (leb 1 (variable_of m))) w t))
  ]

  -- and any other word is inside
  goes_on : at < length words → (get_or words at (pos 0) ≡ pos 0 → ⊥) → at < first + length (get_or cs clause [])
  goes_on l z = elim (le-or-lt (first + length (get_or cs clause [])) at) [
    | inl h ↦ (
        let e : at ≡ first + length (get_or cs clause []) = omega (arith, i.within) in
        absurd (z (word_at (length (get_or cs clause [])) e ∙ word-behind cs clause (at-hand l))))
    | inr h ↦ h
  ]

  -- so the next word is in the next clause
  pub indexing-closes : T (proper cs) → at < length words → get_or words at (pos 0) ≡ pos 0
      → Indexing cs starts₀ (set starts clause first) (at + 1) (clause + 1) (at + 1)
  indexing-closes p l z =
      let h = at-hand l in
      record {
        begins = omega (arith, ends p l z, i.begins, place-next cs clause h, ap (place_of cs) (add-one clause));
        from = omega arith;
        within = omega arith;
        stored = stored-front 0 i.stored (omega (arith, length-starts 0 cs)) (i.begins ∙ sym (start-at 0 cs clause h ∙ omega arith));
      }

  -- or in the same
  pub indexing-passes : at < length words → (get_or words at (pos 0) ≡ pos 0 → ⊥) → Indexing cs starts₀ starts first clause (at + 1)
  indexing-passes l z = record {
    begins = i.begins;
    from = omega (arith, i.from);
    within = omega (arith, goes_on l z);
    stored = i.stored;
  }

  -- behind the last word
  pub indexing-done : length words ≤ at → starts ≡ sets starts₀ 0 (starts_from 0 cs)
  indexing-done h = elim (le-or-lt (length cs) clause) [
    | inl l ↦ stored-done i.stored (omega (arith, length-starts 0 cs))
    | inr l ↦ (
        let no : ⊥ = omega (arith, ap length closed, i.begins, i.within, place-next cs clause l, place-most cs (suc clause)) in
        absurd no)
  ]
