-- Clauses of two literals whose first literal is true: passing them one by one, into an output without room, is passing them at
-- once. Assumes nothing.
use mathlib.Core.Path.{◌≡◌, refl, sym, ap, ◌∙◌}
use mathlib.Core.Bool.{Bool, true, false, not, ◌||◌}
use Prim.Native.Nat.{ℕ, zero, suc, ◌+◌, ◌*◌, ◌-◌, ◌≤◌, ◌<◌}
use native.Mathlib.Omega.{arith}
use mathlib.Core.List.{List, ◌∷◌, map}
use lib.ListN.{set}
use lib.IntN.{ℤ, pos}
use Rattle.std.specs.Prelude.{Option}
use Rattle.spec.specs.Lists.{Bytes, count, range, each, one}
use Rattle.spec.specs.Formula.{not', words_of}
use Rattle.spec.specs.Assignment.{assigned}
use Rattle.demands.proofs.Meaning.{denied'}
use Rattle.clauses.specs.declared.Tally.{Tally}
use Rattle.clauses.specs.declared.Walk.{Walk}
use Rattle.clauses.specs.Walked.{more, literal, closed_by, closed, word, walked, stored, skipped, most, Passes}
use Rattle.clauses.proofs.Laws.{walked-append, more-more, stored-three}
use Rattle.clauses.proofs.Turns.{range-next, range-end}

-- some true literal
or-true : (a b : Bool) → a ≡ true → (a || b) ≡ true
or-true a b e = ap (λ (t : Bool). t || b) e

any-true : (a : Bool) → (a || true) ≡ true
any-true true = refl
any-true false = refl

-- a clause that holds leaves the first wrong one as it is
closed-held : (w : Tally) → w.holds ≡ true
    → closed w ≡ record { words = more w.words 1; clauses = more w.clauses 1; holds = false; wrong = w.wrong }
unfolding closed closed_by
closed-held w e = ap (λ (h : Bool). closed_by 1 h w) e

three : (words clauses : ℕ) (wrong : Option ℕ)
    → ◌≡◌ {A = Tally}
    (record { words = more (more (more words 1) 1) 1; clauses = more clauses 1; holds = false; wrong = wrong })
    (record { words = more words 3; clauses = more clauses 1; holds = false; wrong = wrong })
three words clauses wrong =
    let e : more (more (more words 1) 1) 1 ≡ more words 3 =
    ap (λ (n : ℕ). more n 1) (more-more words 1 1 2 refl) ∙ more-more words 2 1 3 refl in
    simp e

module _ (values : Bytes) (u : ℕ) (no : assigned values u ≡ false) where
  -- one clause
  one-pair : (v : ℕ) (w : Tally) → walked values (words_of (one (not' u ∷ one (not' v)))) w ≡ skipped 1 w
  unfolding words_of each walked word literal skipped
  one-pair v w =
      let h : (literal values (not' u) w).holds ≡ true =
      ap (λ (t : Bool). w.holds || t) (denied' (assigned values) u ∙ ap not no) ∙ any-true w.holds in
      closed-held (literal values (not' v) (literal values (not' u) w)) (or-true _ _ h)
      ∙ three w.words w.clauses w.wrong

  -- and more of them
  more-pairs : (k : ℕ) (w : Tally) → skipped k (skipped 1 w) ≡ skipped (suc k) w
  unfolding skipped
  more-pairs zero w = refl
  more-pairs (suc k) w =
      let e : more (more w.words 3) (3 * suc k) ≡ more w.words (3 * suc (suc k)) = more-more w.words 3 (3 * suc k) _ (omega arith) in
      let f : more (more w.clauses 1) (suc k) ≡ more w.clauses (suc (suc k)) = more-more w.clauses 1 (suc k) _ (omega arith) in
      simp (e, f)

  -- k clauses
  all-pairs : (from a k : ℕ) (w : Tally)
      → walked values (words_of (map (λ j. not' u ∷ one (not' (from + j))) (count a k))) w ≡ skipped k w
  unfolding words_of each count walked skipped
  all-pairs from a zero w = refl
  all-pairs from a (suc k) w =
      walked-append values (words_of (one (clause a))) (words_of (map clause (count (suc a) k))) w
      ∙ ap (walked values (words_of (map clause (count (suc a) k)))) (one-pair (from + a) w)
      ∙ all-pairs from (suc a) k (skipped 1 w)
      ∙ more-pairs k w
    where
      clause : ℕ → List ℤ
      clause j = not' u ∷ one (not' (from + j))

  -- a row of them, whatever the output
  pub counted-pairs : (from m n : ℕ) {w : Walk} {tally : Tally} {out : List ℤ} → tally ≡ skipped (n - m - 1) w.tally
      → out ≡ stored w.tally.words (words_of (map (λ k. not' u ∷ one (not' (from + k))) (range (m + 1) n))) w.out.now
      → w.values.now ≡ values
      → Passes (words_of (map (λ k. not' u ∷ one (not' (from + k))) (range (m + 1) n))) w
      (record w { out = record w.out { now = out }; tally = tally })
  unfolding range
  counted-pairs from m n {w} h o e =
      let k : n - m - 1 ≡ n - (m + 1) = omega arith in
      record {
        same_output = refl;
        same_values = refl;
        walks = record {
          walk = h ∙ ap (λ (j : ℕ). skipped j w.tally) k ∙ sym (rw e (all-pairs from (m + 1) (n - (m + 1)) w.tally));
          output = o;
        };
      }

-- ---- storing a row of them

-- the next clause of a row
pub stored-pair : (u from k n at : ℕ) (out : List ℤ) → k < n → at + 3 ≤ most
    → stored at (words_of (map (λ j. not' u ∷ one (not' (from + j))) (range k n))) out
    ≡ stored (at + 3) (words_of (map (λ j. not' u ∷ one (not' (from + j))) (range (k + 1) n)))
    (set (set (set out at (not' u)) (at + 1) (not' (from + k))) (at + 2) (pos 0))
unfolding words_of each
stored-pair u from k n at out l h =
    ap (λ (ks : List ℕ). stored at (words_of (map (λ j. not' u ∷ one (not' (from + j))) ks)) out) (range-next k n l)
    ∙ stored-three at (not' u) (not' (from + k)) (pos 0) _ out h

-- after the last
pub stored-all : (u from k n at : ℕ) (out : List ℤ) → n ≤ k
    → stored at (words_of (map (λ j. not' u ∷ one (not' (from + j))) (range k n))) out ≡ out
unfolding words_of each stored
stored-all u from k n at out l =
    ap (λ (ks : List ℕ). stored at (words_of (map (λ j. not' u ∷ one (not' (from + j))) ks)) out) (range-end k n l)
