-- A walk from the start over whole clauses gives their totals and the first that does not hold, and stores their words at the
-- output's front. Assumes nothing.
use mathlib.Core.Path.{◌≡◌, refl, sym, ap, ap₂, ◌∙◌}
use mathlib.Core.Bool.{Bool, true, false, ◌||◌, cond}
use mathlib.Core.Option.{some}
use Rattle.std.specs.Prelude.{Option, Some, None}
use Rattle.std.specs.Option.{option_or}
use Prim.Native.Nat.{ℕ, suc, ◌+◌, ◌≤◌}
use native.Mathlib.Omega.{arith}
use native.Mathlib.Nat.{add-zero, zero-add}
use native.Mathlib.Numerals.{add-one}
use mathlib.Core.List.{List, [], ◌∷◌, ◌++◌}
use lib.ListN.{length, set, drop, length-append}
use lib.Seq.{sets, sets-eq}
use lib.IntN.{ℤ, pos}
use lib.Dec.{T, leb}
use Rattle.laws.proofs.Tests.{and-iff}
use Rattle.laws.proofs.Rows.{all_cons}
use Rattle.spec.specs.Lists.{Bytes, all, any, each, one}
use Rattle.spec.specs.Formula.{Clause, words_of}
use Rattle.spec.specs.Assignment.{is_true, holds, assigned, first_false}
use Rattle.spec.specs.Refutation.{variable_of}
use Rattle.spec.specs.Entry.{overwrite}
use Rattle.demands.proofs.Words.{proper}
use Rattle.clauses.specs.declared.Tally.{Tally}
use Rattle.clauses.specs.Walked.{most, more, start, literal, closed_by, closed, word, walked, stored, first_told, totals}
use Rattle.clauses.proofs.Laws.{or-false, or_assoc, word-literal, walked-append}

-- a walk, by its four parts
abbrev walk : ℕ → ℕ → Bool → Option ℕ → Tally
walk words clauses h wrong = record { words = words; clauses = clauses; holds = h; wrong = wrong }

-- a count that does not reach its end
more-plain : (n k : ℕ) → n + k ≤ most → more n k ≡ n + k
unfolding more
more-plain n k h = omega arith

-- two walks with the same parts, between clauses
three : {words words' clauses clauses' : ℕ} {wrong wrong' : Option ℕ} → words ≡ words' → clauses ≡ clauses' → wrong ≡ wrong'
    → walk words clauses false wrong ≡ walk words' clauses' false wrong'
three e f g = simp (e, f, g)

-- a clause is closed
close-plain : (words n : ℕ) (wrong : Option ℕ) (h : Bool) → words + 1 ≤ most → n + 1 ≤ most
    → closed (walk words n h wrong) ≡ walk (words + 1) (suc n) false (cond h wrong (option_or wrong (Some (suc n))))
unfolding closed closed_by
close-plain words n wrong h room few =
    let e = more-plain n 1 few ∙ add-one n in
    three (more-plain words 1 room) e (ap (λ (k : ℕ). cond h wrong (option_or wrong (Some k))) e)

module _ (values : Bytes) where
  abbrev α : ℕ → Bool
  α = assigned values

  -- the literals of a clause
  literals : (c : Clause) → T (all (λ l. leb 1 (variable_of l)) c) → (words clauses : ℕ) (wrong : Option ℕ) (h : Bool) → words + length c ≤ most
      → walked values c (walk words clauses h wrong) ≡ walk (words + length c) clauses (h || holds α c) wrong
  unfolding walked holds any literal
  literals [] p words clauses wrong h room = ap₂ (λ (n : ℕ) (t : Bool). walk n clauses t wrong) (sym (add-zero words)) (sym (or-false h))
  literals (l ∷ c) p words clauses wrong h room =
      let q = simp (all_cons, and-iff) at p in
      let e : more words 1 ≡ words + 1 = more-plain words 1 (omega arith) in
      let n : words + 1 + length c ≡ words + suc (length c) = omega arith in
      ap (walked values c) (word-literal values l (walk words clauses h wrong) q.0)
      ∙ ap (λ (k : ℕ). walked values c (walk k clauses (h || is_true α l) wrong)) e
      ∙ literals c q.1 (words + 1) clauses wrong (h || is_true α l) (omega arith)
      ∙ ap₂ (λ (k : ℕ) (t : Bool). walk k clauses t wrong) n (or_assoc h (is_true α l) (any (is_true α) c))

  -- the first wrong clause, after clauses from number n on
  abbrev wrong_by : Option ℕ → ℕ → List Clause → Option ℕ
  wrong_by wrong n cs = option_or wrong (first_told (first_false α n cs))

  -- one clause more
  wrong-next : (wrong : Option ℕ) (n : ℕ) (c : Clause) (cs : List Clause)
      → wrong_by (cond (holds α c) wrong (option_or wrong (Some n))) (suc n) cs ≡ wrong_by wrong n (c ∷ cs)
  unfolding first_false first_told
  wrong-next wrong n c cs = go wrong (holds α c)
    where
      go : (o : Option ℕ) (t : Bool) → option_or (cond t o (option_or o (Some n))) (first_told (first_false α (suc n) cs))
          ≡ option_or o (first_told (elim t [ true ↦ first_false α (suc n) cs | false ↦ some n ]))
      go None true = refl
      go None false = refl
      go (Some k) true = refl
      go (Some k) false = refl

  -- whole clauses, from any walk between clauses
  clauses-walked : (cs : List Clause) → T (proper cs) → (words n : ℕ) (wrong : Option ℕ) → words + length (words_of cs) ≤ most → n ≤ words
      → walked values (words_of cs) (walk words n false wrong)
      ≡ walk (words + length (words_of cs)) (n + length cs) false (wrong_by wrong (suc n) cs)
  unfolding words_of each walked word closed closed_by first_false first_told
  clauses-walked [] p words n wrong room le =
      three (sym (add-zero words)) (sym (add-zero n)) (none-wrong wrong)
    where
      none-wrong : (o : Option ℕ) → o ≡ option_or o None
      none-wrong None = refl
      none-wrong (Some k) = refl
  clauses-walked (c ∷ cs) p words n wrong room le =
      let q = simp (all_cons, and-iff) at p in
      let size : length ((c ++ one (pos 0)) ++ words_of cs) ≡ length c + 1 + length (words_of cs) =
      length-append (c ++ one (pos 0)) (words_of cs) ∙ ap (λ (k : ℕ). k + length (words_of cs)) (length-append c (one (pos 0))) in
      let first : walked values (c ++ one (pos 0)) (walk words n false wrong)
      ≡ walk (words + length c + 1) (suc n) false (cond (holds α c) wrong (option_or wrong (Some (suc n)))) =
      walked-append values c (one (pos 0)) (walk words n false wrong)
      ∙ ap closed (literals c q.0 words n wrong false (omega (arith, size)))
      ∙ close-plain (words + length c) n wrong (holds α c) (omega (arith, size)) (omega (arith, size)) in
      walked-append values (c ++ one (pos 0)) (words_of cs) (walk words n false wrong)
      ∙ ap (walked values (words_of cs)) first
      ∙ clauses-walked cs q.1 (words + length c + 1) (suc n) _ (omega (arith, size)) (omega arith)
      ∙ three (omega (arith, size)) (omega arith) (wrong-next wrong (suc n) c cs)

  -- from the start
  pub totals-walked : (cs : List Clause) → T (proper cs) → length (words_of cs) ≤ most → walked values (words_of cs) start ≡ totals values cs
  unfolding start totals
  totals-walked cs p room = clauses-walked cs p 0 0 None (omega arith) (omega arith) ∙ three (omega arith) (omega arith) refl

-- ---- the output

-- words that do not reach the counter's end are stored one behind the other
pub stored-plain : (at : ℕ) (ls out : List ℤ) → at + length ls ≤ most → stored at ls out ≡ sets out at ls
unfolding stored
stored-plain at [] out room = refl
stored-plain at (l ∷ ls) out room =
    ap (λ (k : ℕ). stored k ls (set out at l)) (more-plain at 1 (omega arith) ∙ add-one at)
    ∙ stored-plain (suc at) ls (set out at l) (omega arith)

-- from the front on, where the output has room
pub stored-front : (ls out : List ℤ) → length ls ≤ most → length ls ≤ length out → stored 0 ls out ≡ overwrite out ls
unfolding overwrite
stored-front ls out room fits =
    stored-plain 0 ls out (omega arith) ∙ sets-eq ls out 0 (omega arith) ∙ ap (λ (k : ℕ). ls ++ drop k out) (zero-add (length ls))
