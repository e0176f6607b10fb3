-- What a clause does, literal by literal, is what the step rule says of it (`scanned`), and so a clause can be scanned where it
-- stands in the words: what is kept on the way (`Scanning`), and how each literal carries it on or ends it. Assumes nothing.
use mathlib.Core.Path.{◌≡◌, refl, sym, ap, ◌∙◌}
use mathlib.Core.Logic.{◌⊎◌, inl, inr}
use mathlib.Core.Bool.{Bool, not, ◌&&◌}
use mathlib.Core.List.{List, [], ◌∷◌, ◌++◌}
use mathlib.Core.Option.{Option, none, some}
use Prim.Native.Nat.{ℕ, zero, suc, ◌+◌, ◌≤◌, ◌<◌}
use native.Mathlib.Numerals.{add-one}
use native.Mathlib.Omega.{arith}
use lib.ListN.{length, get_or, drop, length-drop, length-append}
use lib.Seq.{drop-cons}
use lib.IntN.{ℤ, pos, negsuc}
use lib.Dec.{T, leb}
use mir.Syntax.{w32}
use mir.Val.{to_z, of_z}
use mir.Facts.{to_z-of_z}
use Rattle.spec.specs.Lists.{all, pick}
use Rattle.spec.specs.Formula.{Literal, Clause}
use Rattle.spec.specs.Assignment.{Value, open', yes', no', truth}
use Rattle.spec.specs.Refutation.{variable_of, Values, is_no, is_open, not_false, proves, makes, useless, hinted}
use Rattle.laws.proofs.Tests.{and-iff, leb-iff}
use Rattle.laws.proofs.Rows.{all_cons}
use Rattle.demands.proofs.Refuting.{passed, kept}
use Rattle.propagation.specs.declared.hints.Value.{Value as Answer}
use Rattle.propagation.specs.declared.hints.Value.TheVariants.{Open, Yes, No}
use Rattle.propagation.specs.Known.{answered, scan, found_in}

-- a value is one of three
by_value {ℓ} : {X : Type ℓ} (v : Value) → (v ≡ no' → X) → (v ≡ yes' → X) → (v ≡ open' → X) → X
by_value no' f g h = f refl
by_value yes' f g h = g refl
by_value open' f g h = h refl

module _ (k : Values) where
  -- a true literal is kept
  kept-yes : (l : Literal) (c : Clause) → truth k l ≡ yes' → not_false k (l ∷ c) ≡ l ∷ not_false k c
  unfolding is_no
  kept-yes l c e = kept k l c (ap (λ (v : Value). not (is_no v)) e)

  -- and so is an open one
  kept-open : (l : Literal) (c : Clause) → truth k l ≡ open' → not_false k (l ∷ c) ≡ l ∷ not_false k c
  unfolding is_no
  kept-open l c e = kept k l c (ap (λ (v : Value). not (is_no v)) e)

  -- a true literal is not made true, whatever is kept behind it
  true-useless : (l : Literal) (c : Clause) → truth k l ≡ yes' → hinted k (l ∷ c) ≡ useless
  unfolding hinted is_open
  true-useless l [] e = rw (e, hinted)
  true-useless l (m ∷ c) e = refl

  -- one literal of the scan: a false one is passed over
  scan-no : (o : Option Literal) (l : Literal) (c : Clause) → truth k l ≡ no' → scan k o (l ∷ c) ≡ scan k o c
  unfolding scan
  scan-no o l c e = rw (e, scan)

  -- a true one ends it
  scan-yes : (o : Option Literal) (l : Literal) (c : Clause) → truth k l ≡ yes' → scan k o (l ∷ c) ≡ useless
  unfolding scan
  scan-yes o l c e = rw (e, scan)

  -- the first open one is noted
  scan-open : (l : Literal) (c : Clause) → truth k l ≡ open' → scan k none (l ∷ c) ≡ scan k (some l) c
  unfolding scan
  scan-open l c e = rw (e, scan)

  -- and a second ends it
  scan-second : (u l : Literal) (c : Clause) → truth k l ≡ open' → scan k (some u) (l ∷ c) ≡ useless
  unfolding scan
  scan-second u l c e = rw (e, scan)

  -- the scan behind an open literal
  scanned-behind : (u : Literal) → truth k u ≡ open' → (c : Clause) → scan k (some u) c ≡ hinted k (u ∷ not_false k c)
  unfolding scan hinted not_false pick is_open
  scanned-behind u o [] = rw (o, hinted)
  scanned-behind u o (l ∷ c) = by_value (truth k l)
      (λ e. scan-no (some u) l c e ∙ scanned-behind u o c ∙ ap (λ (d : Clause). hinted k (u ∷ d)) (sym (passed k l c e)))
      (λ e. scan-yes (some u) l c e ∙ ap (λ (d : Clause). hinted k (u ∷ d)) (sym (kept-yes l c e)))
      (λ e. scan-second u l c e ∙ ap (λ (d : Clause). hinted k (u ∷ d)) (sym (kept-open l c e)))

-- the scan of a clause is what the clause does as a hint
pub scanned : (k : Values) (c : Clause) → scan k none c ≡ hinted k (not_false k c)
unfolding scan hinted not_false pick
scanned k [] = refl
scanned k (l ∷ c) = by_value (truth k l)
    (λ e. scan-no k none l c e ∙ scanned k c ∙ ap (hinted k) (sym (passed k l c e)))
    (λ e. scan-yes k none l c e ∙ sym (true-useless k l (not_false k c) e) ∙ ap (hinted k) (sym (kept-yes k l c e)))
    (λ e. scan-open k l c e ∙ scanned-behind k l e c ∙ ap (hinted k) (sym (kept-open k l c e)))

-- ---- the scan of a clause in the words

-- a literal of so many variables
abbrev pub within : ℕ → Literal → Bool
within vars l = leb 1 (variable_of l) && leb (variable_of l) vars

-- An open literal of so many variables, as the machine holds it.
pub record OpenOne (k : Values) (vars unit : ℕ) : Type 0 where
  pub low : 1 ≤ variable_of (to_z w32 unit)
  pub high : variable_of (to_z w32 unit) ≤ vars
  pub is_open : truth k (to_z w32 unit) ≡ open'

-- From the word at `at` on stands what is left of a clause, with its 0, and to scan that, with the open literal that was found,
-- is what the whole clause does. Where none was found, `unit` is 0.
pub record Scanning (words : List ℤ) (k : Values) (vars : ℕ) (c : Clause) (at unit : ℕ) : Type 0 where
  pub left : Clause
  pub behind : List ℤ
  pub here : drop at words ≡ left ++ (pos 0 ∷ behind)
  pub ranged : T (all (within vars) left)
  pub scans : scan k (found_in (to_z w32 unit)) left ≡ hinted k (not_false k c)
  pub found : (unit ≡ 0) ⊎ OpenOne k vars unit

-- A literal stands at `at`, and behind it the rest of the clause.
pub record Ahead (words : List ℤ) (k : Values) (vars : ℕ) (c : Clause) (at unit : ℕ) (l : Literal) : Type 0 where
  pub low : 1 ≤ variable_of l
  pub high : variable_of l ≤ vars
  pub after : Clause
  pub behind : List ℤ
  pub next : drop (at + 1) words ≡ after ++ (pos 0 ∷ behind)
  pub ranged : T (all (within vars) after)
  pub scans : scan k (found_in (to_z w32 unit)) (l ∷ after) ≡ hinted k (not_false k c)
  pub found : (unit ≡ 0) ⊎ OpenOne k vars unit

-- the word at `at`, and those behind it
word_at : (words : List ℤ) (at : ℕ) (w : ℤ) (ws : List ℤ) → drop at words ≡ w ∷ ws
    → (get_or words at (pos 0) ≡ w) × (drop (at + 1) words ≡ ws)
word_at words at w ws e =
    let h : at < length words = omega (arith, simp length-drop at (ap length e)) in
    let d = sym (drop-cons words at (pos 0) h) ∙ e in
    (cc, rw add-one (cc))

-- a literal of few variables is read as it was stored
literal-back : (l : ℤ) → variable_of l < 2147483648 → to_z w32 (of_z w32 l) ≡ l
unfolding variable_of
literal-back (pos n) h = to_z-of_z {w = w32} (record { sfits = h })
literal-back (negsuc n) h = to_z-of_z {w = w32} (record { sfits = omega arith })

-- a stored 0 is no literal
no-literal : (l : ℤ) → 1 ≤ variable_of l → variable_of l < 2147483648 → of_z w32 l ≡ 0 → ⊥
unfolding variable_of
no-literal l low few e =
    let z : pos 0 ≡ l = ap (to_z w32) (sym e) ∙ literal-back l few in
    let v = ap variable_of z in omega arith

-- what was found is a literal
found_some : (z : ℤ) → 1 ≤ variable_of z → found_in z ≡ some z
unfolding found_in variable_of
found_some (pos zero) h = let no : ⊥ = omega arith in absurd no
found_some (pos (suc v)) h = refl
found_some (negsuc v) h = refl

-- literals in range, the first and those behind it
range_cons : (vars : ℕ) (l : Literal) (c : Clause) → T (all (within vars) (l ∷ c))
    → (1 ≤ variable_of l) × (variable_of l ≤ vars) × T (all (within vars) c)
range_cons vars l c h = let p = simp (all_cons, and-iff, leb-iff) at h in (p.0.0, p.0.1, p.1)

-- where 0 stands at `at`, nothing of the clause is left
end-from : (words : List ℤ) (at vars : ℕ) (left : Clause) (behind : List ℤ) → drop at words ≡ left ++ (pos 0 ∷ behind)
    → T (all (within vars) left) → vars < 2147483648 → of_z w32 (get_or words at (pos 0)) ≡ 0 → left ≡ []
end-from words at vars [] behind e r few z = refl
end-from words at vars (l ∷ left) behind e r few z =
    let w = word_at words at l (left ++ (pos 0 ∷ behind)) e in
    let p = range_cons vars l left r in
    absurd (no-literal l p.0 (omega (arith, p.1)) (ap (of_z w32) (sym w.0) ∙ z))

-- what was found is an open literal, where it is not 0
pub open-one : {k : Values} {vars unit : ℕ} → (unit ≡ 0) ⊎ OpenOne k vars unit → (unit ≡ 0 → ⊥) → OpenOne k vars unit
open-one (inl e) n = absurd (n e)
open-one (inr o) n = o

-- and the scan has it
found-one : {k : Values} {vars unit : ℕ} → (unit ≡ 0) ⊎ OpenOne k vars unit → (unit ≡ 0 → ⊥)
    → found_in (to_z w32 unit) ≡ some (to_z w32 unit)
found-one {unit = unit} f n = found_some (to_z w32 unit) (open-one f n).low

module _ {words : List ℤ} {k : Values} {vars : ℕ} {c : Clause} {at unit : ℕ} where
  -- there is a word at `at`
  pub in_words : Scanning words k vars c at unit → at < length words
  in_words s = omega (arith, simp (length-drop, length-append) at (ap length s.here))

  -- a word that is not 0 is a literal
  ahead-from : (left : Clause) (behind : List ℤ) → drop at words ≡ left ++ (pos 0 ∷ behind) → T (all (within vars) left)
      → scan k (found_in (to_z w32 unit)) left ≡ hinted k (not_false k c) → (unit ≡ 0) ⊎ OpenOne k vars unit
      → (of_z w32 (get_or words at (pos 0)) ≡ 0 → ⊥) → Ahead words k vars c at unit (get_or words at (pos 0))
  ahead-from [] behind e r t f n = absurd (n (ap (of_z w32) (word_at words at (pos 0) behind e).0))
  ahead-from (l ∷ left) behind e r t f n =
      let w = word_at words at l (left ++ (pos 0 ∷ behind)) e in
      let p = range_cons vars l left r in
      rw w.0 (record { low = p.0; high = p.1; after = left; behind = behind; next = w.1; ranged = p.2; scans = t; found = f })

  -- so a literal stands at `at`
  pub ahead : Scanning words k vars c at unit → (of_z w32 (get_or words at (pos 0)) ≡ 0 → ⊥)
      → Ahead words k vars c at unit (get_or words at (pos 0))
  ahead s n = ahead-from s.left s.behind s.here s.ranged s.scans s.found n

  -- at the closing 0 the clause does what was found
  ended : Scanning words k vars c at unit → vars < 2147483648 → of_z w32 (get_or words at (pos 0)) ≡ 0
      → hinted k (not_false k c) ≡ scan k (found_in (to_z w32 unit)) []
  ended s few z =
      sym s.scans
      ∙ ap (scan k (found_in (to_z w32 unit))) (end-from words at vars s.left s.behind s.here s.ranged few z)

  -- with no open literal, it proves
  pub ends-proving : Scanning words k vars c at unit → vars < 2147483648 → of_z w32 (get_or words at (pos 0)) ≡ 0 → unit ≡ 0
      → hinted k (not_false k c) ≡ proves
  unfolding scan found_in
  ends-proving s few z e = ended s few z ∙ ap (λ (u : ℕ). scan k (found_in (to_z w32 u)) []) e

  -- with one open literal, it makes that true
  pub ends-making : Scanning words k vars c at unit → vars < 2147483648 → of_z w32 (get_or words at (pos 0)) ≡ 0 → (unit ≡ 0 → ⊥)
      → hinted k (not_false k c) ≡ makes (to_z w32 unit)
  unfolding scan
  ends-making s few z n = ended s few z ∙ ap (λ (o : Option Literal). scan k o []) (found-one s.found n)

  module _ {l : Literal} (a : Ahead words k vars c at unit l) where
    -- a literal of few variables is read as it was stored
    pub read_back : vars < 2147483648 → to_z w32 (of_z w32 l) ≡ l
    read_back few = literal-back l (omega (arith, a.high))

    -- a false literal is passed over
    pub passes : truth k l ≡ no' → Scanning words k vars c (at + 1) unit
    passes e = record {
      left = a.after;
      behind = a.behind;
      here = a.next;
      ranged = a.ranged;
      scans = sym (scan-no k (found_in (to_z w32 unit)) l a.after e) ∙ a.scans;
      found = a.found;
    }

    -- the first open one is noted
    pub notes : vars < 2147483648 → truth k l ≡ open' → unit ≡ 0 → Scanning words k vars c (at + 1) (of_z w32 l)
    unfolding found_in
    notes few e z =
        let b = read_back few in
        record {
          left = a.after;
          behind = a.behind;
          here = a.next;
          ranged = a.ranged;
          scans =
              ap (λ (x : Literal). scan k (found_in x) a.after) b
              ∙ ap (λ (o : Option Literal). scan k o a.after) (found_some l a.low)
              ∙ sym (scan-open k l a.after e)
              ∙ ap (λ (u : ℕ). scan k (found_in (to_z w32 u)) (l ∷ a.after)) (sym z)
              ∙ a.scans;
          found = inr (record { low = rw b a.low; high = rw b a.high; is_open = rw b e });
        }

    -- at a true literal the clause is of no use
    pub ends-true : truth k l ≡ yes' → hinted k (not_false k c) ≡ useless
    ends-true e = sym a.scans ∙ scan-yes k (found_in (to_z w32 unit)) l a.after e

    -- nor at a second open one
    pub ends-second : truth k l ≡ open' → (unit ≡ 0 → ⊥) → hinted k (not_false k c) ≡ useless
    ends-second e n =
        sym a.scans
        ∙ ap (λ (o : Option Literal). scan k o (l ∷ a.after)) (found-one a.found n)
        ∙ scan-second k (to_z w32 unit) l a.after e

-- a clause that begins at `at` is to be scanned whole
pub begins : {words : List ℤ} {k : Values} {vars : ℕ} {c : Clause} {at : ℕ} (behind : List ℤ) → drop at words ≡ c ++ (pos 0 ∷ behind)
    → T (all (within vars) c) → Scanning words k vars c at 0
unfolding found_in
begins {words} {k} {vars} {c} {at} behind e r =
    record { left = c; behind = behind; here = e; ranged = r; scans = scanned k c; found = inl refl }

-- ---- the answer to what a literal is

-- the truth value that an answer means
abbrev pub meant : Answer → Value
meant Open = open'
meant Yes = yes'
meant No = no'

-- an answer means the truth value that it answers
answer_back : (v : Value) → meant (answered v) ≡ v
answer_back open' = refl
answer_back yes' = refl
answer_back no' = refl

-- a truth value, by the answer that it is
pub value-told : (v : Value) {r s : Answer} → r ≡ answered v → r ≡ s → v ≡ meant s
value-told v e t = sym (answer_back v) ∙ ap meant (sym e ∙ t)
