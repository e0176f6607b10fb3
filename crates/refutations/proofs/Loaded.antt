-- The formula in slices that it is loaded into: where these have room it stands in front (`loaded-stands`), its words say its clauses
-- (`said`, `closed`), and the slices are ready for the steps (`ready`). Assumes nothing.
use mathlib.Core.Path.{◌≡◌, refl, sym, ap, ap₂, ◌∙◌, subst}
use mathlib.Core.Option.{Option}
use mathlib.Core.Bool.{Bool, true, cond}
use Prim.Native.Nat.{ℕ, zero, suc, ◌≤◌, ◌<◌}
use native.Mathlib.Omega.{arith}
use mathlib.Core.List.{List, ◌∷◌, ◌++◌}
use lib.ListN.{length, take}
use lib.Seq.{sets}
use lib.IntN.{ℤ}
use lib.Dec.{T}
use mathlib.Core.Logic.{◌↔◌}
use Rattle.laws.proofs.Tests.{and-iff, leb-iff, decide, true_of, false_of, denied-of, from_false}
use Rattle.spec.specs.Lists.{Bytes}
use Rattle.model.specs.declared.Book.{Book as BookStruct}
use Rattle.spec.specs.Held.{held}
use Rattle.spec.specs.Instance.{Instance, instance_of, under}
use Rattle.spec.specs.Formula.{Clause, formula, variables, words_of}
use Rattle.spec.specs.Entry.{zeroed}
use Rattle.spec.specs.Refutation.{clauses_of, clauses_fit, in_range}
use Rattle.clauses.specs.declared.Tally.{Tally}
use Rattle.clauses.specs.Walked.{start, Walks, most}
use Rattle.clauses.proofs.Totals.{stored-plain}
use Rattle.tables.proofs.MeetTables.{take-sets}
use Rattle.tables.specs.Tables.{Passed}
use Rattle.demands.proofs.Wellformed.{sound, sound-under}
use Rattle.demands.proofs.Words.{range-proper, words_back, formula-in-range}
use Rattle.formula.proofs.Totals.{walks_from, walk-words, walk-clauses, is-small}
use Rattle.propagation.specs.Kept.{starts_from}
use Rattle.propagation.proofs.Lookup.{length-starts}
use Rattle.propagation.proofs.Storing.{length-zeroed}
use Rattle.propagation.proofs.Adding.{kept_of}
use Rattle.refutation_steps.specs.declared.one_step.Extent.{Extent}
use Rattle.refutation_steps.specs.Checked.{Ready}
use Rattle.refutations.specs.Standing.{extent_of, has_room, words_loaded, starts_loaded, Stands}

-- the front of a zeroed slice
take-zeroed : {A : Type 0} (z : A) (k n : ℕ) → k ≤ n → take k (zeroed z n) ≡ zeroed z k
unfolding zeroed
take-zeroed z zero n h = refl
take-zeroed z (suc k) zero h = let none : ⊥ = omega arith in absurd none
take-zeroed {A} z (suc k) (suc n) h = ap (λ (xs : List A). z ∷ xs) (take-zeroed z k n (omega arith))

-- the words that a walk wrote to an output
pub words-written : (cs : List Clause) (out : List ℤ) {values : Bytes} {out' : List ℤ} {r : Tally} → length (words_of cs) ≤ most
    → Walks values (words_of cs) start out r out' → out' ≡ sets out 0 (words_of cs)
unfolding start
words-written cs out small h = h.output ∙ stored-plain 0 (words_of cs) out (omega arith)

module _ (I : Instance) (words : List ℤ) (starts : List ℕ) where
  abbrev Fits : Type 0
  Fits = (length (words_of (formula I)) ≤ length words) × (length (formula I) ≤ length starts)

  -- room, by numbers
  pub room-iff : T (has_room I words starts) ↔ Fits
  unfolding clauses_fit
  room-iff = ((λ h. simp (and-iff, leb-iff) at h), (λ h. simp (and-iff, leb-iff) h))

  abbrev words_by : Bool → List ℤ
  words_by room = cond room (sets words 0 (words_of (formula I))) words

  abbrev starts_by : Bool → List ℕ
  starts_by room = cond room (sets starts 0 (starts_from 0 (formula I))) starts

  -- with room, and without
  pub room : Fits → (words_loaded I words starts ≡ words_by true) × (starts_loaded I words starts ≡ starts_by true)
  room fits = let t = true_of (has_room I words starts) (room-iff.1 fits) in (ap words_by t, ap starts_by t)

  pub no_room : (Fits → ⊥) → (words_loaded I words starts ≡ words) × (starts_loaded I words starts ≡ starts)
  no_room none = let f = false_of (has_room I words starts) (λ h. none (room-iff.0 h)) in (ap words_by f, ap starts_by f)

  -- a formula that was loaded stands there
  pub loaded-stands : {words' : List ℤ} {starts' : List ℕ} → words' ≡ words_loaded I words starts → starts' ≡ starts_loaded I words starts
      → Stands I words' starts'
  loaded-stands ew es =
      decide (has_room I words starts)
      (λ h.
      let fits = room-iff.0 h in
      let size = length-starts 0 (formula I) in
      record {
        front = λ _. ap (take (length (words_of (formula I)))) (ew ∙ (room fits).0) ∙ take-sets words (words_of (formula I)) fits.0;
        begins = λ _.
            ap₂ take (sym size) (es ∙ (room fits).1) ∙ take-sets starts (starts_from 0 (formula I)) (omega (arith, fits.1, size));
      })
      (λ h.
      let f = denied-of (has_room I words starts) h in
      let none = from_false (ap₂ (has_room I) (ew ∙ ap words_by f) (es ∙ ap starts_by f) ∙ f) in
      record { front = λ r. absurd (none r); begins = λ r. absurd (none r) })

abbrev pub extent_by : ℕ → ℕ → Extent
extent_by words clauses = record { words = words; clauses = clauses }

-- the formula's literals are of its variables
pub in-variables : (b : BookStruct) (cap : Option ℕ) → Passed b → {n : ℕ} → n ≡ variables (under cap (instance_of (held b)))
    → T (in_range n (formula (under cap (instance_of (held b)))))
in-variables b cap p e =
    let I = under cap (instance_of (held b)) in
    subst (λ (n : ℕ). T (in_range n (formula I))) (sym e) (formula-in-range I (sound-under cap (sound (held b) p.formed)))

module _ (vars : ℕ) (cs : List Clause) (ranged : T (in_range vars cs)) where
  -- the words say which clauses they are
  pub said : {ws : List ℤ} → ws ≡ words_of cs → clauses_of ws ≡ cs
  said e = ap clauses_of e ∙ words_back cs (range-proper vars cs ranged)

  -- and are closed clauses
  pub closed : {ws : List ℤ} → ws ≡ words_of cs → ws ≡ words_of (clauses_of ws)
  closed e = e ∙ ap words_of (sym (said e))

  -- the words in front are the clauses', where each begins stands in front too, and the bytes of the variables were zeroed
  pub ready : (words : List ℤ) (starts trail : List ℕ) {filled : Extent} {n : ℕ} {values : Bytes}
      → filled.words ≡ length (words_of cs) → filled.clauses ≡ length cs → take (length (words_of cs)) words ≡ words_of cs
      → take (length cs) starts ≡ starts_from 0 cs → length (words_of cs) ≤ length words → length cs ≤ length starts
      → values ≡ zeroed 0 n → vars ≤ n → vars ≤ length trail → vars < 2147483648 → Ready filled words starts (take vars values) trail
  ready words starts trail {values = values} u k front begins w s z v t few =
      let open' : take vars values ≡ zeroed 0 vars = ap (take vars) z ∙ take-zeroed 0 vars _ v in
      let long : length (take vars values) ≡ vars = ap length open' ∙ length-zeroed 0 vars in
      record {
        words_room = omega (arith, u, w);
        starts_room = omega (arith, k, s);
        trail_room = omega (arith, t, long);
        few = omega (arith, few, long);
        kept = rw (long, u, k) (kept_of cs ranged front begins).0;
        all_open = open' ∙ ap (zeroed 0) (sym long);
      }

-- the formula of a book was measured, into an output without room
module _ (b : BookStruct) (p : Passed b) (cap : Option ℕ) (words : List ℤ) {values : Bytes} {none out : List ℤ} {m : Tally}
    (measured : Walks values (words_of (formula (under cap (instance_of (held b))))) start none m out) where
  abbrev loads : Instance
  loads = under cap (instance_of (held b))

  pub word_count : m.words ≡ length (words_of (formula loads))
  word_count = walk-words b p cap measured

  pub clause-count : m.clauses ≡ length (formula loads)
  clause-count = walk-clauses b p cap measured

  pub measured-extent : extent_by m.words m.clauses ≡ extent_of loads
  measured-extent = ap₂ extent_by word_count clause-count

  -- and then written into one with room
  module _ {values' : Bytes} {out' : List ℤ} {w : Tally} (unwritten : out ++ words ≡ words)
      (wrote : Walks values' (words_of (formula loads)) start (out ++ words) w out') (fits : length (words_of (formula loads)) ≤ length words) where
    pub were-written : out' ≡ sets words 0 (words_of (formula loads))
    were-written = words-written (formula loads) _ (is-small b p cap) (walks_from unwritten wrote)

    pub in-front : take m.words out' ≡ words_of (formula loads)
    in-front = ap₂ take word_count were-written ∙ take-sets words (words_of (formula loads)) fits

    pub are-said : clauses_of (take m.words out') ≡ formula loads
    are-said = said _ _ (in-variables b cap p refl) in-front
