-- The loop over a refutation's steps: what is known at a place of the file, and how the verdict on a step takes it on. The verdict on the
-- whole file is the verdict on what stands from the place on, by the clauses so far, and the clauses that it adds are those so far
-- and those that are added from there on. Assumes nothing.
use mathlib.Core.Path.{◌≡◌, refl, sym, ap, ◌∙◌, subst}
use mathlib.Core.Logic.{inl, inr}
use mathlib.Core.Bool.{true, false}
use Prim.Native.Nat.{ℕ, suc, ◌+◌, ◌-◌, ◌≤◌, ◌<◌}
use native.Mathlib.Omega.{arith}
use native.Mathlib.Numerals.{add-one}
use mathlib.Core.List.{List, [], ◌∷◌, ◌++◌, append-nil, append_assoc}
use lib.ListN.{length, take, drop, length-drop, length-append, drop_of_length-le}
use lib.Seq.{drop-drop}
use lib.IntN.{ℤ}
use lib.Dec.{eqb}
use borrow.Author.Tests.{eq-eqb, ne_eqb}
use Rattle.std.specs.Prelude.{Ok, Err}
use Rattle.model.specs.declared.refusals.Refusal.{Refusal}
use Rattle.model.specs.Refusals.{number_of, detail_of}
use Rattle.laws.proofs.Tests.{empty-length, le-or-lt}
use Rattle.spec.specs.Lists.{Bytes, one, each, empty, Verdict, accepted, refused}
use Rattle.spec.specs.Frames.{frame_head, payload_of, payload_length, behind, cut_short}
use Rattle.spec.specs.Formula.{Clause, words_of}
use Rattle.spec.specs.Refutation.{step_in, literal_count, check_steps, check_file, clauses_of, is_bad}
use Rattle.refutation_steps.specs.declared.one_step.Extent.{Extent}
use Rattle.refutation_file.specs.declared.steps.Step.{Step}
use Rattle.refutation_file.specs.Found.{step_bytes}
use Rattle.refutation_steps.specs.Checked.{Ready, one_more, lent_by, step_verdict, Leaves}
use Rattle.refutation_steps.proofs.StepFaults.{words-added, is-bad}
use Rattle.refutation_steps.specs.Added.{added_from, added, Adds, LeavesAll}
use Rattle.refutation_steps.proofs.Adding.{adds_none, adds-last, adds-more, nothing_yet, stays, grows}
use Rattle.refutation_steps.proofs.Walking as walking

differ : {a b : ℕ} → a ≤ b → (a ≡ b → ⊥) → a < b
differ {a} {b} l e = elim (le-or-lt b a) [ inl g ↦ absurd (e (omega arith)) | inr g ↦ g ]

-- whether bytes are left
some_left : (r : Bytes) (at : ℕ) → at < length r → empty (drop at r) ≡ false
some_left r at l = empty-length (drop at r) ∙ ap (λ (k : ℕ). eqb k 0) (length-drop at r) ∙ ne_eqb (length r - at) 0 (λ z. omega arith)

none_left : (r : Bytes) (at : ℕ) → length r ≤ at → empty (drop at r) ≡ true
none_left r at l =
    empty-length (drop at r) ∙ ap (λ (k : ℕ). eqb k 0) (length-drop at r) ∙ eq-eqb (length r - at) 0 (omega arith)

-- the file, and the slices as they were at first
module _ (r : Bytes) (filled₀ : Extent) (words₀ : List ℤ) (starts₀ : List ℕ) (values₀ : Bytes) (trail₀ : List ℕ) where
  -- the verdict on the whole file
  abbrev verdict : Verdict (Unit {0})
  verdict = check_file (lent_by (length words₀) (length starts₀)) (length values₀) (clauses_of (take filled₀.words words₀)) r

  -- the clauses that it adds
  abbrev total : List Clause
  total = added (length words₀) (length starts₀) (length values₀) (clauses_of (take filled₀.words words₀)) r

  -- what is promised of an answer, and of the slices then
  abbrev pub Promised : Verdict (Unit {0}) → List ℤ → List ℕ → Bytes → List ℕ → Type 0
  Promised a words starts values trail =
      (a ≡ verdict) × LeavesAll r filled₀ words₀ starts₀ values₀ trail₀ words starts values trail

  -- what is known at a place: the whole's verdict is the rest's, whatever fuel is left; the clauses so far were added to the slices,
  -- and the rest's are all others; the slices are ready for the next step
  pub record Along (words : List ℤ) (starts : List ℕ) (values : Bytes) (trail : List ℕ) (filled : Extent) (at number : ℕ) : Type 0 where
    pub fuel : ℕ
    pub enough : length r < at + fuel
    pub same : verdict
        ≡ check_steps (lent_by (length words₀) (length starts₀)) (length values₀) fuel number (clauses_of (take filled.words words))
        (drop at r)
    pub new : List Clause
    pub adds : Adds new filled₀ words₀ starts₀ values₀ trail₀ words starts values trail
    pub others : total
        ≡ new ++ added_from (length words₀) (length starts₀) (length values₀) fuel (clauses_of (take filled.words words)) (drop at r)
    pub words_now : filled.words ≡ filled₀.words + length (words_of new)
    pub clauses_now : filled.clauses ≡ filled₀.clauses + length new
    pub ready : Ready filled words starts values trail
    pub within : at ≤ length r
    pub steps : number ≤ at + 1
    pub words_length : length words ≡ length words₀
    pub starts_length : length starts ≡ length starts₀
    pub values_length : length values ≡ length values₀
    pub trail_length : length trail ≡ length trail₀

-- before the first step
pub sets-out : (r : Bytes) {words : List ℤ} {starts : List ℕ} {values : Bytes} {trail : List ℕ} {filled : Extent}
    → Ready filled words starts values trail → Along r filled words starts values trail words starts values trail filled 0 1
unfolding check_file added words_of each
sets-out r ready = record {
  fuel = suc (length r);
  enough = omega arith;
  same = refl;
  new = [];
  adds = nothing_yet;
  others = refl;
  words_now = omega arith;
  clauses_now = omega arith;
  ready = ready;
  within = omega arith;
  steps = omega arith;
  words_length = refl;
  starts_length = refl;
  values_length = refl;
  trail_length = refl;
}

module _ {r : Bytes} {filled₀ : Extent} {words₀ : List ℤ} {starts₀ : List ℕ} {values₀ : Bytes} {trail₀ : List ℕ}
    {words : List ℤ} {starts : List ℕ} {values : Bytes} {trail : List ℕ} {filled : Extent} {at number : ℕ}
    (a : Along r filled₀ words₀ starts₀ values₀ trail₀ words starts values trail filled at number) where
  -- the verdict on the whole file, and the clauses that it adds
  abbrev whole : Verdict (Unit {0})
  whole = verdict r filled₀ words₀ starts₀ values₀ trail₀

  abbrev every : List Clause
  every = total r filled₀ words₀ starts₀ values₀ trail₀

  -- how many words and clauses are lent, and how many variables there are
  abbrev W : ℕ
  W = length words₀

  abbrev C : ℕ
  C = length starts₀

  abbrev N : ℕ
  N = length values₀

  -- the clauses so far, and what stands from here on
  abbrev cs : List Clause
  cs = clauses_of (take filled.words words)

  abbrev s : Bytes
  s = drop at r

  -- what is promised where the check ends
  abbrev Ends : Verdict (Unit {0}) → List ℤ → List ℕ → Bytes → List ℕ → Type 0
  Ends x words' starts' values' trail' = Promised r filled₀ words₀ starts₀ values₀ trail₀ x words' starts' values' trail'

  -- the same, where these clauses were added
  ends : {x : Verdict (Unit {0})} {new : List Clause} {words' : List ℤ} {starts' : List ℕ} {values' : Bytes} {trail' : List ℕ}
      → x ≡ whole → every ≡ new
      → Adds new filled₀ words₀ starts₀ values₀ trail₀ words' starts' values' trail' → Ends x words' starts' values' trail'
  ends {words' = words'} {starts'} {values'} {trail'} v e d = (
    v,
    subst (λ (n : List Clause). Adds n filled₀ words₀ starts₀ values₀ trail₀ words' starts' values' trail') (sym e) d,
  )

  -- some fuel is left, and one less for what stands behind
  abbrev fuel' : ℕ
  fuel' = a.fuel - 1

  module _ (some-fuel : a.fuel ≡ suc fuel') where
    whole_here : whole ≡ check_steps (lent_by W C) N (suc fuel') number cs s
    whole_here = a.same ∙ ap (λ (f : ℕ). check_steps (lent_by W C) N f number cs s) some-fuel

    every_here : {ds : List Clause} → added_from W C N (suc fuel') cs s ≡ ds
        → every ≡ a.new ++ ds
    every_here e = a.others ∙ ap (λ (f : ℕ). a.new ++ added_from W C N f cs s) some-fuel ∙ ap (λ (ds : List Clause). a.new ++ ds) e

    -- nothing is added any more
    none_here : {n d : ℕ} → refused n d ≡ step_verdict W C N cs number s → every ≡ a.new
    none_here e = every_here (adds_none W C N fuel' cs s (walking.fault-is W C N cs number s e)) ∙ append-nil a.new

  module _ (l : at < length r) where
    fuelled : a.fuel ≡ suc fuel'
    fuelled = let e = a.enough in omega arith

    module _ {v : Verdict Step} (e : v ≡ step_verdict (length words) (length starts) (length values) cs number s) where
      answer : v ≡ step_verdict W C N cs number s
      answer = e ∙ (λ i. step_verdict (a.words_length i) (a.starts_length i) (a.values_length i) cs number s)

    -- a refused step ends the check
    pub stopped : (e : Refusal) {words' : List ℤ} {starts' : List ℕ} {values' : Bytes} {trail' : List ℕ}
        → refused (number_of e) (detail_of e) ≡ step_verdict (length words) (length starts) (length values) cs number s
        → Leaves (Err e) s filled words starts values trail words' starts' values' trail'
        → Ends (refused (number_of e) (detail_of e)) words' starts' values' trail'
    stopped e k leaves = ends
        (sym (whole_here fuelled ∙ walking.stops W C N cs number s (answer k) fuel' (some_left r at l)))
        (none_here fuelled (answer k)) (stays a.adds leaves.0 leaves.1 leaves.2 leaves.3)

    module _ {x : Step} (k : accepted x ≡ step_verdict (length words) (length starts) (length values) cs number s) where
      -- where a proved step's frame ends
      pub next : at + step_bytes x ≤ length r
      next = let f = walking.frame-length W C N cs number s (answer k) in omega (arith, f.0, f.1, length-drop at r)

      left : behind s ≡ drop (at + step_bytes x) r
      unfolding behind
      left =
          let f = walking.frame-length W C N cs number s (answer k) in
          drop-drop (frame_head + payload_length s) at r ∙ ap (λ (i : ℕ). drop (at + i) r) f.0

      said : literal_count (payload_of s) ≡ x.literals
      said = walking.literals-said W C N cs number s (answer k)

      -- its clause
      abbrev claimed : Clause
      claimed = (step_in (payload_of s)).literals

      module _ {words' : List ℤ} {starts' : List ℕ} {values' : Bytes} {trail' : List ℕ}
          (leaves : Leaves (Ok x) s filled words starts values trail words' starts' values' trail') where
        -- is added
        one_more_lem : Adds (a.new ++ one claimed) filled₀ words₀ starts₀ values₀ trail₀ words' starts' values' trail'
        one_more_lem = grows a.adds claimed a.words_now a.clauses_now leaves.2 leaves.3 leaves.4 leaves.5

        -- an empty step at the file's end
        pub ended : x.literals ≡ 0 → at + step_bytes x ≡ length r → Ends (accepted tt) words' starts' values' trail'
        ended z e = ends
            (sym (whole_here fuelled ∙ walking.ends W C N cs number s (answer k) fuel' (some_left r at l) z
            (ap empty left ∙ none_left r (at + step_bytes x) (omega arith))))
            (every_here fuelled (adds-last W C N fuel' cs s (walking.no-fault W C N cs number s (answer k)) (said ∙ z))) one_more_lem

        -- and before it
        pub trailed : x.literals ≡ 0 → (at + step_bytes x ≡ length r → ⊥) → Ends (refused 21 0) words' starts' values' trail'
        trailed z e = ends
            (sym (whole_here fuelled ∙ walking.trails W C N cs number s (answer k) fuel' (some_left r at l) z
            (ap empty left ∙ some_left r (at + step_bytes x) (differ next e))))
            (every_here fuelled (adds-last W C N fuel' cs s (walking.no-fault W C N cs number s (answer k)) (said ∙ z))) one_more_lem

        -- any other step: its clause stands behind those before it
        pub went_on : {to : ℕ} → (x.literals ≡ 0 → ⊥) → to ≡ at + step_bytes x → length words' ≡ length words → length starts' ≡ length starts
            → length values' ≡ length values → length trail' ≡ length trail
            → Along r filled₀ words₀ starts₀ values₀ trail₀ words' starts' values' trail' (one_more filled x.literals) to (number + 1)
        went_on {to} z there ew es ev et =
            let room = a.enough in
            let later = a.steps in
            let rest = left ∙ ap (λ (i : ℕ). drop i r) (sym there) in record {
              fuel = fuel';
              enough = omega arith;
              same = whole_here fuelled ∙ walking.goes_on W C N cs number s (answer k) fuel' (some_left r at l) z
                  ∙ (λ i. check_steps (lent_by W C) N fuel' (sym (add-one number) i) (sym leaves.1 i) (rest i));
              new = a.new ++ one claimed;
              adds = one_more_lem;
              others = every_here fuelled (adds-more W C N fuel' cs s (walking.no-fault W C N cs number s (answer k)) (λ e. z (sym said ∙ e)))
                  ∙ (λ i. a.new ++ (claimed ∷ added_from W C N fuel' (sym leaves.1 i) (rest i)))
                  ∙ sym (append_assoc a.new (one claimed) _);
              words_now = omega (arith, a.words_now, words-added a.new claimed, walking.counted W C N cs number s (answer k));
              clauses_now = omega (arith, a.clauses_now, length-append a.new (one claimed));
              ready = leaves.0;
              within = rw there next;
              steps = omega arith;
              words_length = ew ∙ a.words_length;
              starts_length = es ∙ a.starts_length;
              values_length = ev ∙ a.values_length;
              trail_length = et ∙ a.trail_length;
            }

  -- no step is left: an empty file is no step
  pub ran_out : length r ≤ at → Ends (refused 21 0) words starts values trail
  unfolding is_bad cut_short
  ran_out l =
      let e = a.enough in
      let f : a.fuel ≡ suc fuel' = omega arith in
      let bad : is_bad s ≡ true = ap is_bad (drop_of_length-le r l) in
      ends (sym (whole_here f ∙ walking.runs-out W C N cs number s fuel' (none_left r at l)))
      (none_here f (is-bad W C N cs number s bad)) a.adds
