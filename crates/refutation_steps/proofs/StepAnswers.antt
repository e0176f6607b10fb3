-- The verdict on a whole step, from what the tests of its lists of numbers give, and what a proved step leaves. The number of clauses
-- before it and their words are those that `Ready` counts. Assumes nothing.
use mathlib.Core.Path.{◌≡◌, sym, ap, ◌∙◌}
use mathlib.Core.Bool.{Bool, true, false, ◌&&◌}
use mathlib.Core.List.{List, ◌++◌}
use Prim.Native.Nat.{ℕ, ◌+◌, ◌-◌, ◌≤◌, ◌<◌}
use native.Mathlib.Omega.{arith}
use lib.ListN.{length, take, set, length-set}
use lib.Seq.{sets, length-sets, length-take-le}
use lib.IntN.{ℤ, pos}
use lib.Dec.{leb}
use borrow.Author.Tests.{le-leb, lt-leb}
use Rattle.std.specs.Prelude.{Ok, Option, Some}
use Rattle.laws.proofs.Tests.{and-false, from-true}
use Rattle.spec.specs.Lists.{Bytes, one, Verdict, accepted, refused}
use Rattle.spec.specs.Frames.{payload_of}
use Rattle.spec.specs.Formula.{Clause, words_of}
use Rattle.spec.specs.Refutation.{ProofStep, step_in, literals_fit, hints_fit, hint_bytes, clauses_fit, follows_rule, clauses_of, is_bad}
use Rattle.refutation_file.specs.Numbers.{number_count, numbers_in, literals_in}
use Rattle.refutation_file.specs.Found.{step_of, step_found, literal_bytes}
use Rattle.propagation.specs.Known.{LeftOnTrail}
use Rattle.refutation_steps.specs.Checked.{Ready, step_verdict, lent_by, Leaves}
use Rattle.refutation_file.specs.declared.steps.Step.{Step}
use Rattle.refutation_steps.specs.declared.one_step.Extent.{Extent}
use Rattle.refutation_file.proofs.NumberLists.{literals-length}
use Rattle.refutation_file.proofs.Found.{whole-step, literals-list, hints-list}
use Rattle.propagation.proofs.Lookup.{starts-length}
use Rattle.propagation.proofs.Adding.{kept-added}
use Rattle.refutation_steps.proofs.StepFaults.{room-one, literals-bad, hints-bad, no_room, rule-broken, proved}

-- A whole step x at the start of s, with its lists ls and hs, where the slices are ready for it.
pub record Given (filled : Extent) (x : Step) (words : List ℤ) (starts : List ℕ) (values : Bytes) (trail : List ℕ) (s ls hs : Bytes)
    : Type 0 where
  pub ready : Ready filled words starts values trail
  pub whole : step_found s ≡ Some x
  pub literal_list : ls ≡ literal_bytes (payload_of s)
  pub hint_list : hs ≡ hint_bytes (payload_of s)

pub given : {filled : Extent} {x : Step} {words : List ℤ} {starts : List ℕ} {values : Bytes} {trail : List ℕ} {s ls hs : Bytes} {o : Option Step}
    → Ready filled words starts values trail → o ≡ step_found s → o ≡ Some x → ls ≡ literal_bytes (payload_of s) → hs ≡ hint_bytes (payload_of s)
    → Given filled x words starts values trail s ls hs
given r f o l h = record { ready = r; whole = sym f ∙ o; literal_list = l; hint_list = h }

module _ (k : ℕ) {filled : Extent} {x : Step} {words : List ℤ} {starts : List ℕ} {values : Bytes} {trail : List ℕ} {s ls hs : Bytes}
    (g : Given filled x words starts values trail s ls hs) where
  -- the clauses before the step, the step, and the verdict that is to be given
  abbrev before : List Clause
  before = clauses_of (take filled.words words)

  abbrev step : ProofStep
  step = step_in (payload_of s)

  abbrev Answer : Verdict Step → Type 0
  Answer a = a ≡ step_verdict (length words) (length starts) (length values) before k s

  -- the clauses are counted
  counted : length before ≡ filled.clauses
  counted = sym (starts-length g.ready.kept) ∙ length-take-le filled.clauses starts g.ready.starts_room

  -- and so are their words
  worded : length (words_of before) ≡ filled.words
  worded = ap length (sym g.ready.kept.closed) ∙ length-take-le filled.words words g.ready.words_room

  -- the lists are the step's
  literals-are : step.literals ≡ literals_in ls
  literals-are = (literals-list s g.whole).0 ∙ ap literals_in (sym g.literal_list)

  hints-are : step.hints ≡ numbers_in hs
  hints-are = (hints-list s g.whole).0 ∙ ap numbers_in (sym g.hint_list)

  -- so many literals
  in_list : number_count ls ≡ x.literals
  in_list = omega (arith, ap length g.literal_list, (literals-list s g.whole).1)

  in_step : length step.literals ≡ x.literals
  in_step = ap length literals-are ∙ literals-length ls ∙ in_list

  said : step_of (payload_of s) ≡ x
  said = λ i. record { literals = (whole-step s g.whole).1 i; hints = (whole-step s g.whole).2 i }

  -- ---- the tests of the lists and the slices are those of the specification

  whole_is : is_bad s ≡ false
  whole_is = (whole-step s g.whole).0

  fits-as : literals_fit (length values) step.literals ≡ literals_fit (length values) (literals_in ls)
  fits-as = ap (literals_fit (length values)) literals-are

  known_as : hints_fit (length before + 1) step.hints ≡ hints_fit (filled.clauses + 1) (numbers_in hs)
  known_as = λ i. hints_fit (counted i + 1) (hints-are i)

  room_as : clauses_fit (lent_by (length words) (length starts)) (before ++ one step.literals)
      ≡ (leb (filled.words + (x.literals + 1)) (length words) && leb (filled.clauses + 1) (length starts))
  room_as =
      room-one (length words) (length starts) before step.literals
      ∙ (λ i. leb (worded i + (in_step i + 1)) (length words) && leb (counted i + 1) (length starts))

  abbrev ruled : Bool
  ruled = follows_rule before (record { literals = literals_in ls; hints = numbers_in hs })

  rule-as : follows_rule before step ≡ ruled
  rule-as = λ i. follows_rule before (record { literals = literals-are i; hints = hints-are i })

  -- ---- the answers

  -- 18
  pub refused-18 : {r : Bool} → r ≡ literals_fit (length values) (literals_in ls) → r ≡ false → Answer (refused 18 k)
  refused-18 e t = literals-bad _ _ _ _ k s whole_is (fits-as ∙ sym e ∙ t)

  module _ (fit : literals_fit (length values) (literals_in ls) ≡ true) where
    -- 19
    pub refused-19 : {r : Bool} → r ≡ hints_fit (filled.clauses + 1) (numbers_in hs) → r ≡ false → Answer (refused 19 k)
    refused-19 e t = hints-bad _ _ _ _ k s whole_is (fits-as ∙ fit) (known_as ∙ sym e ∙ t)

    module _ (known : hints_fit (filled.clauses + 1) (numbers_in hs) ≡ true) where
      refused-12 : (leb (filled.words + (x.literals + 1)) (length words) && leb (filled.clauses + 1) (length starts)) ≡ false → Answer (refused 12 0)
      refused-12 e = no_room _ _ _ _ k s whole_is (fits-as ∙ fit) (known_as ∙ known) (room_as ∙ e)

      -- 12, for want of words
      pub few_words : length words - filled.words ≤ x.literals → Answer (refused 12 0)
      few_words e = refused-12 (simp (lt-leb (filled.words + (x.literals + 1)) (length words) (omega (arith, g.ready.words_room))))

      -- 12, for want of an entry
      pub no-entry : length starts ≡ filled.clauses → Answer (refused 12 0)
      no-entry e = refused-12 (simp (lt-leb (filled.clauses + 1) (length starts) (omega arith), and-false))

  -- where there is room for the words
  pub words-room : x.literals < length words - filled.words → filled.words + (number_count ls + 1) ≤ length words
  words-room w = omega (arith, in_list)

  -- and for the entry
  pub entry-room : (length starts ≡ filled.clauses → ⊥) → filled.clauses < length starts
  entry-room e = omega (arith, g.ready.starts_room, e)

  module _ (fit : literals_fit (length values) (literals_in ls) ≡ true) (known : hints_fit (filled.clauses + 1) (numbers_in hs) ≡ true)
      (w : x.literals < length words - filled.words) (e : length starts ≡ filled.clauses → ⊥) where
    fitting : clauses_fit (lent_by (length words) (length starts)) (before ++ one step.literals) ≡ true
    fitting = room_as ∙ simp (
      le-leb (filled.words + (x.literals + 1)) (length words) (omega arith),
      le-leb (filled.clauses + 1) (length starts) (omega (arith, entry-room e)),
    )

    -- 20
    pub refused-20 : {r : Bool} → r ≡ ruled → r ≡ false → Answer (refused 20 k)
    refused-20 a t = rule-broken _ _ _ _ k s whole_is (fits-as ∙ fit) (known_as ∙ known) fitting (rule-as ∙ sym a ∙ t)

    -- no fault: the answer, and what the step leaves
    pub step-proved : {r : Bool} {words' : List ℤ} {starts' : List ℕ} {values' : Bytes} {trail' : List ℕ} → r ≡ ruled → r ≡ true
        → words' ≡ sets words filled.words (literals_in ls ++ one (pos 0)) → starts' ≡ set starts filled.clauses filled.words
        → values' ≡ values → length trail' ≡ length trail → LeftOnTrail (length values) trail trail'
        → Answer (accepted x) × Leaves (Ok x) s filled words starts values trail words' starts' values' trail'
    step-proved a t stored entered kept-values kept-length left =
        let r = g.ready in
        let stored' = stored ∙ ap (λ (c : Clause). sets words filled.words (c ++ one (pos 0))) (sym literals-are) in
        let p = rw in_step at (kept-added words starts step.literals r.kept r.words_room r.starts_room
        (from-true (fits-as ∙ fit)) (omega (arith, in_step)) (entry-room e)
        stored' entered) in (
          sym (ap accepted said)
              ∙ proved _ _ _ _ k s whole_is (fits-as ∙ fit) (known_as ∙ known) fitting (rule-as ∙ sym a ∙ t),
          (
            record {
              words_room = omega (arith, ap length stored, length-sets words filled.words (literals_in ls ++ one (pos 0)));
              starts_room = omega (arith, entry-room e, ap length entered, length-set starts filled.clauses filled.words);
              trail_room = rw kept-values (omega (arith, kept-length, r.trail_room));
              few = rw kept-values r.few;
              kept = rw kept-values p.0;
              all_open = rw kept-values r.all_open;
            },
            p.1,
            stored',
            entered,
            kept-values,
            left,
          ),
        )
