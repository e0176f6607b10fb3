-- Refusals of the entry points, from arbitrary bytes: each is given only where a condition stated for its number holds and none
-- that is tried before it, with the detail that document 01 names. Assumes nothing.
use mathlib.Core.Path.{◌≡◌, refl, sym, ◌∙◌}
use mathlib.Core.Logic.{◌↔◌, ◌⊎◌, inl, inr}
use mathlib.Core.Bool.{Bool, true, false, not, ◌||◌}
use mathlib.Core.Option.{Option, none, some}
use Prim.Native.Nat.{ℕ, zero, suc, ◌+◌, ◌-◌, ◌<◌}
use native.Mathlib.Omega.{arith}
use mathlib.Core.List.{List, [], ◌∷◌}
use lib.ListN.{length, get_or}
use lib.Dec.{T, leb, nleb→lt, T_not, not_T, leb→le}
use Rattle.laws.proofs.Tests.{neither-iff, and-iff, or-iff, leb-iff, decide, true_of, denied-of}
use Rattle.laws.proofs.Frames.{length-behind}
use Rattle.spec.specs.Lists.{Bytes, all, empty, Fault, first_fault, Verdict, accepted, refused, and_then}
use Rattle.spec.specs.Frames.{Format, book_format, Kind, head_kind, node_kind, segment_kind, join_kind, train_kind, call_kind, unbreakable_kind, end_kind, kind_field, kind_order, find_kind, payload_of, behind, cut_short}
use Rattle.spec.specs.Book.{Book}
use Rattle.spec.specs.Read.{between, read_as, read_book, frame_faults, kind_faults, content_faults, book_faults}
use Rattle.spec.specs.Instance.{Instance, instance_of, under}
use Rattle.spec.specs.Plan.{Plan, plan_fits, plan_of, plan_length, broken_rule}
use Rattle.spec.specs.Cap.{within_cap}
use Rattle.spec.specs.Formula.{Clause, formula, variables, words_of}
use Rattle.spec.specs.Assignment.{holds, first_false, assigned, assignment_fits}
use Rattle.spec.specs.Refutation.{Lent, clause_at, step_faults, check_steps, check_file, is_bad}
use Rattle.spec.specs.Entry.{demand, find_none, read_under, write_formula, formula_text, judge_assignment, check_assignment, unpacked_for, unpack_plan, judge_plan, check_plan, check_refutation, refuted_for, formula_fits, written_for}
pub use Rattle.demands.specs.Reasons.{Refusal, of_book, of_room, of_input, LeastFalse, AssignmentFault, assignment_unfit, clause_false, PlanFault, plan_unfit, rule_broken, AskedFault, plan_fault, own_fault, OverCap, over_cap, Nothing, StepsTo, first_step, next_step, RefutationFault, step_fault, no_ending, bytes_after, Within}
use Rattle.demands.proofs.Faults.{passes, FirstHolds, first-none, first_some, first_passes}
use Rattle.demands.proofs.Reading.{as-refused, refusal-has-reason}
use Rattle.demands.proofs.Refuting.{step_at, added}
use Rattle.demands.proofs.Entries.{accepted≢refused, demand-iff, plan-iff, read_at, read_under_lem, under-is, instance-read, of_plan, plan-checked, own_cap, plan-is}

-- ---- the parts of a check

-- a row of checks refuses where its first does, or where that accepts and the rest refuses
pub then-refused : {A B : Type 0} {k d : ℕ} (v : Verdict A) (f : A → Verdict B) → and_then v f ≡ refused k d
    → (v ≡ refused k d) ⊎ ((a : A) × (v ≡ accepted a) × (f a ≡ refused k d))
unfolding and_then
then-refused (accepted a) f e = inr (a, refl, e)
then-refused (refused n d) f e = inl (cc)

-- a test that refuses has its number and detail 0, and does not hold
pub demand-refused : {k d : ℕ} (b : Bool) (n : ℕ) → demand b n ≡ refused k d → T (not b) × (k ≡ n) × (d ≡ 0)
unfolding demand
demand-refused true n e = accepted≢refused e
demand-refused false n e = (tt, cc, cc)

-- a search that refuses has its number, and what was found as the detail
find-refused : {k d : ℕ} (o : Option ℕ) (n : ℕ) → find_none o n ≡ refused k d → (o ≡ some d) × (k ≡ n)
unfolding find_none
find-refused none n e = accepted≢refused e
find-refused (some m) n e = (cc, cc)

-- a refusal has one number and one detail
same-refusal : {A : Type 0} {m f k d : ℕ} (P : ℕ → ℕ → Type 0) → ◌≡◌ {A = Verdict A} (refused m f) (refused k d) → P m f → P k d
same-refusal {m = m} {f} {k} {d} P e p = let a : m ≡ k = cc in let b : f ≡ d = cc in rw (← a, ← b) p

-- a slice that is not long enough is shorter
pub short-iff : (m n : ℕ) → T (not (leb m n)) ↔ (n < m)
short-iff m n = (nleb→lt m n, λ h. not_T (leb m n) (λ t. let l = leb→le m n t in omega arith))

-- ---- the order of the entry points

module _ (view : Book → Instance) (book : Bytes) (Short : Book → Type 0) (Input : Book → ℕ → ℕ → Type 0) where
  -- a refused book, with detail 0
  instance-refused : {k d : ℕ} → read_at view book ≡ refused k d → Refusal book Short Input k d
  instance-refused {k} {d} e =
      elim (then-refused (read_book book) _ e)
      [ inl r ↦ (let z = (refusal-has-reason book k d r).0 in rw z (of_book (rw z at r))) | inr r ↦ accepted≢refused r.2 ]

  -- the book, the room, and the rest
  pub in_order : {A : Type 0} (room : Instance → Bool) (rest : Instance → Verdict A) {k d : ℕ}
      → ((b : Book) → T (not (room (view b))) ↔ Short b) → ((b : Book) → rest (view b) ≡ refused k d → Input b k d)
      → (and_then (read_at view book) λ I. and_then (demand (room I) 12) λ _. rest I) ≡ refused k d → Refusal book Short Input k d
  in_order room rest {k} {d} short input e =
      elim (then-refused (read_at view book) _ e) [
        | inl r ↦ instance-refused r
        | inr r ↦ (let i = instance-read view book r.0 r.1 in behind-book i.0 i.1 (rw i.2 at r.2))
      ]
    where
      behind-book : (b : Book) → read_book book ≡ accepted b
          → (and_then (demand (room (view b)) 12) λ _. rest (view b)) ≡ refused k d → Refusal book Short Input k d
      behind-book b read e =
          elim (then-refused (demand (room (view b)) 12) _ e) [
            | inl r ↦ (let q = demand-refused (room (view b)) 12 r in rw (q.1, q.2) (of_room b read ((short b).0 q.0)))
            | inr r ↦
                of_input b read (λ h. T_not (room (view b)) ((short b).1 h) ((demand-iff (room (view b)) 12).0 r.1))
                (input b r.2)
          ]

-- a judgement, and what is then written
pub judged-refused : {A : Type 0} {k d : ℕ} (v : Verdict (Unit {0})) (a : A) → (and_then v λ _. accepted a) ≡ refused k d → v ≡ refused k d
judged-refused v a e = elim (then-refused v (λ _. accepted a) e) [ inl r ↦ r | inr r ↦ accepted≢refused r.2 ]

-- bytes that do not fit, or something found in them: the two parts of judging an assignment or a plan
judge-refused : {k d : ℕ} (fits : Bool) (found : Option ℕ) (m n : ℕ)
    → (and_then (demand fits m) λ _. find_none found n) ≡ refused k d
    → (T (not fits) × (k ≡ m) × (d ≡ 0)) ⊎ (T fits × (found ≡ some d) × (k ≡ n))
judge-refused fits found m n e =
    elim (then-refused (demand fits m) _ e) [
      | inl r ↦ inl (demand-refused fits m r)
      | inr r ↦ (let q = find-refused found n r.2 in inr ((demand-iff fits m).0 r.1, q.0, q.1))
    ]

-- ---- writing the formula

-- Refused only by the book, or by 12 where the formula has more words than the slice; the detail is 0.
pub formula-refusal : (cap : Option ℕ) (book : Bytes) (n k d : ℕ) → write_formula cap book n ≡ refused k d
    → Refusal book (λ b. n < length (words_of (formula (under cap (instance_of b))))) (λ b k d. ⊥) k d
unfolding write_formula written_for
formula-refusal cap book n k d e =
    in_order (λ b. under cap (instance_of b)) book _ _ (λ I. leb (length (words_of (formula I))) n) _ (λ b. short-iff _ n)
    (λ b r. accepted≢refused r) (sym (under-is cap book _) ∙ e)

-- The formula's text is refused only so too.
pub text-refusal : (cap : Option ℕ) (book : Bytes) (n k d : ℕ) → formula_text cap book n ≡ refused k d
    → Refusal book (λ b. n < length (words_of (formula (under cap (instance_of b))))) (λ b k d. ⊥) k d
unfolding formula_text
text-refusal cap book n k d e =
    elim (then-refused (write_formula cap book n) _ e) [
      | inl r ↦ formula-refusal cap book n k d r
      | inr r ↦ elim (then-refused (read_under cap book) _ r.2)
          [ inl q ↦ instance-refused (λ b. under cap (instance_of b)) book _ _ (sym (read_under_lem cap book) ∙ q) | inr q ↦ accepted≢refused q.2 ]
    ]

-- ---- checking an assignment

-- the clause that is found, by its place from 0
first-false : (α : ℕ → Bool) (n d : ℕ) (cs : List Clause) → first_false α n cs ≡ some d
    → (i : ℕ) × (d ≡ n + i) × (i < length cs) × T (not (holds α (get_or cs i []))) × ((j : ℕ) → j < i → T (holds α (get_or cs j [])))
unfolding first_false
first-false α n d [] e = let z : ◌≡◌ {A = ℕ} 0 1 = cc in absurd (omega arith)
first-false α n d (c ∷ cs) e = decide (holds α c)
    (λ h. let r = first-false α (suc n) d cs (rw (true_of (holds α c) h, first_false) at e) in
    (suc r.0, omega arith, omega arith, r.3, lower h r.0 r.4))
    (λ h. let q = rw (denied-of (holds α c) h, first_false) at e in
    let s : n ≡ d = cc in
    (0, omega arith, omega arith, h, λ j l. absurd (omega arith)))
  where
    lower : T (holds α c) → (i : ℕ) → ((j : ℕ) → j < i → T (holds α (get_or cs j []))) → (j : ℕ) → j < suc i → T (holds α (get_or (c ∷ cs) j []))
    lower h i f zero l = h
    lower h i f (suc j) l = f j (omega arith)

-- and by its number from 1
pub least-false : (α : ℕ → Bool) (cs : List Clause) (d : ℕ) → first_false α 1 cs ≡ some d → LeastFalse α cs d
unfolding clause_at
least-false α cs d e =
    let r = first-false α 1 d cs e in
    let i : d - 1 ≡ r.0 = omega arith in
    record { from_one = omega arith; up_to_last = omega arith; is_false = rw i r.3; lower_true = λ f a b. r.4 (f - 1) (omega arith) }

-- 13 before 14
pub assignment-fault : {k d : ℕ} (I : Instance) (s : Bytes) → judge_assignment I s ≡ refused k d → AssignmentFault I s k d
unfolding judge_assignment
assignment-fault {d = d} I s e =
    elim (judge-refused (assignment_fits I s) (first_false (assigned s) 1 (formula I)) 13 14 e)
    [ inl r ↦ rw (r.1, r.2) (assignment_unfit r.0) | inr r ↦ rw r.2 (clause_false r.0 (least-false (assigned s) (formula I) d r.1)) ]

-- Refused only by the book, or for what is wrong with the assignment: no slice is lent that could be short.
pub assignment-refusal : (cap : Option ℕ) (book assignment : Bytes) (k d : ℕ) → check_assignment cap book assignment ≡ refused k d
    → Refusal book (λ b. ⊥) (λ b. AssignmentFault (under cap (instance_of b)) assignment) k d
unfolding check_assignment demand and_then
assignment-refusal cap book s k d e =
    in_order (λ b. under cap (instance_of b)) book _ _ (λ I. true) (λ I. judge_assignment I s) (λ b. (λ h. h, λ h. h)) (λ b r. assignment-fault _ s r)
    (sym (under-is cap book (λ I. judge_assignment I s)) ∙ e)

-- Refused only by the book, by 12 where the plan is longer than the slice, or for what is wrong with the assignment.
pub unpacking-refusal : (cap : Option ℕ) (book assignment : Bytes) (n k d : ℕ) → unpack_plan cap book assignment n ≡ refused k d
    → Refusal book (λ b. n < plan_length (instance_of b)) (λ b. AssignmentFault (under cap (instance_of b)) assignment) k d
unfolding unpack_plan unpacked_for plan_length
unpacking-refusal cap book s n k d e =
    in_order (λ b. under cap (instance_of b)) book _ _ (λ I. leb (plan_length I) n) _ (λ b. short-iff _ n)
    (λ b r. assignment-fault _ s (judged-refused (judge_assignment (under cap (instance_of b)) s) _ r)) (sym (under-is cap book _) ∙ e)

-- ---- checking a plan

-- 15 before 16
plan-fault : {k d : ℕ} (I : Instance) (s : Bytes) → judge_plan I s ≡ refused k d → PlanFault I s k d
unfolding judge_plan broken_rule
plan-fault {d = d} I s e =
    elim (judge-refused (plan_fits I s) (broken_rule I (plan_of I s)) 15 16 e)
    [ inl r ↦ rw (r.1, r.2) (plan_unfit r.0) | inr r ↦ rw r.2 (rule_broken r.0 (first_some d _ r.1)) ]

-- What is asked of a plan is refused only by the book, by 12 where the result is longer than the slice, for what is wrong with the plan, or
-- by a number of its own.
pub written-refusal : (view : Book → Instance) (need : Instance → ℕ) (own : Instance → Plan → Verdict Bytes)
    (Own : Book → Plan → ℕ → ℕ → Type 0) (book plan : Bytes) (n k d : ℕ)
    → ((b : Book) (p : Plan) → own (view b) p ≡ refused k d → Own b p k d)
    → of_plan view need own book plan n ≡ refused k d → Refusal book (λ b. n < need (view b)) (λ b. AskedFault (view b) plan (Own b)) k d
written-refusal view need own Own book s n k d owns e =
    in_order view book _ _ (λ I. leb (need I) n) (λ I. and_then (judge_plan I s) λ _. own I (plan_of I s)) (λ b. short-iff (need (view b)) n)
    (λ b r. elim (then-refused (judge_plan (view b) s) _ r) [
      | inl q ↦ plan_fault (plan-fault (view b) s q)
      | inr q ↦ (let j = (plan-iff (view b) s).0 q.1 in own_fault j.0 j.1 (owns b _ q.2))
    ]) (sym (plan-checked view need own book s n) ∙ e)

-- 22: the plan sets more than the cap
pub cap-refused : (I : Instance) (p : Plan) (k d : ℕ) → own_cap I p ≡ refused k d → OverCap I p k d
cap-refused I p k d r = elim (then-refused (demand (within_cap I p) 22) _ r) [
  | inl q ↦ (let z = demand-refused (within_cap I p) 22 q in rw (z.1, z.2) (over_cap z.0))
  | inr q ↦ accepted≢refused q.2
]

-- So its assignment, by 22.
pub plan-refusal : (cap : Option ℕ) (book plan : Bytes) (n k d : ℕ) → check_plan cap book plan n ≡ refused k d
    → Refusal book (λ b. n < variables (under cap (instance_of b)))
    (λ b. AskedFault (under cap (instance_of b)) plan (OverCap (under cap (instance_of b)))) k d
plan-refusal cap book s n k d e =
    written-refusal (λ b. under cap (instance_of b)) variables own_cap (λ b. OverCap (under cap (instance_of b))) book s n k d
    (λ b p r. cap-refused (under cap (instance_of b)) p k d r) (sym (plan-is cap book s n) ∙ e)

-- ---- checking a refutation

module _ (lent : Lent) (vars : ℕ) (cs₀ : List Clause) (file : Bytes) where
  abbrev Wrong : ℕ → ℕ → Type 0
  Wrong = RefutationFault lent vars cs₀ file

  -- a step of which no condition holds is a whole frame
  pub step-whole : (cs : List Clause) (s : Bytes) → T (all passes (step_faults lent vars cs s)) → T (not (cut_short s))
  unfolding step_faults is_bad all passes
  step-whole cs s h = let p = simp (and-iff, neither-iff) at h in p.0.0.0

  -- the check from any step that it comes to; each frame has four bytes at least, so there is fuel enough
  steps-fault : {k d : ℕ} (fuel step : ℕ) (cs : List Clause) (s : Bytes) → length s < fuel → StepsTo lent vars cs₀ file step cs s
      → check_steps lent vars fuel step cs s ≡ refused k d → Wrong k d
  unfolding check_steps
  steps-fault zero step cs s l c e = absurd (omega arith)
  steps-fault {k} {d} (suc fuel) step cs s l c e =
      decide (empty s)
      (λ h. same-refusal Wrong (rw (true_of (empty s) h, check_steps) at e) (no_ending c h))
      (λ h. found h (first_fault (step_faults lent vars cs s)) refl (steps-fault fuel (suc step) (added cs s) (behind s)))
    where
      found : T (not (empty s)) → (o : Option ℕ) → first_fault (step_faults lent vars cs s) ≡ o
          → (length (behind s) < fuel → StepsTo lent vars cs₀ file (suc step) (added cs s) (behind s)
          → check_steps lent vars fuel (suc step) (added cs s) (behind s) ≡ refused k d → Wrong k d)
          → Wrong k d
      found h (some n) q next =
          same-refusal Wrong (rw (denied-of (empty s) h, check_steps, q) at e) (step_fault c h (first_some n _ q))
      found h none q next =
          let clear = first-none _ q in
          let w = length-behind s (step-whole cs s clear) in
          let r = rw (denied-of (empty s) h, check_steps, q) at e in
          let is_last = empty (step_at s).literals in
          decide is_last
          (λ t. decide (empty (behind s))
          (λ b. accepted≢refused (rw (true_of is_last t, true_of (empty (behind s)) b) at r))
          (λ b. same-refusal Wrong (rw (true_of is_last t, denied-of (empty (behind s)) b) at r) (bytes_after c clear t b)))
          (λ t. next (omega arith) (next_step c clear t) (rw (denied-of is_last t) at r))

-- A file of steps is refused only for what is wrong with it.
pub file-fault : (lent : Lent) (vars : ℕ) (cs : List Clause) (file : Bytes) (k d : ℕ) → check_file lent vars cs file ≡ refused k d
    → RefutationFault lent vars cs file k d
unfolding check_file
file-fault lent vars cs file k d e = steps-fault lent vars cs file (suc (length file)) 1 cs file (omega arith) first_step e

-- Refused only by the book, by 12 where the formula does not fit the slices, or for what is wrong with the refutation.
pub refutation-refusal : (cap : Option ℕ) (book refutation : Bytes) (lent : Lent) (k d : ℕ) → check_refutation cap book refutation lent ≡ refused k d
    → Refusal book (λ b. T (not (formula_fits lent (under cap (instance_of b)))))
    (λ b. RefutationFault lent (variables (under cap (instance_of b))) (formula (under cap (instance_of b))) refutation) k d
unfolding check_refutation refuted_for
refutation-refusal cap book s lent k d e =
    in_order (λ b. under cap (instance_of b)) book _ _ (formula_fits lent) _ (λ b. (λ h. h, λ h. h))
    (λ b r. let I = under cap (instance_of b) in file-fault lent (variables I) (formula I) s k d r)
    (sym (under-is cap book _) ∙ e)

-- ---- the numbers of refusals

-- a test that the number of each line passes is passed by the number that is found
numbered : (p : ℕ → Bool) (n : ℕ) (fs : List Fault) → T (all (λ f. p f.number) fs) → FirstHolds n fs → T (p n)
numbered p n fs h r = first_passes (λ f. p f.number) n fs h r

-- A book is refused by 1 to 11, in every format.
pub as_number : (F : Format) (book : Bytes) (k d : ℕ) → read_as F book ≡ refused k d → Within 1 11 k
unfolding frame_faults kind_faults content_faults book_faults between all
as_number F book k d e =
    let r = (as-refused F book k d e).1 in
    bounds (elim r.3 [
      | inl h ↦ numbered (between 1 11) k _ (kinds r.0.book (find_kind (kind_field r.1) kind_order) (payload_of r.1)) h
      | inr h ↦ numbered (between 1 11) k _ tt h.2
    ])
  where
    kinds : (b : Book) (o : Option Kind) (p : Bytes) → T (all (λ f. between 1 11 f.number) (kind_faults F b o p))
    kinds b none p = tt
    kinds b (some head_kind) p = tt
    kinds b (some node_kind) p = tt
    kinds b (some segment_kind) p = tt
    kinds b (some join_kind) p = tt
    kinds b (some train_kind) p = tt
    kinds b (some call_kind) p = tt
    kinds b (some unbreakable_kind) p = tt
    kinds b (some end_kind) p = tt

    bounds : T (between 1 11 k) → Within 1 11 k
    bounds t = simp (and-iff, leb-iff) at t

pub read_number : (book : Bytes) (k d : ℕ) → read_book book ≡ refused k d → Within 1 11 k
unfolding read_book
read_number book k d e = as_number book_format book k d e

-- by book and room: 1 to 12; the rest is the second input's
pub number_of : {book : Bytes} {Short : Book → Type 0} {Input : Book → ℕ → ℕ → Type 0} {k d : ℕ} → Refusal book Short Input k d
    → Within 1 12 k ⊎ ((b : Book) × Input b k d)
number_of {book} (of_book {k} e) = let r = read_number book k 0 e in inl (omega arith, omega arith)
number_of (of_room b read h) = inl (omega arith, omega arith)
number_of (of_input b read h f) = inr (b, f)

-- Writing the formula is refused by 1 to 12.
pub formula-number : (cap : Option ℕ) (book : Bytes) (n k d : ℕ) → write_formula cap book n ≡ refused k d → Within 1 12 k
formula-number cap book n k d e = elim (number_of (formula-refusal cap book n k d e)) [ inl w ↦ w | inr f ↦ absurd f.1 ]

-- what is wrong with an assignment is 13 or 14
pub fault-number : {I : Instance} {s : Bytes} {k d : ℕ} → AssignmentFault I s k d → Within 13 14 k
fault-number (assignment_unfit h) = (omega arith, omega arith)
fault-number (clause_false h f) = (omega arith, omega arith)

judged-number : {book : Bytes} {Input : Book → ℕ → ℕ → Type 0} {k d : ℕ} → Refusal book (λ b. ⊥) Input k d
    → Within 1 11 k ⊎ ((b : Book) × Input b k d)
judged-number {book} (of_book {k} r) = inl (read_number book k 0 r)
judged-number (of_room b read h) = absurd h
judged-number (of_input b read h f) = inr (b, f)

-- An assignment that is judged is refused by 1 to 11, 13 or 14: never by 12.
pub assignment-number : (cap : Option ℕ) (book assignment : Bytes) (k d : ℕ) → check_assignment cap book assignment ≡ refused k d
    → Within 1 11 k ⊎ Within 13 14 k
assignment-number cap book s k d e =
    elim (judged-number (assignment-refusal cap book s k d e)) [ inl w ↦ inl w | inr f ↦ inr (fault-number f.1) ]

-- A plan's unpacking is refused by 1 to 14.
pub unpacking-number : (cap : Option ℕ) (book assignment : Bytes) (n k d : ℕ) → unpack_plan cap book assignment n ≡ refused k d → Within 1 14 k
unpacking-number cap book s n k d e =
    elim (number_of (unpacking-refusal cap book s n k d e)) [
      | inl w ↦ (omega arith, omega arith)
      | inr f ↦ (let w = fault-number f.1 in (omega arith, omega arith))
    ]

-- what is wrong with a plan is 15 or 16
plan-fault-number : {I : Instance} {s : Bytes} {k d : ℕ} → PlanFault I s k d → Within 15 16 k
plan-fault-number (plan_unfit h) = (omega arith, omega arith)
plan-fault-number (rule_broken h f) = (omega arith, omega arith)

-- What is written of a plan and has no number of its own is refused by 1 to 12, 15 or 16.
pub written-number : (view : Book → Instance) (need : Instance → ℕ) (result : Instance → Plan → Bytes) (book plan : Bytes) (n k d : ℕ)
    → of_plan view need (λ I p. accepted (result I p)) book plan n ≡ refused k d → Within 1 12 k ⊎ Within 15 16 k
written-number view need result book s n k d e =
    elim (number_of (written-refusal view need (λ I p. accepted (result I p)) (λ b. Nothing) book s n k d (λ b p r. accepted≢refused r) e))
    [ inl w ↦ inl w | inr f ↦ inr (own f.1) ]
  where
    own : {I : Instance} {k d : ℕ} → AskedFault I s Nothing k d → Within 15 16 k
    own (plan_fault f) = plan-fault-number f
    own (own_fault fits keeps none₀) = absurd none₀

-- A plan that is written as an assignment is refused by 1 to 12, 15, 16 or 22.
pub plan-number : (cap : Option ℕ) (book plan : Bytes) (n k d : ℕ) → check_plan cap book plan n ≡ refused k d
    → Within 1 12 k ⊎ (Within 15 16 k ⊎ (k ≡ 22))
plan-number cap book s n k d e = elim (number_of (plan-refusal cap book s n k d e)) [ inl w ↦ inl w | inr f ↦ inr (own f.0 f.1) ]
  where
    own : (b : Book) {k d : ℕ} → AskedFault (under cap (instance_of b)) s (OverCap (under cap (instance_of b))) k d → Within 15 16 k ⊎ (k ≡ 22)
    own b (plan_fault f) = inl (plan-fault-number f)
    own b (own_fault fits keeps (over_cap h)) = inr refl

-- what is wrong with a file of steps is 1 to 12 or 17 to 21
pub file-number : {lent : Lent} {vars : ℕ} {cs : List Clause} {file : Bytes} {k d : ℕ} → RefutationFault lent vars cs file k d
    → Within 1 12 k ⊎ Within 17 21 k
unfolding step_faults all between
file-number (step_fault {k} c h f) =
    elim ((or-iff (between 1 12 k) (between 17 21 k)).0 (numbered (λ n. between 1 12 n || between 17 21 n) k _ tt f))
    [ inl t ↦ inl (simp (and-iff, leb-iff) at t) | inr t ↦ inr (simp (and-iff, leb-iff) at t) ]
file-number (no_ending c h) = inr (omega arith, omega arith)
file-number (bytes_after c h t b) = inr (omega arith, omega arith)

-- A refutation is refused by 1 to 12 or 17 to 21.
pub refutation-number : (cap : Option ℕ) (book refutation : Bytes) (lent : Lent) (k d : ℕ) → check_refutation cap book refutation lent ≡ refused k d
    → Within 1 12 k ⊎ Within 17 21 k
refutation-number cap book s lent k d e =
    elim (number_of (refutation-refusal cap book s lent k d e)) [ inl w ↦ inl w | inr f ↦ file-number f.1 ]
