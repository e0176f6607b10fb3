-- Refusals, the other way: where a reason of `Reasons` holds, the entry point refuses with that number and detail. So each entry
-- point refuses with a number and a detail exactly where document 01 says so, 12 with too little room among them. Assumes nothing.
use mathlib.Core.Path.{◌≡◌, refl, sym, ap, ◌∙◌}
use mathlib.Core.Logic.{◌↔◌, inl, inr}
use mathlib.Core.Bool.{Bool, true, false, not}
use mathlib.Core.Option.{Option, none, some}
use Prim.Native.Nat.{ℕ, zero, suc, ◌-◌, ◌≤◌, ◌<◌}
use native.Mathlib.Omega.{arith}
use mathlib.Core.List.{List}
use lib.ListN.{length}
use lib.Dec.{T, leb, T_not}
use Rattle.laws.proofs.Tests.{all-at, decide, denied-of, empty-length, eqb-iff, le-or-lt, true_of}
use Rattle.laws.proofs.Frames.{length-behind}
use Rattle.spec.specs.Lists.{Bytes, all, empty, first_fault, Verdict, accepted, refused, and_then}
use Rattle.spec.specs.Frames.{behind}
use Rattle.spec.specs.Book.{Book}
use Rattle.spec.specs.Instance.{Instance, instance_of, under}
use Rattle.spec.specs.Plan.{Plan, plan_fits, plan_of, plan_length, rule_faults, broken_rule}
use Rattle.spec.specs.Cap.{within_cap}
use Rattle.spec.specs.Formula.{Clause, formula, variables, words_of}
use Rattle.spec.specs.Assignment.{holds, satisfies, first_false, assigned, assignment_fits}
use Rattle.spec.specs.Refutation.{Lent, clause_at, step_faults, step_detail, check_steps, check_file}
use Rattle.spec.specs.Entry.{demand, find_none, write_formula, judge_assignment, check_assignment, unpacked_for, unpack_plan, judge_plan, check_plan, check_refutation, refuted_for, formula_fits, written_for}
use Rattle.demands.proofs.Faults.{passes, clear_first, holds-first}
use Rattle.demands.proofs.Refuting.{step_at, added}
use Rattle.demands.proofs.Entries.{accepted≢refused, demand-iff, then-goes, no_false, plan-iff, read_at, read_at_lem, under-is, of_plan, plan-checked, own_cap, plan-is}
use Rattle.demands.proofs.Reasons as reasons
use Rattle.demands.proofs.Reasons.{Refusal, of_book, of_room, of_input, short-iff, LeastFalse, least-false, AssignmentFault, assignment_unfit, clause_false, PlanFault, plan_unfit, rule_broken, AskedFault, plan_fault, own_fault, OverCap, over_cap, Nothing, StepsTo, first_step, next_step, RefutationFault, step_fault, no_ending, bytes_after, step-whole}

-- ---- the parts of a check

-- a row of checks refuses where its first does
pub stops : {A B : Type 0} {v : Verdict A} {k d : ℕ} (f : A → Verdict B) → v ≡ refused k d → and_then v f ≡ refused k d
unfolding and_then
stops f e = ap (λ w. and_then w f) e

-- a test that does not hold refuses
pub demand-no : (b : Bool) (n : ℕ) → T (not b) → demand b n ≡ refused n 0
unfolding demand
demand-no true n h = absurd h
demand-no false n h = refl

module _ (view : Book → Instance) (book : Bytes) (Short : Book → Type 0) (Input : Book → ℕ → ℕ → Type 0) where
  -- the book, the room, and the rest
  pub in_order : {A : Type 0} (room : Instance → Bool) (rest : Instance → Verdict A)
      → ((b : Book) → T (not (room (view b))) ↔ Short b) → ((b : Book) (k d : ℕ) → Input b k d → rest (view b) ≡ refused k d)
      → {k d : ℕ} → Refusal book Short Input k d
      → (and_then (read_at view book) λ I. and_then (demand (room I) 12) λ _. rest I) ≡ refused k d
  in_order room rest short input (of_book e) = stops _ (stops _ e)
  in_order room rest short input (of_room b read h) =
      then-goes _ (read_at_lem view book b read) ∙ stops _ (demand-no (room (view b)) 12 ((short b).1 h))
  in_order room rest short input (of_input {k} {d} b read long f) =
      let fits : T (room (view b)) = decide (room (view b)) (λ t. t) (λ t. absurd (long ((short b).0 t))) in
      then-goes _ (read_at_lem view book b read) ∙ then-goes _ ((demand-iff (room (view b)) 12).1 fits) ∙ input b k d f

-- ---- writing the formula

-- Refused exactly by the book, or by 12 where the formula has more words than the slice.
pub formula-refused : (cap : Option ℕ) (book : Bytes) (n k d : ℕ)
    → (write_formula cap book n ≡ refused k d)
    ↔ Refusal book (λ b. n < length (words_of (formula (under cap (instance_of b))))) (λ b k d. ⊥) k d
unfolding write_formula written_for
formula-refused cap book n k d = (
  reasons.formula-refusal cap book n k d,
  (λ r. under-is cap book _
      ∙ in_order (λ b. under cap (instance_of b)) book _ _ (λ I. leb (length (words_of (formula I))) n) _ (λ b. short-iff _ n) (λ b k d none. absurd none) r),
)

-- ---- checking an assignment

-- the least false clause is the one that is found
found-false : (α : ℕ → Bool) (cs : List Clause) (d : ℕ) → LeastFalse α cs d → first_false α 1 cs ≡ some d
unfolding clause_at satisfies
found-false α cs d l = go (first_false α 1 cs) refl
  where
    go : (o : Option ℕ) → first_false α 1 cs ≡ o → first_false α 1 cs ≡ some d
    go none e =
        let t = all-at (holds α) cs (d - 1) _ ((no_false α 1 cs).0 e) (omega (arith, l.from_one, l.up_to_last)) in
        absurd (T_not (holds α (clause_at cs d)) l.is_false t)
    go (some f) e =
        let m = least-false α cs f e in
        let same : f ≡ d = elim (le-or-lt f d) [
          | inl a ↦ elim (le-or-lt d f) [
            | inl b ↦ omega (arith, a, b)
            | inr b ↦ absurd (T_not (holds α (clause_at cs f)) m.is_false (l.lower_true f m.from_one b))
          ]
          | inr a ↦ absurd (T_not (holds α (clause_at cs d)) l.is_false (m.lower_true d l.from_one a))
        ] in
        e ∙ ap {B = Option ℕ} some same

-- 13 before 14
pub assignment-judged : (I : Instance) (s : Bytes) (k d : ℕ) → AssignmentFault I s k d → judge_assignment I s ≡ refused k d
unfolding judge_assignment find_none
assignment-judged I s k d (assignment_unfit h) = stops _ (demand-no (assignment_fits I s) 13 h)
assignment-judged I s k d (clause_false h f) =
    then-goes _ ((demand-iff (assignment_fits I s) 13).1 h) ∙ ap (λ o. find_none o 14) (found-false (assigned s) (formula I) d f)

-- Refused exactly by the book, or for what is wrong with the assignment: no slice is lent that could be short.
pub assignment-refused : (cap : Option ℕ) (book assignment : Bytes) (k d : ℕ)
    → (check_assignment cap book assignment ≡ refused k d) ↔ Refusal book (λ b. ⊥) (λ b. AssignmentFault (under cap (instance_of b)) assignment) k d
unfolding check_assignment demand and_then
assignment-refused cap book s k d = (
  reasons.assignment-refusal cap book s k d,
  (λ r. under-is cap book (λ I. judge_assignment I s)
      ∙ in_order (λ b. under cap (instance_of b)) book _ _ (λ I. true) (λ I. judge_assignment I s) (λ b. (λ h. h, λ h. h)) (λ b. assignment-judged _ s) r),
)

-- Refused exactly by the book, by 12 where the plan is longer than the slice, or for what is wrong with the assignment.
pub unpacking-refused : (cap : Option ℕ) (book assignment : Bytes) (n k d : ℕ)
    → (unpack_plan cap book assignment n ≡ refused k d)
    ↔ Refusal book (λ b. n < plan_length (instance_of b)) (λ b. AssignmentFault (under cap (instance_of b)) assignment) k d
unfolding unpack_plan unpacked_for plan_length
unpacking-refused cap book s n k d = (
  reasons.unpacking-refusal cap book s n k d,
  (λ r. under-is cap book _
      ∙ in_order (λ b. under cap (instance_of b)) book _ _ (λ I. leb (plan_length I) n) _ (λ b. short-iff _ n)
      (λ b k d f. stops _ (assignment-judged _ s k d f)) r),
)

-- ---- checking a plan

-- 15 before 16
plan-judged : (I : Instance) (s : Bytes) (k d : ℕ) → PlanFault I s k d → judge_plan I s ≡ refused k d
unfolding judge_plan broken_rule find_none
plan-judged I s k d (plan_unfit h) = stops _ (demand-no (plan_fits I s) 15 h)
plan-judged I s k d (rule_broken h f) =
    then-goes _ ((demand-iff (plan_fits I s) 15).1 h) ∙ ap (λ o. find_none o 16) (holds-first d (rule_faults I (plan_of I s)) f)

-- What is asked of a plan is refused exactly by the book, by 12 where the result is longer than the slice, for what is wrong with the plan, or
-- by a number of its own.
pub asked-refused : (view : Book → Instance) (need : Instance → ℕ) (own : Instance → Plan → Verdict Bytes)
    (Own : Book → Plan → ℕ → ℕ → Type 0) (book plan : Bytes) (n k d : ℕ)
    → ((b : Book) (p : Plan) (k d : ℕ) → (own (view b) p ≡ refused k d) ↔ Own b p k d)
    → (of_plan view need own book plan n ≡ refused k d) ↔ Refusal book (λ b. n < need (view b)) (λ b. AskedFault (view b) plan (Own b)) k d
asked-refused view need own Own book s n k d owns = (
  reasons.written-refusal view need own Own book s n k d (λ b p. (owns b p k d).0),
  (λ r. plan-checked view need own book s n
      ∙ in_order view book _ _ (λ I. leb (need I) n) (λ I. and_then (judge_plan I s) λ _. own I (plan_of I s)) (λ b. short-iff (need (view b)) n) faulty r),
)
  where
    faulty : (b : Book) (k d : ℕ) → AskedFault (view b) s (Own b) k d → (and_then (judge_plan (view b) s) λ _. own (view b) (plan_of (view b) s)) ≡ refused k d
    faulty b k d (plan_fault f) = stops _ (plan-judged (view b) s k d f)
    faulty b k d (own_fault fits keeps f) = then-goes _ ((plan-iff (view b) s).1 (fits, keeps)) ∙ (owns b (plan_of (view b) s) k d).1 f

-- Where it has no number of its own, exactly by the book, by 12, or for what is wrong with the plan.
pub written-refused : (need : Instance → ℕ) (result : Instance → Plan → Bytes) (book plan : Bytes) (n k d : ℕ)
    → (of_plan instance_of need (λ I p. accepted (result I p)) book plan n ≡ refused k d)
    ↔ Refusal book (λ b. n < need (instance_of b)) (λ b. PlanFault (instance_of b) plan) k d
written-refused need result book s n k d =
    let w = asked-refused instance_of need (λ I p. accepted (result I p)) (λ b. Nothing) book s n k d
    (λ b p k d. ((λ e. accepted≢refused e), λ h. absurd h)) in
    ((λ e. plain (w.0 e)), λ r. w.1 (asked r))
  where
    fault : (b : Book) {k d : ℕ} → AskedFault (instance_of b) s Nothing k d → PlanFault (instance_of b) s k d
    fault b (plan_fault f) = f
    fault b (own_fault fits keeps none₀) = absurd none₀

    plain : {k d : ℕ} → Refusal book (λ b. n < need (instance_of b)) (λ b. AskedFault (instance_of b) s Nothing) k d
        → Refusal book (λ b. n < need (instance_of b)) (λ b. PlanFault (instance_of b) s) k d
    plain (of_book e) = of_book e
    plain (of_room b read h) = of_room b read h
    plain (of_input b read long f) = of_input b read long (fault b f)

    asked : {k d : ℕ} → Refusal book (λ b. n < need (instance_of b)) (λ b. PlanFault (instance_of b) s) k d
        → Refusal book (λ b. n < need (instance_of b)) (λ b. AskedFault (instance_of b) s Nothing) k d
    asked (of_book e) = of_book e
    asked (of_room b read h) = of_room b read h
    asked (of_input b read long f) = of_input b read long (plan_fault f)

-- Its assignment, by 22 where it sets more than the cap.
pub plan-refused : (cap : Option ℕ) (book plan : Bytes) (n k d : ℕ)
    → (check_plan cap book plan n ≡ refused k d)
    ↔ Refusal book (λ b. n < variables (under cap (instance_of b)))
    (λ b. AskedFault (under cap (instance_of b)) plan (OverCap (under cap (instance_of b)))) k d
plan-refused cap book s n k d =
    let w = asked-refused (λ b. under cap (instance_of b)) variables own_cap (λ b. OverCap (under cap (instance_of b))) book s n k d (λ b p k d. over (under cap (instance_of b)) p k d) in
    let e = plan-is cap book s n in
    ((λ h. w.0 (sym e ∙ h)), λ h. e ∙ w.1 h)
  where
    over : (I : Instance) (p : Plan) (k d : ℕ) → (own_cap I p ≡ refused k d) ↔ OverCap I p k d
    over I p k d = (reasons.cap-refused I p k d, back k d)
      where
        back : (k d : ℕ) → OverCap I p k d → own_cap I p ≡ refused k d
        back k d (over_cap h) = stops _ (demand-no (within_cap I p) 22 h)

-- ---- checking a refutation

module _ (lent : Lent) (vars : ℕ) (fuel step : ℕ) (cs : List Clause) (s : Bytes) where
  -- one step of the check: at the file's end, at a step of which a condition holds, and behind a step of which none does
  at-end : T (empty s) → check_steps lent vars (suc fuel) step cs s ≡ refused 21 0
  unfolding check_steps
  at-end h = rw (true_of (empty s) h, check_steps) refl

  at-fault : (k : ℕ) → T (not (empty s)) → first_fault (step_faults lent vars cs s) ≡ some k
      → check_steps lent vars (suc fuel) step cs s ≡ refused k (step_detail k step)
  unfolding check_steps
  at-fault k h q = rw (denied-of (empty s) h, check_steps, q) refl

  -- what stands behind a step of which no condition holds is shorter
  behind-clear : T (all passes (step_faults lent vars cs s)) → T (not (empty s)) × (length (behind s) < length s)
  behind-clear clear =
      let w = length-behind s (step-whole lent vars cs s cs s clear) in (
        decide (empty s)
            (λ t. let z = (eqb-iff (length s) 0).0 (rw (empty-length s) at t) in absurd (omega (arith, w, z)))
            (λ t. t),
        omega (arith, w),
      )

  at_last : T (all passes (step_faults lent vars cs s)) → T (empty (step_at s).literals) → T (not (empty (behind s)))
      → check_steps lent vars (suc fuel) step cs s ≡ refused 21 0
  unfolding check_steps
  at_last clear t b =
      rw (denied-of (empty s) (behind-clear clear).0, check_steps, clear_first _ clear, true_of (empty (step_at s).literals) t, denied-of (empty (behind s)) b) refl

  at_more : T (all passes (step_faults lent vars cs s)) → T (not (empty (step_at s).literals))
      → check_steps lent vars (suc fuel) step cs s ≡ check_steps lent vars fuel (suc step) (added cs s) (behind s)
  unfolding check_steps
  at_more clear t =
      rw (denied-of (empty s) (behind-clear clear).0, check_steps, clear_first _ clear, denied-of (empty (step_at s).literals) t) refl

module _ (lent : Lent) (vars : ℕ) (cs₀ : List Clause) (file : Bytes) where
  -- the check of the file is the check from this step on, with fuel enough
  record Onward (step : ℕ) (cs : List Clause) (s : Bytes) : Type 0 where
    fuel : ℕ
    enough : length s ≤ fuel
    same : check_file lent vars cs₀ file ≡ check_steps lent vars (suc fuel) step cs s

  onward : {step : ℕ} {cs : List Clause} {s : Bytes} → StepsTo lent vars cs₀ file step cs s → Onward step cs s
  unfolding check_file
  onward first_step = record { fuel = length file; enough = omega arith; same = refl }
  onward (next_step {step} {cs} {s} c clear more) =
      let o = onward c in
      let shorter = (behind-clear lent vars 0 step cs s clear).1 in
      go o.fuel (omega (arith, o.enough, shorter)) o.same
    where
      go : (fuel : ℕ) → suc (length (behind s)) ≤ fuel → check_file lent vars cs₀ file ≡ check_steps lent vars (suc fuel) step cs s
          → Onward (suc step) (added cs s) (behind s)
      go zero l e = absurd (omega (arith, l))
      go (suc fuel) l e = record { fuel = fuel; enough = omega (arith, l); same = e ∙ at_more lent vars (suc fuel) step cs s clear more }

  pub file-refused : (k d : ℕ) → RefutationFault lent vars cs₀ file k d → check_file lent vars cs₀ file ≡ refused k d
  file-refused k d (step_fault {k = number} {step} {cs} {s} c h f) =
      let o = onward c in o.same ∙ at-fault lent vars o.fuel step cs s number h (holds-first number _ f)
  file-refused k d (no_ending {step} {cs} {s} c h) = let o = onward c in o.same ∙ at-end lent vars o.fuel step cs s h
  file-refused k d (bytes_after {step} {cs} {s} c clear t b) =
      let o = onward c in o.same ∙ at_last lent vars o.fuel step cs s clear t b

-- Refused exactly by the book, by 12 where the formula does not fit the slices, or for what is wrong with the refutation: by 12 too
-- at the first step that does not fit.
pub refutation-refused : (cap : Option ℕ) (book refutation : Bytes) (lent : Lent) (k d : ℕ)
    → (check_refutation cap book refutation lent ≡ refused k d)
    ↔ Refusal book (λ b. T (not (formula_fits lent (under cap (instance_of b)))))
    (λ b. RefutationFault lent (variables (under cap (instance_of b))) (formula (under cap (instance_of b))) refutation) k d
unfolding check_refutation refuted_for
refutation-refused cap book s lent k d = (
  reasons.refutation-refusal cap book s lent k d,
  (λ r. under-is cap book _
      ∙ in_order (λ b. under cap (instance_of b)) book _ _ (formula_fits lent) _ (λ b. (λ h. h, λ h. h))
      (λ b. let I = under cap (instance_of b) in file-refused lent (variables I) (formula I) s) r),
)
