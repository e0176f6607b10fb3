-- What it means that an entry point accepts: each check in its row has passed. Assumes nothing.
use mathlib.Core.Path.{◌≡◌, refl, sym, ap, ◌∙◌}
use mathlib.Core.Logic.{◌↔◌}
use mathlib.Core.Bool.{Bool, true, false}
use mathlib.Core.Option.{Option, none, some}
use Prim.Native.Nat.{ℕ, suc, ◌≤◌}
use native.Mathlib.Omega.{arith}
use mathlib.Core.List.{List, [], ◌∷◌}
use lib.ListN.{length}
use lib.Dec.{T, leb}
use Rattle.laws.proofs.Tests.{and-iff, leb-iff, true_of, decide, denied-of}
use Rattle.spec.specs.Lists.{Bytes, all, Verdict, accepted, refused, and_then, faultless}
use Rattle.spec.specs.Instance.{Instance, instance_of, under}
use Rattle.spec.specs.Book.{Book}
use Rattle.spec.specs.Read.{read_book}
use Rattle.spec.specs.Plan.{Plan, plan_fits, plan_of, plan_length, rule_faults, broken_rule, keeps_rules}
use Rattle.spec.specs.Cap.{within_cap}
use Rattle.spec.specs.Formula.{Clause, formula, variables, words_of}
use Rattle.spec.specs.Assignment.{satisfies, holds, first_false, assigned, assignment_fits, decode, encode}
use Rattle.spec.specs.Refutation.{Lent, check_file}
use Rattle.spec.specs.Entry.{demand, find_none, read_instance, read_under, Written, formula_written, write_formula, judge_assignment, check_assignment, unpacked_for, unpack_plan, judge_plan, encoded_for, after_plan, check_plan, check_refutation, refuted_for, formula_fits, written_for}
use Rattle.demands.proofs.Faults.{first-none, clear_first}

-- ---- the parts of a check

-- nothing is both accepted and refused
pub accepted≢refused : {A : Type 0} {a : A} {n d : ℕ} {X : Type 0} → accepted a ≡ refused n d → X
accepted≢refused p = let z : ◌≡◌ {A = ℕ} 0 1 = cc in let no' : ⊥ = omega arith in absurd no'

-- what was accepted is one result
pub result-is : {A : Type 0} {x y : A} → accepted x ≡ accepted y → x ≡ y
result-is e = cc

-- a row of checks accepts where its first does and the rest does
pub then-accepted : {A B : Type 0} (v : Verdict A) (f : A → Verdict B) (b : B) → and_then v f ≡ accepted b
    → (a : A) × (v ≡ accepted a) × (f a ≡ accepted b)
unfolding and_then
then-accepted (accepted a) f b e = (a, refl, e)
then-accepted (refused n d) f b e = accepted≢refused (sym e)

pub then-goes : {A B : Type 0} {v : Verdict A} {a : A} (f : A → Verdict B) → v ≡ accepted a → and_then v f ≡ f a
unfolding and_then
then-goes {B = B} f e = ap (λ w. and_then w f) e

-- a check of two parts and what comes behind it
then-assoc : {A B C : Type 0} (v : Verdict A) (f : A → Verdict B) (g : B → Verdict C)
    → and_then (and_then v f) g ≡ and_then v (λ a. and_then (f a) g)
unfolding and_then
then-assoc (accepted a) f g = refl
then-assoc (refused n d) f g = refl

-- The book's instance as an entry point goes on from it: under a cap, or without one, which is the book's own.
abbrev pub read_at : (Book → Instance) → Bytes → Verdict Instance
read_at view book = and_then (read_book book) λ b. accepted (view b)

pub read_under_lem : (cap : Option ℕ) (book : Bytes) → read_under cap book ≡ read_at (λ b. under cap (instance_of b)) book
unfolding read_under read_instance and_then
read_under_lem cap book = then-assoc (read_book book) (λ b. accepted (instance_of b)) (λ I. accepted (under cap I))

pub under-is : {A : Type 0} (cap : Option ℕ) (book : Bytes) (f : Instance → Verdict A)
    → and_then (read_under cap book) f ≡ and_then (read_at (λ b. under cap (instance_of b)) book) f
under-is cap book f = ap (λ v. and_then v f) (read_under_lem cap book)

-- what is written of a plan, from the book's bytes, where it takes `need` bytes; `own` may refuse by a number of its own
abbrev pub of_plan : (Book → Instance) → (need : Instance → ℕ) (own : Instance → Plan → Verdict Bytes) (book plan : Bytes) (n : ℕ) → Verdict Bytes
of_plan view need own book plan n = and_then (read_at view book) λ I. after_plan I plan (need I) n λ p. own I p

-- the book, 12, the judgement, and the result
pub plan-checked : (view : Book → Instance) (need : Instance → ℕ) (own : Instance → Plan → Verdict Bytes) (book plan : Bytes) (n : ℕ)
    → of_plan view need own book plan n
    ≡ (and_then (read_at view book) λ I. and_then (demand (leb (need I) n) 12) λ _. and_then (judge_plan I plan) λ _. own I (plan_of I plan))
unfolding after_plan
plan-checked view need own book plan n i =
    and_then (read_at view book) (λ I. then-assoc (demand (leb (need I) n) 12) (λ _. judge_plan I plan) (λ _. own I (plan_of I plan)) i)

-- the assignment that a plan within the cap is written as
abbrev pub own_cap : Instance → Plan → Verdict Bytes
own_cap I p = and_then (demand (within_cap I p) 22) λ _. accepted (encode I p)

pub plan-is : (cap : Option ℕ) (book plan : Bytes) (n : ℕ)
    → check_plan cap book plan n ≡ of_plan (λ b. under cap (instance_of b)) variables own_cap book plan n
unfolding check_plan encoded_for
plan-is cap book plan n = ap (λ v. and_then v λ I. after_plan I plan (variables I) n λ p. own_cap I p) (read_under_lem cap book)

pub demand-iff : (b : Bool) (n : ℕ) → (demand b n ≡ accepted tt) ↔ T b
unfolding demand
demand-iff true n = (λ _. tt, λ _. refl)
demand-iff false n = (λ e. accepted≢refused (sym e), λ h. absurd h)

pub find-iff : (o : Option ℕ) (n : ℕ) → (find_none o n ≡ accepted tt) ↔ (o ≡ none)
unfolding find_none
find-iff none n = (λ _. refl, λ _. refl)
find-iff (some d) n = (λ e. accepted≢refused (sym e), λ e. let z : ◌≡◌ {A = ℕ} 0 1 = cc in let no' : ⊥ = omega arith in absurd no')

-- ---- judging

-- no clause is false exactly where the assignment satisfies the formula
pub no_false : (α : ℕ → Bool) (n : ℕ) (cs : List Clause) → (first_false α n cs ≡ none) ↔ T (satisfies α cs)
unfolding first_false satisfies all
no_false α n [] = (λ _. tt, λ _. refl)
no_false α n (c ∷ cs) = decide (holds α c)
    (λ h. (
      (λ e. (and-iff (holds α c) _).1 (h, (no_false α (suc n) cs).0 (rw (true_of (holds α c) h, first_false) at e))),
      (λ s. rw (true_of (holds α c) h, first_false) ((no_false α (suc n) cs).1 ((and-iff (holds α c) _).0 s).1)),
    ))
    (λ h. (
      (λ e. let k = rw (denied-of (holds α c) h, first_false) at e in let z : ◌≡◌ {A = ℕ} 0 1 = cc in let no' : ⊥ = omega arith in absurd no'),
      (λ s. absurd (lib.Dec.T_not (holds α c) h ((and-iff (holds α c) _).0 s).0)),
    ))

-- an assignment is accepted exactly where its bytes fit and it satisfies the formula
pub assignment-iff : (I : Instance) (s : Bytes)
    → (judge_assignment I s ≡ accepted tt) ↔ (T (assignment_fits I s) × T (satisfies (assigned s) (formula I)))
unfolding judge_assignment
assignment-iff I s = (
  (λ e. let k = then-accepted (demand (assignment_fits I s) 13) _ tt e in
      ((demand-iff (assignment_fits I s) 13).0 k.1, (no_false (assigned s) 1 (formula I)).0 ((find-iff _ 14).0 k.2))),
  (λ h. then-goes _ ((demand-iff (assignment_fits I s) 13).1 h.0) ∙ (find-iff _ 14).1 ((no_false (assigned s) 1 (formula I)).1 h.1)),
)

-- no rule is broken exactly where all six hold
pub no-broken : (I : Instance) (p : Plan) → (broken_rule I p ≡ none) ↔ T (keeps_rules I p)
unfolding broken_rule keeps_rules faultless
no-broken I p = (first-none (rule_faults I p), clear_first (rule_faults I p))

-- a plan is accepted exactly where its bytes fit and it keeps the rules
pub plan-iff : (I : Instance) (s : Bytes) → (judge_plan I s ≡ accepted tt) ↔ (T (plan_fits I s) × T (keeps_rules I (plan_of I s)))
unfolding judge_plan
plan-iff I s = (
  (λ e. let k = then-accepted (demand (plan_fits I s) 15) _ tt e in
      ((demand-iff (plan_fits I s) 15).0 k.1, (no-broken I (plan_of I s)).0 ((find-iff _ 16).0 k.2))),
  (λ h. then-goes _ ((demand-iff (plan_fits I s) 15).1 h.0) ∙ (find-iff _ 16).1 ((no-broken I (plan_of I s)).1 h.1)),
)

-- ---- the entry points

-- room, a judgement, and what is then written
row-iff : {A : Type 0} (room : Bool) (judged : Verdict (Unit {0})) (out x : A)
    → (and_then (demand room 12) (λ _. and_then judged (λ _. accepted out)) ≡ accepted x) ↔ (T room × (judged ≡ accepted tt) × (out ≡ x))
row-iff {A} room judged out x = (
  (λ e. let k = then-accepted (demand room 12) _ x e in
      let j = then-accepted judged _ x k.2 in
      let same : out ≡ x = cc in
      ((demand-iff room 12).0 k.1, j.1, same)),
  (λ h. then-goes _ ((demand-iff room 12).1 h.0) ∙ then-goes _ h.1 ∙ ap {B = Verdict A} accepted h.2),
)

-- an accepted book's instance
pub instance-read : (view : Book → Instance) (book : Bytes) (I : Instance) → read_at view book ≡ accepted I
    → (b : Book) × (read_book book ≡ accepted b) × (I ≡ view b)
instance-read view book I e =
    let k = then-accepted (read_book book) (λ b. accepted (view b)) I e in
    (k.0, k.1, let same : I ≡ view k.0 = cc in same)

pub read_at_lem : (view : Book → Instance) (book : Bytes) (b : Book) → read_book book ≡ accepted b → read_at view book ≡ accepted (view b)
read_at_lem view book b read = then-goes _ read

-- what is written of a plan
pub plan-written : (view : Book → Instance) (book : Bytes) (b : Book) (read : read_book book ≡ accepted b)
    (need : Instance → ℕ) (own : Instance → Plan → Verdict Bytes) (s : Bytes) (n : ℕ) (out : Bytes)
    → (of_plan view need own book s n ≡ accepted out)
    ↔ ((need (view b) ≤ n) × (judge_plan (view b) s ≡ accepted tt) × (own (view b) (plan_of (view b) s) ≡ accepted out))
plan-written view book b read need own s n out =
    let e = plan-checked view need own book s n ∙ then-goes _ (read_at_lem view book b read) in (
      (λ h. let k = then-accepted (demand (leb (need (view b)) n) 12) _ out (sym e ∙ h) in
          let j = then-accepted (judge_plan (view b) s) _ out k.2 in
          ((leb-iff _ n).0 ((demand-iff _ 12).0 k.1), j.1, j.2)),
      (λ h. e ∙ then-goes _ ((demand-iff _ 12).1 ((leb-iff (need (view b)) n).1 h.0)) ∙ then-goes _ h.1 ∙ h.2),
    )

module _ (cap : Option ℕ) (book : Bytes) (b : Book) (read : read_book book ≡ accepted b) where
  abbrev I : Instance
  I = under cap (instance_of b)

  pub read-instance : read_under cap book ≡ accepted (under cap (instance_of b))
  read-instance = read_under_lem cap book ∙ read_at_lem (λ b. under cap (instance_of b)) book b read

  pub write-formula : (n : ℕ) (w : Written) → (write_formula cap book n ≡ accepted w)
      ↔ ((length (words_of (formula (under cap (instance_of b)))) ≤ n) × (formula_written (under cap (instance_of b)) ≡ w))
  unfolding write_formula written_for and_then
  write-formula n w =
      let e : write_formula cap book n ≡ _ = then-goes _ read-instance in
      let k = row-iff (leb (length (words_of (formula I))) n) (accepted tt) (formula_written I) w in (
        (λ h. let r = k.0 (sym e ∙ h) in ((leb-iff _ n).0 r.0, r.2)),
        (λ h. e ∙ k.1 ((leb-iff _ n).1 h.0, refl, h.1)),
      )

  -- judging from the book's bytes is judging for its instance
  pub check-assignment : (s : Bytes) → check_assignment cap book s ≡ judge_assignment (under cap (instance_of b)) s
  unfolding check_assignment
  check-assignment s = then-goes _ read-instance

  pub unpack-plan : (s : Bytes) (n : ℕ) (plan : Bytes) → (unpack_plan cap book s n ≡ accepted plan)
      ↔ ((plan_length (under cap (instance_of b)) ≤ n) × (judge_assignment (under cap (instance_of b)) s ≡ accepted tt)
      × (decode (under cap (instance_of b)) s ≡ plan))
  unfolding unpack_plan unpacked_for
  unpack-plan s n plan =
      let e : unpack_plan cap book s n ≡ _ = then-goes _ read-instance in
      let k = row-iff (leb (plan_length I) n) (judge_assignment I s) (decode I s) plan in (
        (λ h. let r = k.0 (sym e ∙ h) in ((leb-iff _ n).0 r.0, r.1, r.2)),
        (λ h. e ∙ k.1 ((leb-iff _ n).1 h.0, h.1, h.2)),
      )

  -- a plan is written as an assignment where it is within the cap
  pub check-plan : (s : Bytes) (n : ℕ) (assignment : Bytes) → (check_plan cap book s n ≡ accepted assignment)
      ↔ ((variables (under cap (instance_of b)) ≤ n) × (judge_plan (under cap (instance_of b)) s ≡ accepted tt)
      × T (within_cap (under cap (instance_of b)) (plan_of (under cap (instance_of b)) s))
      × (encode (under cap (instance_of b)) (plan_of (under cap (instance_of b)) s) ≡ assignment))
  check-plan s n assignment =
      let e = plan-is cap book s n in
      let w = plan-written (λ b. under cap (instance_of b)) book b read variables own_cap s n assignment in
      let p = plan_of I s in (
        (λ h. let k = w.0 (sym e ∙ h) in
            let r = then-accepted (demand (within_cap I p) 22) _ assignment k.2 in
            let same : encode I p ≡ assignment = cc in
            (k.0, k.1, (demand-iff (within_cap I p) 22).0 r.1, same)),
        (λ h. e ∙ w.1 (h.0, h.1, then-goes _ ((demand-iff (within_cap I p) 22).1 h.2) ∙ ap {B = Verdict Bytes} accepted h.3)),
      )

  pub check-refutation : (s : Bytes) (lent : Lent) → (check_refutation cap book s lent ≡ accepted tt)
      ↔ (T (formula_fits lent (under cap (instance_of b)))
      × (check_file lent (variables (under cap (instance_of b))) (formula (under cap (instance_of b))) s ≡ accepted tt))
  unfolding check_refutation refuted_for
  check-refutation s lent =
      let e : check_refutation cap book s lent ≡ _ = then-goes _ read-instance in (
        (λ h. let r = then-accepted (demand (formula_fits lent I) 12) _ tt (sym e ∙ h) in ((demand-iff _ 12).0 r.1, r.2)),
        (λ h. e ∙ then-goes _ ((demand-iff (formula_fits lent I) 12).1 h.0) ∙ h.1),
      )

-- whatever is accepted, its book was read: without a cap,
pub read-own : {A : Type 0} (book : Bytes) (f : Instance → Verdict A) (a : A) → and_then (read_instance book) f ≡ accepted a
    → (b : Book) × (read_book book ≡ accepted b)
unfolding read_instance
read-own book f a e =
    let k = then-accepted (read_instance book) f a e in
    let r = instance-read instance_of book k.0 k.1 in
    (r.0, r.1)

-- and under one
pub read_of : {A : Type 0} (cap : Option ℕ) (book : Bytes) (f : Instance → Verdict A) (a : A) → and_then (read_under cap book) f ≡ accepted a
    → (b : Book) × (read_book book ≡ accepted b)
read_of cap book f a e =
    let k = then-accepted (read_under cap book) f a e in
    let r = instance-read (λ b. under cap (instance_of b)) book k.0 (sym (read_under_lem cap book) ∙ k.1) in
    (r.0, r.1)
