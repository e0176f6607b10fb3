-- Why an entry point refuses, as the theorems of demand 1 state it. Assumes nothing.
use Rattle.std.specs.Prelude.{◌≡◌, Bool, true, not, ℕ, suc, ◌≤◌, ◌<◌, List, ◌∷◌, ◌++◌, length, T}
use Rattle.std.proofs.Math.Option.{some}
use Rattle.spec.specs.Lists.{Bytes, all, empty, one, Fault, ◌when◌, Verdict, accepted, refused}
use Rattle.spec.specs.Book.{Book}
use Rattle.spec.specs.Frames.{Format, kind_field, payload_of, behind}
use Rattle.spec.specs.Read.{Reading, reading_start, is_end, frame_faults, book_faults, more, read_frame, read_book}
use Rattle.spec.specs.Instance.{Instance, under}
use Rattle.spec.specs.Plan.{Plan, plan_fits, plan_of, rule_faults, keeps_rules}
use Rattle.spec.specs.Cap.{within_cap, set_count}
use Rattle.spec.specs.Formula.{Clause, formula, variables}
use Rattle.spec.specs.Assignment.{assignment_fits, assigned, holds, satisfies, decode}
use Rattle.spec.specs.Refutation.{ProofStep, Lent, step_in, clause_at, step_faults, step_detail}
use Rattle.spec.specs.Entry.{formula_fits}
-- ---- tables of refusals

unfoldable pub use Rattle.spec.specs.Lists.{passes}

-- n is the number of a line whose condition holds, and no condition of a line before it does
pub record FirstHolds (n : ℕ) (faults : List Fault) : Type 0 where
  pub before : List Fault
  pub after : List Fault
  pub split : faults ≡ before ++ (n when true) ∷ after
  pub clear : T (all passes before)

-- ---- reading a book: 1 to 11

-- The readings that the reader of a format comes to from the start of s, and what is then left of it.
pub data ReadsTo (f : Format) (s : Bytes) : Reading → Bytes → Type 0 where
  start : ReadsTo f s reading_start s
  next : {r r'' : Reading} {s' s'' : Bytes} → ReadsTo f s r s' → read_frame f r s' ≡ more r'' s'' → ReadsTo f s r'' s''

-- How reading ends at the frame at the start of s, with the verdict v.
pub data Ends (f : Format) (r : Reading) (s : Bytes) (v : Verdict Book) : Type 0 where
  frame : (n : ℕ) → FirstHolds n (frame_faults f r s) → v ≡ refused n 0 → Ends f r s v
  book : (n : ℕ) → T (all passes (frame_faults f r s)) → T (is_end (kind_field s)) → FirstHolds n (book_faults r.book)
      → v ≡ refused n 0 → Ends f r s v
  pass : T (all passes (frame_faults f r s)) → T (is_end (kind_field s)) → T (all passes (book_faults r.book))
      → v ≡ accepted r.book → Ends f r s v

-- ---- the order of the entry points

-- "then the book; then 12; then the second input": why an entry point refuses with a number and a detail, where `Short` is that
-- a lent slice is too short for the book and `Input` says what is wrong with the second input.
pub data Refusal (book : Bytes) (Short : Book → Type 0) (Input : Book → ℕ → ℕ → Type 0) : ℕ → ℕ → Type 0 where
  of_book : {k : ℕ} → read_book book ≡ refused k 0 → Refusal book Short Input k 0
  of_room : (b : Book) → read_book book ≡ accepted b → Short b → Refusal book Short Input 12 0
  of_input : {k d : ℕ} (b : Book) → read_book book ≡ accepted b → (Short b → ⊥) → Input b k d → Refusal book Short Input k d

-- ---- an assignment

-- "the least false clause": number d, from 1, is false and every lower one is true
pub record LeastFalse (α : ℕ → Bool) (cs : List Clause) (d : ℕ) : Type 0 where
  pub from_one : 1 ≤ d
  pub up_to_last : d ≤ length cs
  pub is_false : T (not (holds α (clause_at cs d)))
  pub lower_true : (e : ℕ) → 1 ≤ e → e < d → T (holds α (clause_at cs e))

-- What is wrong with an assignment: 13 "length or byte wrong"; 14 "a clause is false", with the least one as the detail.
pub data AssignmentFault (I : Instance) (s : Bytes) : ℕ → ℕ → Type 0 where
  assignment_unfit : T (not (assignment_fits I s)) → AssignmentFault I s 13 0
  clause_false : {d : ℕ} → T (assignment_fits I s) → LeastFalse (assigned s) (formula I) d → AssignmentFault I s 14 d

-- ---- a plan

-- What is wrong with a plan: 15 "length or a value wrong"; 16 "a rule broken", with the least one as the detail.
pub data PlanFault (I : Instance) (s : Bytes) : ℕ → ℕ → Type 0 where
  plan_unfit : T (not (plan_fits I s)) → PlanFault I s 15 0
  rule_broken : {d : ℕ} → T (plan_fits I s) → FirstHolds d (rule_faults I (plan_of I s)) → PlanFault I s 16 d

-- What is wrong with what is asked of a plan: what is wrong with the plan, or, of one that keeps the rules, a number of the question's own.
pub data AskedFault (I : Instance) (s : Bytes) (Own : Plan → ℕ → ℕ → Type 0) : ℕ → ℕ → Type 0 where
  plan_fault : {k d : ℕ} → PlanFault I s k d → AskedFault I s Own k d
  own_fault : {k d : ℕ} → T (plan_fits I s) → T (keeps_rules I (plan_of I s)) → Own (plan_of I s) k d → AskedFault I s Own k d

-- P7: 22 "where a plan to be written as an assignment sets more than the cap"
pub data OverCap (I : Instance) (p : Plan) : ℕ → ℕ → Type 0 where
  over_cap : T (not (within_cap I p)) → OverCap I p 22 0

-- nothing further
abbrev pub Nothing : Plan → ℕ → ℕ → Type 0
Nothing p k d = ⊥

-- ---- a refutation

-- the step whose frame starts s, and the clauses with its own behind them
abbrev pub step_at : Bytes → ProofStep
step_at s = step_in (payload_of s)

abbrev pub added : List Clause → Bytes → List Clause
added cs s = cs ++ one (step_at s).literals

-- The steps that the check comes to: the number of the step at hand, from 1, the clauses that its hints may name, and what is
-- left of the file. It goes on behind a step of which no condition holds and which has literals.
pub data StepsTo (lent : Lent) (vars : ℕ) (cs₀ : List Clause) (file : Bytes) : ℕ → List Clause → Bytes → Type 0 where
  first_step : StepsTo lent vars cs₀ file 1 cs₀ file
  next_step : {step : ℕ} {cs : List Clause} {s : Bytes} → StepsTo lent vars cs₀ file step cs s
      → T (all passes (step_faults lent vars cs s)) → T (not (empty (step_at s).literals))
      → StepsTo lent vars cs₀ file (suc step) (added cs s) (behind s)

-- What is wrong with a refutation: the first condition that holds of a step that stands there, with the step as the detail, and
-- 0 for 12; 21 "no empty step at the file's end, or any byte after an empty step that passed".
pub data RefutationFault (lent : Lent) (vars : ℕ) (cs₀ : List Clause) (file : Bytes) : ℕ → ℕ → Type 0 where
  step_fault : {k step : ℕ} {cs : List Clause} {s : Bytes} → StepsTo lent vars cs₀ file step cs s
      → T (not (empty s)) → FirstHolds k (step_faults lent vars cs s) → RefutationFault lent vars cs₀ file k (step_detail k step)
  no_ending : {step : ℕ} {cs : List Clause} {s : Bytes} → StepsTo lent vars cs₀ file step cs s
      → T (empty s) → RefutationFault lent vars cs₀ file 21 0
  bytes_after : {step : ℕ} {cs : List Clause} {s : Bytes} → StepsTo lent vars cs₀ file step cs s
      → T (all passes (step_faults lent vars cs s)) → T (empty (step_at s).literals) → T (not (empty (behind s)))
      → RefutationFault lent vars cs₀ file 21 0

-- ---- the combined verdict, P7

-- 12: the slices are too short for the formula under cap n minus 1; with n = 0 there is no lower cap, and nothing is asked of them
pub data NoRoomBelow (I : Instance) (lent : Lent) : ℕ → Type 0 where
  no_room : {m : ℕ} → T (not (formula_fits lent (under (some m) I))) → NoRoomBelow I lent (suc m)

-- What is wrong with the refutation of fewer than n: under cap n minus 1 what is wrong with a refutation; with n = 0 it "must be empty": 21.
pub data FewerFault (I : Instance) (lent : Lent) (file : Bytes) : ℕ → ℕ → ℕ → Type 0 where
  not_empty : T (not (empty file)) → FewerFault I lent file 0 21 0
  lower_cap : {m k d : ℕ} → RefutationFault lent (variables (under (some m) I)) (formula (under (some m) I)) file k d
      → FewerFault I lent file (suc m) k d

-- What is wrong with what the combined verdict takes: what is wrong with the assignment; "22 after the assignment is accepted, where its plan
-- sets another count of kind 1 nodes than n"; "then" what is wrong with the refutation.
pub data FewestFault (I : Instance) (n : ℕ) (s file : Bytes) (lent : Lent) : ℕ → ℕ → Type 0 where
  assignment_fault : {k d : ℕ} → AssignmentFault I s k d → FewestFault I n s file lent k d
  other_count : T (assignment_fits I s) → T (satisfies (assigned s) (formula I))
      → (set_count I (plan_of I (decode I s)).border ≡ n → ⊥) → FewestFault I n s file lent 22 0
  refutation_fault : {k d : ℕ} → T (assignment_fits I s) → T (satisfies (assigned s) (formula I))
      → set_count I (plan_of I (decode I s)).border ≡ n → FewerFault I lent file n k d → FewestFault I n s file lent k d

-- ---- numbers

-- from low to high
abbrev pub Within : ℕ → ℕ → ℕ → Type 0
Within low high k = (low ≤ k) × (k ≤ high)
