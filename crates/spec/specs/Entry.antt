-- The entry points, each as ONE definition: what it returns, from the book's bytes, the second input's bytes and the lengths of
-- the lent slices, and from nothing else; and beside it what each lent slice holds after the call. The rewriter's is in `Upgrade`,
-- the train graph's in `Page`, that of the list of carriers in `Carriers`. Assumes nothing.
use Rattle.std.specs.Prelude.{Bool, true, false, ◌&&◌, ℕ, zero, suc, List, [], ◌++◌, length, drop, replicate, ℤ, leb, eqb}
use Rattle.std.proofs.Math.Option.{Option, none, some}
use Rattle.spec.specs.Lists.{Bytes, empty, Verdict, accepted, refused, and_then}
use Rattle.spec.specs.Read.{read_book}
use Rattle.spec.specs.Instance.{Instance, instance_of, under}
use Rattle.spec.specs.Plan.{Plan, plan_fits, plan_length, plan_of, broken_rule}
use Rattle.spec.specs.Cap.{set_count, within_cap}
use Rattle.spec.specs.Formula.{formula, variables, words_of, dimacs_text}
use Rattle.spec.specs.Assignment.{assignment_fits, assigned, first_false, decoded, decode, encode}
use Rattle.spec.specs.Refutation.{Lent, clauses_fit, check_file}

-- a test that refuses with a number and detail 0
unfoldable pub demand : Bool → ℕ → Verdict (Unit {0})
demand true n = accepted tt
demand false n = refused n 0

-- a search that refuses with a number and what was found as the detail
unfoldable pub find_none : Option ℕ → ℕ → Verdict (Unit {0})
find_none none n = accepted tt
find_none (some d) n = refused n d

-- "A success changes only the stated length of an output"; "Outputs are unchanged" on a refusal.
unfoldable pub overwrite {ℓ} : {A : Type ℓ} → List A → List A → List A
overwrite old new = new ++ drop (length new) old

unfoldable pub written : {A : Type 0} → Verdict (List A) → List A
written (accepted xs) = xs
written (refused n d) = []

-- "working slices are zero after each call": what a working slice of n entries holds then
unfoldable pub zeroed {ℓ} : {A : Type ℓ} → A → ℕ → List A
zeroed z n = replicate n z

-- ---- reading a book; it is lent nothing. `read_book` is what it returns; the other entry points go on from its instance.

unfoldable pub read_instance : Bytes → Verdict Instance
read_instance book = and_then (read_book book) λ b. accepted (instance_of b)

-- Under a cap, or without one: for all that has to do with the formula. "Under a cap the demands' formula is document 01's with these clauses"
unfoldable pub read_under : Option ℕ → Bytes → Verdict Instance
read_under cap book = and_then (read_instance book) λ I. accepted (under cap I)

-- ---- writing the formula; lent: an output of words

-- the totals that are returned, and the words that are written
pub record Written : Type 0 where
  pub variable_count : ℕ
  pub clause_count : ℕ
  pub word_count : ℕ
  pub words : List ℤ

unfoldable pub formula_written : Instance → Written
formula_written I = record {
  variable_count = variables I;
  clause_count = length (formula I);
  word_count = length (words_of (formula I));
  words = words_of (formula I);
}

-- of an instance: 12, then its formula
unfoldable pub written_for : Instance → ℕ → Verdict Written
written_for I out_length =
    and_then (demand (leb (length (words_of (formula I))) out_length) 12) λ _.
    accepted (formula_written I)

unfoldable pub write_formula : Option ℕ → Bytes → ℕ → Verdict Written
write_formula cap book out_length = and_then (read_under cap book) λ I. written_for I out_length

-- what the output holds after the call
unfoldable pub words_after : List ℤ → Verdict Written → List ℤ
words_after old v = overwrite old (written (and_then v λ w. accepted w.words))

unfoldable pub formula_output : Option ℕ → Bytes → List ℤ → List ℤ
formula_output cap book old = words_after old (write_formula cap book (length old))

-- the text that the formula program prints
unfoldable pub formula_text : Option ℕ → Bytes → ℕ → Verdict Bytes
formula_text cap book out_length =
    and_then (write_formula cap book out_length) λ _.
    and_then (read_under cap book) λ I.
    accepted (dimacs_text (variables I) (formula I))

-- ---- judging an assignment; lent: nothing. "one judges an assignment and lends no plan slice"

-- 13, then 14 with the least false clause
unfoldable pub judge_assignment : Instance → Bytes → Verdict (Unit {0})
judge_assignment I s =
    and_then (demand (assignment_fits I s) 13) λ _. find_none (first_false (assigned s) 1 (formula I)) 14

unfoldable pub check_assignment : Option ℕ → Bytes → Bytes → Verdict (Unit {0})
check_assignment cap book assignment = and_then (read_under cap book) λ I. judge_assignment I assignment

-- ---- unpacking a plan; lent: an output of the plan's bytes. "the other unpacks the plan from an assignment, judging it first"

-- of an instance: 12, then the judgement, then the plan that the assignment decodes to
unfoldable pub unpacked_for : Instance → Bytes → ℕ → Verdict Bytes
unpacked_for I assignment out_length =
    and_then (demand (leb (plan_length I) out_length) 12) λ _.
    and_then (judge_assignment I assignment) λ _.
    accepted (decode I assignment)

unfoldable pub unpack_plan : Option ℕ → Bytes → Bytes → ℕ → Verdict Bytes
unpack_plan cap book assignment out_length = and_then (read_under cap book) λ I. unpacked_for I assignment out_length

-- what the output holds after the call
unfoldable pub plan_output : Option ℕ → Bytes → Bytes → Bytes → Bytes
plan_output cap book assignment old = overwrite old (written (unpack_plan cap book assignment (length old)))

-- ---- checking a plan and writing it as an assignment; lent: an output of the assignment's bytes

-- 15, then 16 with the least broken rule; no output
unfoldable pub judge_plan : Instance → Bytes → Verdict (Unit {0})
judge_plan I s = and_then (demand (plan_fits I s) 15) λ _. find_none (broken_rule I (plan_of I s)) 16

-- "then 12; then the second input", for whatever is written of a plan: 12 by the output's length, then 15 and 16
abbrev pub admit_plan : Instance → Bytes → ℕ → ℕ → Verdict (Unit {0})
admit_plan I plan need out_length = and_then (demand (leb need out_length) 12) λ _. judge_plan I plan

-- then what the plan is asked for, which may refuse it by a number of its own
unfoldable pub after_plan : {A : Type 0} → Instance → Bytes → ℕ → ℕ → (Plan → Verdict A) → Verdict A
after_plan I plan need out_length own = and_then (admit_plan I plan need out_length) λ _. own (plan_of I plan)

-- the assignment that it is written as: 22 "after 16 where a plan to be written as an assignment sets more than the cap"
unfoldable pub encoded_for : Instance → Bytes → ℕ → Verdict Bytes
encoded_for I plan out_length = after_plan I plan (variables I) out_length λ p.
    and_then (demand (within_cap I p) 22) λ _. accepted (encode I p)

unfoldable pub check_plan : Option ℕ → Bytes → Bytes → ℕ → Verdict Bytes
check_plan cap book plan out_length = and_then (read_under cap book) λ I. encoded_for I plan out_length

-- what the output holds after the call
unfoldable pub assignment_output : Option ℕ → Bytes → Bytes → Bytes → Bytes
assignment_output cap book plan old = overwrite old (written (check_plan cap book plan (length old)))

-- ---- checking a refutation; lent: words, clauses, values and trail, all of them working slices, `zeroed` after the call

-- 12: what the formula alone needs
unfoldable pub formula_fits : Lent → Instance → Bool
formula_fits lent I =
    clauses_fit lent (formula I) && leb (variables I) lent.values && leb (variables I) lent.trail

-- of an instance: 12, then the file of steps
unfoldable pub refuted_for : Instance → Bytes → Lent → Verdict (Unit {0})
refuted_for I refutation lent =
    and_then (demand (formula_fits lent I) 12) λ _.
    check_file lent (variables I) (formula I) refutation

unfoldable pub check_refutation : Option ℕ → Bytes → Bytes → Lent → Verdict (Unit {0})
check_refutation cap book refutation lent = and_then (read_under cap book) λ I. refuted_for I refutation lent

-- ---- the combined verdict, P7; lent: the same. It "takes n, an assignment of the formula without a cap, and a refutation of the formula
-- under cap n minus 1"

-- 12: what the formula under that cap needs; with n = 0 no refutation is checked, and nothing is needed
unfoldable pub fewest_fits : Lent → Instance → ℕ → Bool
fewest_fits lent I zero = true
fewest_fits lent I (suc m) = formula_fits lent (under (some m) I)

-- "With n = 0 there is no lower cap, the refutation must be empty": 21
unfoldable pub fewer_refuted : Instance → ℕ → Bytes → Lent → Verdict (Unit {0})
fewer_refuted I zero refutation lent = demand (empty refutation) 21
fewer_refuted I (suc m) refutation lent = check_file lent (variables (under (some m) I)) (formula (under (some m) I)) refutation

-- 22 "after the assignment is accepted, where its plan sets another count of kind 1 nodes than n"
unfoldable pub fewest_for : Instance → ℕ → Bytes → Bytes → Lent → Verdict (Unit {0})
fewest_for I n s refutation lent =
    and_then (demand (fewest_fits lent I n) 12) λ _.
    and_then (judge_assignment I s) λ _.
    and_then (demand (eqb (set_count I (decoded I (assigned s)).border) n) 22) λ _.
    fewer_refuted I n refutation lent

unfoldable pub check_fewest : Bytes → ℕ → Bytes → Bytes → Lent → Verdict (Unit {0})
check_fewest book n assignment refutation lent = and_then (read_instance book) λ I. fewest_for I n assignment refutation lent
