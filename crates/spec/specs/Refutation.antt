-- The refutation: the frames of a list of steps, the step rule, the list of steps with each proved one added behind, and
-- the ending. Assumes nothing.
use Rattle.std.specs.Prelude.{Bool, true, false, not, ◌&&◌, ◌||◌, cond, ℕ, zero, suc, ◌+◌, ◌*◌, ◌-◌, ◌/◌, ◌^◌, ◌<◌, ◌≡◌, ◌≢◌, length, get_or, drop, ℤ, pos, negsuc, T, leb, ltb, eqb}
use mathlib.Core.List.{List, [], ◌∷◌, ◌++◌, map, Memᴰ}
use Rattle.std.proofs.Math.Option.{none, some}
use Rattle.std.specs.Int.Signed.{mag}
use Rattle.spec.specs.Lists.{Bytes, all, up_to, each, one, pick, empty, Fault, ◌when◌, first_fault, Verdict, accepted, refused}
use Rattle.spec.specs.Numbers.{little_endian, field, signed, unsigned}
use Rattle.spec.specs.Frames.{frame, step_kind, step_fixed, number_width, hints_at, step_length_fits, kind_field, payload_of, behind, cut_short}
unfoldable pub use Rattle.spec.specs.Frames.{literal_count}
use Rattle.spec.specs.Formula.{Literal, Clause, words_of}
use Rattle.spec.specs.Assignment.{Value, open', yes', no', truth}

-- A step (document 01's term): its clause, and its hints, the numbers of the clauses that prove it.
pub record ProofStep : Type 0 where
  pub literals : Clause
  pub hints : List ℕ

-- ---- the file that a list of steps makes

-- "count of literals (2), the literals (4 each, signed), then hint clause numbers (4 each)"
unfoldable pub step_payload : ProofStep → Bytes
step_payload s =
    little_endian step_fixed (length s.literals)
    ++ ((each s.literals λ l. little_endian number_width (unsigned number_width l)) ++ each s.hints (little_endian number_width))

-- "Frames as in the book, little-endian, of kind 20"
unfoldable pub file_of : List ProofStep → Bytes
file_of steps = each steps λ s. frame step_kind (step_payload s)

-- ---- reading a step

unfoldable pub hint_count : Bytes → ℕ
hint_count p = (length p - hints_at p) / number_width

unfoldable pub step_in : Bytes → ProofStep
step_in p = record {
  literals = map (λ i. signed number_width (field p (step_fixed + number_width * i) number_width)) (up_to (literal_count p));
  hints = map (λ i. field p (hints_at p + number_width * i) number_width) (up_to (hint_count p));
}

-- "The hints of a step are handed on as that stretch of the file itself": behind the literals, to the payload's end
unfoldable pub hint_bytes : Bytes → Bytes
hint_bytes p = drop (hints_at p) p

-- the variable of a literal, from 1; 0 has none
unfoldable pub variable_of : Literal → ℕ
variable_of (pos n) = n
variable_of (negsuc n) = suc n

-- 18: "Literals are of the formula's variables and rise strictly by variable", from above `low` on
unfoldable pub rises_from : ℕ → ℕ → Clause → Bool
rises_from vars low [] = true
rises_from vars low (l ∷ ls) = ltb low (variable_of l) && leb (variable_of l) vars && rises_from vars (variable_of l) ls

unfoldable pub literals_fit : ℕ → Clause → Bool
literals_fit vars c = rises_from vars 0 c

-- 19: "a hint is at least 1 and below its step's own number"
unfoldable pub hints_fit : ℕ → List ℕ → Bool
hints_fit own hs = all (λ h. leb 1 h && ltb h own) hs

-- ---- the step rule

abbrev pub Values : Type 0
Values = ℕ → Value

-- the values with one more literal true
unfoldable pub make_true : Values → Literal → Values
make_true known (pos zero) = known
make_true known (pos (suc v)) = λ u. cond (eqb u v) yes' (known u)
make_true known (negsuc v) = λ u. cond (eqb u v) no' (known u)

unfoldable pub make_false : Values → Literal → Values
make_false known (pos zero) = known
make_false known (pos (suc v)) = λ u. cond (eqb u v) no' (known u)
make_false known (negsuc v) = λ u. cond (eqb u v) yes' (known u)

-- "take each literal of the step false, every other variable open"
unfoldable pub refuting : Clause → Values
refuting [] = λ v. open'
refuting (l ∷ ls) = make_false (refuting ls) l

unfoldable pub is_no : Value → Bool
is_no open' = false
is_no yes' = false
is_no no' = true

unfoldable pub is_open : Value → Bool
is_open open' = true
is_open yes' = false
is_open no' = false

-- the clause with a number, from 1; past the last it would be the empty one, which 19 keeps out
unfoldable pub clause_at : List Clause → ℕ → Clause
clause_at cs h = get_or cs (h - 1) []

-- the literals of a clause that are not false
unfoldable pub not_false : Values → Clause → Clause
not_false known c = pick (λ l. not (is_no (truth known l))) c

-- What a hint does: prove the step, make a literal true, or nothing.
pub data Hinted : Type 0 where
  proves : Hinted
  makes : Literal → Hinted
  useless : Hinted

-- "a hint with all literals false … proves the step; one with a single literal not false, and that one open, makes it true;
-- every other hint refutes nothing"
unfoldable pub hinted : Values → Clause → Hinted
hinted known [] = proves
hinted known (l ∷ []) = elim (is_open (truth known l)) [ true ↦ makes l | false ↦ useless ]
hinted known (l ∷ m ∷ ls) = useless

-- The step rule is reverse unit propagation with hints in order, as in proofs of the LRAT kind, but stricter: a hint that
-- is neither unit nor false is refused. "go through the hints": a proving hint "must be the last"; "a step whose hints run out unproved is refused too"
unfoldable pub go_through : List Clause → Values → List ℕ → Bool
go_through cs known [] = false
go_through cs known (h ∷ hs) =
    elim (hinted known (not_false known (clause_at cs h)))
    [ proves ↦ empty hs | makes l ↦ go_through cs (make_true known l) hs | useless ↦ false ]

unfoldable pub follows_rule : List Clause → ProofStep → Bool
follows_rule cs s = go_through cs (refuting s.literals) s.hints

-- ---- the step rule as a relation, without a walk over literals

-- all literals of the clause are false
abbrev pub AllFalse : Values → Clause → Type 0
AllFalse known c = (l : Literal) → Memᴰ l c → truth known l ≡ no'

-- "a single literal not false, and that one open"
pub record Forces (known : Values) (c : Clause) (l : Literal) : Type 0 where
  pub left : Clause
  pub right : Clause
  pub parts : c ≡ left ++ (l ∷ right)
  pub left_false : AllFalse known left
  pub right_false : AllFalse known right
  pub is_open : truth known l ≡ open'

-- "go through the hints": from these values, these hints prove the step
pub data Proves (cs : List Clause) : Values → List ℕ → Type 0 where
  at_last : {known : Values} {h : ℕ} → AllFalse known (clause_at cs h) → Proves cs known (h ∷ [])
  onward : {known : Values} {h : ℕ} {hs : List ℕ} (l : Literal) → Forces known (clause_at cs h) l
      → Proves cs (make_true known l) hs → Proves cs known (h ∷ hs)

-- "take each literal of the step false, every other variable open"; a literal's variable counts from 1
pub record TakenFalse (c : Clause) (known : Values) : Type 0 where
  pub all_false : AllFalse known c
  pub others_open : (v : ℕ) → ((l : Literal) → Memᴰ l c → variable_of l ≢ suc v) → known v ≡ open'

-- A step as document 01 lays it down, where hints may name the clauses cs: its literals, its hints, the step rule.
pub record GoodStep (vars : ℕ) (cs : List Clause) (s : ProofStep) : Type 0 where
  pub literals_good : T (literals_fit vars s.literals)
  pub hints_good : T (hints_fit (length cs + 1) s.hints)
  pub start : Values
  pub start_taken : TakenFalse s.literals start
  pub rule : Proves cs start s.hints

-- "each proved step adds its own behind them, for the steps after it"; "The last step, and only it, has no literals."
pub data GoodSteps (vars : ℕ) : List Clause → List ProofStep → Type 0 where
  ending : {cs : List Clause} {s : ProofStep} → GoodStep vars cs s → s.literals ≡ [] → GoodSteps vars cs (s ∷ [])
  going : {cs : List Clause} {s : ProofStep} {steps : List ProofStep} → GoodStep vars cs s → s.literals ≢ []
      → GoodSteps vars (cs ++ (s.literals ∷ [])) steps → GoodSteps vars cs (s ∷ steps)

-- The step's numbers fit the fields that document 01 gives them.
pub record InFields (s : ProofStep) : Type 0 where
  pub payload_short : step_fixed + (number_width * length s.literals + number_width * length s.hints) < 256 ^ 2
  pub literals_short : (l : Literal) → Memᴰ l s.literals → mag l * 2 < 256 ^ number_width
  pub hints_short : (h : ℕ) → Memᴰ h s.hints → h < 256 ^ number_width

-- ---- clauses in a lent slice of words

-- a word in front of clauses: 0 closes a new clause, a literal goes to the first one (it is lost where there is none)
unfoldable pub with_word : ℤ → List Clause → List Clause
with_word (pos zero) cs = [] ∷ cs
with_word (pos (suc v)) [] = []
with_word (pos (suc v)) (c ∷ cs) = (pos (suc v) ∷ c) ∷ cs
with_word (negsuc v) [] = []
with_word (negsuc v) (c ∷ cs) = (negsuc v ∷ c) ∷ cs

-- "each clause closed by 0": the clauses that words say, `words_of` the other way
unfoldable pub clauses_of : List ℤ → List Clause
clauses_of [] = []
clauses_of (w ∷ ws) = with_word w (clauses_of ws)

-- every literal is of one of n variables
abbrev pub in_range : ℕ → List Clause → Bool
in_range n cs = all (λ c. all (λ l. leb 1 (variable_of l) && leb (variable_of l) n) c) cs

-- ---- the list of steps

-- How long the lent slices are that hold the formula's words and the steps', an entry a clause, and two entries a variable.
pub record Lent : Type 0 where
  pub words : ℕ
  pub clauses : ℕ
  pub values : ℕ
  pub trail : ℕ

-- 12: these clauses fit into the lent slices
unfoldable pub clauses_fit : Lent → List Clause → Bool
clauses_fit lent cs = leb (length (words_of cs)) lent.words && leb (length cs) lent.clauses

-- 17: "frame cut, kind not 20, payload not 2 + 4n + 4h"
unfoldable pub is_bad : Bytes → Bool
is_bad s = cut_short s || not (eqb (kind_field s) step_kind) || not (step_length_fits (payload_of s))

-- 17, 18, 19, 12 and 20 for the frame at the start of s; cs are the clauses that hints may name
unfoldable pub step_faults : Lent → ℕ → List Clause → Bytes → List Fault
step_faults lent vars cs s =
    let st : ProofStep = step_in (payload_of s) in
    17 when is_bad s
    ∷ 18 when not (literals_fit vars st.literals)
    ∷ 19 when not (hints_fit (length cs + 1) st.hints)
    ∷ 12 when not (clauses_fit lent (cs ++ one st.literals))
    ∷ one (20 when not (follows_rule cs st))

-- "step counted from 1 for 17 to 20, else 0"
unfoldable pub step_detail : ℕ → ℕ → ℕ
step_detail number step = cond (eqb number 12) 0 step

-- "For every list of steps in a file": step is the number of the step at the start of s, from 1. A frame has four bytes at
-- least, so `fuel` is never used up.
unfoldable pub check_steps : Lent → ℕ → ℕ → ℕ → List Clause → Bytes → Verdict (Unit {0})
check_steps lent vars zero step cs s = refused 21 0
check_steps lent vars (suc fuel) step cs s =
    elim (empty s) [
      | true ↦ refused 21 0
      | false ↦ elim (first_fault (step_faults lent vars cs s)) [
        | some n ↦ refused n (step_detail n step)
        | none ↦ elim (empty (step_in (payload_of s)).literals) [
          | true ↦ elim (empty (behind s)) [ true ↦ accepted tt | false ↦ refused 21 0 ]
          | false ↦ check_steps lent vars fuel (suc step) (cs ++ one (step_in (payload_of s)).literals) (behind s)
        ]
      ]
    ]

unfoldable pub check_file : Lent → ℕ → List Clause → Bytes → Verdict (Unit {0})
check_file lent vars cs s = check_steps lent vars (suc (length s)) 1 cs s
