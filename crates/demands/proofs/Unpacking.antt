-- P6: an assignment is judged by one entry point, which is lent no plan slice, and its plan unpacked by another, which judges it
-- first. Both refuse alike, under every cap, and together they do what the one function did before, when there was none. Assumes nothing.
use mathlib.Core.Path.{◌≡◌, refl, sym, ap, ◌∙◌}
use mathlib.Core.Logic.{◌↔◌}
use mathlib.Core.Bool.{Bool, true, false, ◌||◌}
use mathlib.Core.Option.{Option, none}
use Prim.Native.Nat.{ℕ, ◌*◌, ◌≤◌}
use native.Mathlib.Nat.{mul-le-mul, mul-le-mul_right}
use native.Mathlib.Omega.{arith}
use lib.ListN.{length}
use lib.Dec.{leb}
use Rattle.laws.proofs.Tests.{and-iff, leb-iff}
use Rattle.spec.specs.Lists.{Bytes, Verdict, accepted, refused, and_then}
use Rattle.spec.specs.Book.{Book}
use Rattle.spec.specs.Read.{read_book, between, head_fits}
use Rattle.spec.specs.Instance.{instance_of, compile, under}
use Rattle.spec.specs.Plan.{plan_length}
use Rattle.spec.specs.Assignment.{decode}
use Rattle.spec.specs.Entry.{overwrite, written, demand, read_instance, read_under, judge_assignment, check_assignment, unpacked_for, unpack_plan, plan_output}
use Rattle.spec.specs.Programs.{slice_bytes, slice_of, unless_long, is_long, accepted_line, printed, print_assignment, print_unpacking}
use Rattle.demands.proofs.Wellformed.{parts}
use Rattle.demands.proofs.Reading.{read-well-formed}
use Rattle.demands.proofs.Entries.{demand-iff, then-goes, read-instance, check-assignment}
use Rattle.demands.proofs.Reasons.{AssignmentFault, assignment-fault, judged-refused}
use Rattle.demands.proofs.Refusals.{stops, assignment-judged}
use Rattle.demands.proofs.Uncapped.{read_none, decode-same}

-- ---- the one function that there was before

-- What the one function returned: the book, 12 by the plan's length, the judgement, and the plan.
abbrev pub checked_before : Bytes → Bytes → ℕ → Verdict Bytes
checked_before book assignment plan_slice =
    and_then (read_instance book) λ I.
    and_then (demand (leb (plan_length I) plan_slice) 12) λ _.
    and_then (judge_assignment I assignment) λ _.
    accepted (decode I assignment)

-- What it left in the plan slice.
abbrev pub plan_before : Bytes → Bytes → Bytes → Bytes
plan_before book assignment old = overwrite old (written (checked_before book assignment (length old)))

-- What the program over it printed, with a third name and without one.
abbrev pub line_before : Bytes → Bytes → Bytes
line_before book assignment =
    printed (λ _. accepted_line) (unless_long (is_long book || is_long assignment) (checked_before book assignment (slice_of 1)))

-- a verdict alone, without what was made
abbrev pub verdict_alone : {A : Type 0} → Verdict A → Verdict (Unit {0})
verdict_alone v = and_then v λ _. accepted tt

-- "a plan slice long enough": as long as the plan of the book, where the bytes are one
abbrev pub RoomForPlan : Bytes → ℕ → Type 0
RoomForPlan book plan_slice = (b : Book) → read_book book ≡ accepted b → plan_length (instance_of b) ≤ plan_slice

-- what was made plays no part in the verdict, nor in its line
alone-same : {A : Type 0} (v : Verdict (Unit {0})) (a : A) → verdict_alone (and_then v λ _. accepted a) ≡ v
unfolding and_then
alone-same (accepted tt) a = refl
alone-same (refused k d) a = refl

line-alone : {A : Type 0} (long : Bool) (v : Verdict A)
    → printed (λ _. accepted_line) (unless_long long (verdict_alone v)) ≡ printed (λ _. accepted_line) (unless_long long v)
unfolding and_then unless_long printed
line-alone true v = refl
line-alone false (accepted a) = refl
line-alone false (refused k d) = refl

-- ---- both refuse alike

module _ (cap : Option ℕ) (book assignment : Bytes) where
  -- "both refuse by 13 and 14": the judge, of a book that passes, exactly for what is wrong with the assignment, with its number and detail
  pub judge-refuses : (b : Book) → read_book book ≡ accepted b → (k d : ℕ)
      → (check_assignment cap book assignment ≡ refused k d) ↔ AssignmentFault (under cap (instance_of b)) assignment k d
  judge-refuses b read k d =
      let same = check-assignment cap book b read assignment in (
        (λ e. assignment-fault (under cap (instance_of b)) assignment (sym same ∙ e)),
        (λ f. same ∙ assignment-judged (under cap (instance_of b)) assignment k d f),
      )

  module _ (b : Book) (read : read_book book ≡ accepted b) (plan_slice : ℕ) (room : plan_length (instance_of b) ≤ plan_slice) where
    -- "the other unpacks the plan from an assignment, judging it first": where the book passes and 12 is passed, the unpacker is the judge,
    -- and then the plan
    pub unpacked : unpack_plan cap book assignment plan_slice
        ≡ (and_then (check_assignment cap book assignment) λ _. accepted (decode (instance_of b) assignment))
    unfolding unpack_plan unpacked_for plan_length
    unpacked =
        let I = under cap (instance_of b) in
        then-goes _ (read-instance cap book b read)
        ∙ then-goes _ ((demand-iff (leb (plan_length I) plan_slice) 12).1 ((leb-iff (plan_length I) plan_slice).1 room))
        ∙ ap (λ v. and_then v λ _. accepted (decode I assignment)) (sym (check-assignment cap book b read assignment))
        ∙ ap (λ (s : Bytes). and_then (check_assignment cap book assignment) λ _. accepted s) (decode-same cap (instance_of b) assignment)

    -- "Once 12 is passed, both refuse by 13 and 14 with the same detail": the unpacker so too,
    pub unpacker-refuses : (k d : ℕ)
        → (unpack_plan cap book assignment plan_slice ≡ refused k d) ↔ AssignmentFault (under cap (instance_of b)) assignment k d
    unpacker-refuses k d = (
      (λ e. (judge-refuses b read k d).0 (judged-refused (check_assignment cap book assignment) _ (sym unpacked ∙ e))),
      (λ f. unpacked ∙ stops _ ((judge-refuses b read k d).1 f)),
    )

    -- so one refuses with a number and a detail exactly where the other does,
    pub refuse-alike : (k d : ℕ)
        → (check_assignment cap book assignment ≡ refused k d) ↔ (unpack_plan cap book assignment plan_slice ≡ refused k d)
    refuse-alike k d = (
      (λ e. (unpacker-refuses k d).1 ((judge-refuses b read k d).0 e)),
      (λ e. (judge-refuses b read k d).1 ((unpacker-refuses k d).0 e)),
    )

  -- and the judge's verdict is the unpacker's, for a plan slice long enough.
  pub judge-alike : (plan_slice : ℕ) → RoomForPlan book plan_slice
      → check_assignment cap book assignment ≡ verdict_alone (unpack_plan cap book assignment plan_slice)
  unfolding check_assignment unpack_plan read_under read_instance
  judge-alike n room = go (read_book book) refl
    where
      go : (v : Verdict Book) → read_book book ≡ v → check_assignment cap book assignment ≡ verdict_alone (unpack_plan cap book assignment n)
      go (refused k d) e = let r = stops _ (stops _ e) in stops _ r ∙ sym (stops _ (stops _ r))
      go (accepted b) e = sym (alone-same (check_assignment cap book assignment) _) ∙ ap verdict_alone (sym (unpacked b e n (room b e)))

-- ---- as before: there was no cap then

module _ (book assignment : Bytes) where
  -- "for a plan slice long enough the pair's outcome is what it was before": the unpacker's verdict, its plan and what it leaves in the slice
  -- are the one function's, for a slice of any length,
  pub unpacked-as-before : (plan_slice : ℕ) → unpack_plan none book assignment plan_slice ≡ checked_before book assignment plan_slice
  unfolding unpack_plan unpacked_for
  unpacked-as-before n = ap (λ v. and_then v λ I. unpacked_for I assignment n) (read_none book)

  pub plan-as-before : (old : Bytes) → plan_output none book assignment old ≡ plan_before book assignment old
  unfolding plan_output
  plan-as-before old = ap (λ v. overwrite old (written v)) (unpacked-as-before (length old))

  -- and the judge's verdict is.
  pub judged-as-before : (plan_slice : ℕ) → RoomForPlan book plan_slice
      → check_assignment none book assignment ≡ verdict_alone (checked_before book assignment plan_slice)
  judged-as-before n room = judge-alike none book assignment n room ∙ ap verdict_alone (unpacked-as-before n)

-- ---- the program

-- what the program lends is long enough for every book's plan
pub program-room : (book : Bytes) → RoomForPlan book (slice_of 1)
unfolding plan_length instance_of compile head_fits between slice_of slice_bytes
program-room book b read =
    let w = parts b (read-well-formed book b read) in
    let few : b.intervals ≤ 256 = (simp (and-iff, leb-iff) at w.head).1.1 in
    let moves : length b.trains * (b.intervals * 2) ≤ 8 * (256 * 2) = mul-le-mul w.few_trains (mul-le-mul_right 2 few) in
    omega (arith, w.few_nodes, moves)

-- "Every program is moved to the pair": it prints what it printed before, whether it judges alone or unpacks.
pub judging-prints : (book assignment : Bytes) → print_assignment none book assignment ≡ line_before book assignment
unfolding print_assignment
judging-prints book assignment =
    let long = is_long book || is_long assignment in
    ap (λ v. printed (λ _. accepted_line) (unless_long long v)) (judged-as-before book assignment (slice_of 1) (program-room book))
    ∙ line-alone long (checked_before book assignment (slice_of 1))

pub unpacking-prints : (book assignment : Bytes) → print_unpacking none book assignment ≡ line_before book assignment
unfolding print_unpacking
unpacking-prints book assignment =
    ap (λ v. printed (λ _. accepted_line) (unless_long (is_long book || is_long assignment) v)) (unpacked-as-before book assignment (slice_of 1))

-- So the line is the same, whether a file is named for the plan or not: under a cap too.
pub same_line : (cap : Option ℕ) (book assignment : Bytes) → print_unpacking cap book assignment ≡ print_assignment cap book assignment
unfolding print_assignment print_unpacking
same_line cap book assignment =
    let long = is_long book || is_long assignment in
    sym (line-alone long (unpack_plan cap book assignment (slice_of 1)))
    ∙ ap (λ v. printed (λ _. accepted_line) (unless_long long v)) (sym (judge-alike cap book assignment (slice_of 1) (program-room book)))
