-- The verdict of each program over the checks, and what the program says of it. Assumes nothing.
use Rattle.std.specs.Prelude.{◌≡◌, Result, Ok, Err, Bool, true, false, cond, ℕ, ◌≤◌, [], length}
use Rattle.std.proofs.Math.Option.{Option, none, some}
use Rattle.std.proofs.lemmas.List.Edits.{sets}
use Rattle.spec.specs.Lists.{Bytes, Verdict, accepted, refused, and_then}
use Rattle.spec.specs.Held.{held_option}
use Rattle.spec.specs.Entry.{check_assignment, unpack_plan, check_plan, check_refutation}
use Rattle.spec.specs.Carriers.{list_carriers}
use Rattle.spec.specs.Programs.{program_lent, accepted_line, printed}
use Rattle.programs.specs.declared.verdicts.Check.{Check}
use Rattle.programs.specs.declared.verdicts.Check.TheVariants.{Assignment, Unpacking, Plan, Refutation, Carriers}
use Rattle.programs.specs.declared.verdicts.Said.{Said}

-- the verdict that an answer tells whose refusal is a number and a detail
abbrev pub numbers_told : {A : Type 0} → Result A (ℕ × ℕ) → Verdict A
numbers_told (Ok a) = accepted a
numbers_told (Err r) = refused r.0 r.1

-- a verdict without a result, as one with an empty result
abbrev pub bare : Verdict (Unit {0}) → Verdict Bytes
bare v = and_then v λ _. accepted []

-- the verdict on a book and a second input, under a cap or none, with this much room for a result; a plan's carriers know no cap
unfoldable pub verdict_of : Check → Option ℕ → Bytes → Bytes → ℕ → Verdict Bytes
verdict_of Assignment cap book s room = bare (check_assignment cap book s)
verdict_of Unpacking cap book s room = unpack_plan cap book s room
verdict_of Plan cap book s room = check_plan cap book s room
verdict_of Refutation cap book s room = bare (check_refutation cap book s program_lent)
verdict_of Carriers cap book s room = list_carriers book s room

-- whether what is accepted has a result
abbrev pub has_result : Check → Bool
has_result Assignment = false
has_result Unpacking = true
has_result Plan = true
has_result Refutation = false
has_result Carriers = true

-- which check is made: an assignment's plan is unpacked where a file is named for it, and only there
abbrev pub asked_check : Check → Bool → Check
asked_check Assignment named = cond named Unpacking Assignment
asked_check Unpacking named = Unpacking
asked_check Plan named = Plan
asked_check Refutation named = Refutation
asked_check Carriers named = Carriers

-- how many bytes the result has, where there is one
abbrev pub result_length : Verdict Bytes → Option ℕ
result_length (accepted xs) = some (length xs)
result_length (refused n d) = none

-- the verdict's line stands at the front of what was lent for it, whole, and `r` says how long it is, and how long the result is where the
-- verdict accepts
pub record Tells (v : Verdict Bytes) (before after : Bytes) (r : Said) : Type 0 where
  pub text : after ≡ sets before 0 (printed (λ _. accepted_line) v)
  pub text-length : r.len ≡ length (printed (λ _. accepted_line) v)
  pub whole : r.len ≤ 64
  pub result : held_option r.result ≡ result_length v
