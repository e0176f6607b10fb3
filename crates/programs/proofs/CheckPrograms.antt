-- What the programs print of a book and a second input, and of an old book, is the specification's: from the parts of them that a
-- program holds, and with the slices that it lends. Assumes nothing.
use mathlib.Core.Path.{◌≡◌, refl, ap, ap₂, ◌∙◌}
use mathlib.Core.Bool.{Bool, true, false, ◌||◌}
use mathlib.Core.Option.{Option}
use Prim.Native.Nat.{ℕ}
use native.Mathlib.Omega.{arith}
use mathlib.Core.List.{[]}
use Rattle.spec.specs.Lists.{Bytes, Verdict, accepted, refused, and_then}
use Rattle.spec.specs.Entry.{written, check_assignment, unpack_plan, check_refutation, check_fewest}
use Rattle.spec.specs.Upgrade.{upgrade_book}
use Rattle.spec.specs.Page.{print_graph}
use Rattle.spec.specs.Programs.{slice_bytes, slice_of, program_lent, is_long, unless_long, accepted_line, printed, print_assignment, print_unpacking, print_plan, print_refutation, print_fewest, print_upgrade, print_page, print_carriers}
use Rattle.laws.proofs.Tests.{from_false}
use Rattle.demands.proofs.Unpacking.{same_line}
use Rattle.programs.proofs.FormulaProgram.{held, held_whole, unless-same}
use Rattle.programs.specs.declared.verdicts.Check.{Check}
use Rattle.programs.specs.declared.verdicts.Check.TheVariants.{Assignment, Unpacking, Plan, Refutation, Carriers}
use Rattle.programs.specs.Verdicts.{bare, verdict_of, has_result, asked_check}

-- the output that a program lends
pub output-lent : 65536 ≡ slice_of 1
unfolding slice_of slice_bytes
output-lent = refl

neither : (a b : Bool) → (a || b) ≡ false → (a ≡ false) × (b ≡ false)
neither false b h = (refl, h)
neither true b h = let z : ◌≡◌ {A = ℕ} 0 1 = cc in let no' : ⊥ = omega arith in absurd no'

line : {A : Type 0} → Verdict A → Bytes
line v = printed (λ _. accepted_line) v

bare-line : (long : Bool) (v : Verdict (Unit {0})) → line (unless_long long (bare v)) ≡ line (unless_long long v)
unfolding line bare and_then unless_long printed
bare-line true v = refl
bare-line false (accepted u) = refl
bare-line false (refused n d) = refl

bare-written : (v : Verdict (Unit {0})) → written (bare v) ≡ []
unfolding bare and_then written
bare-written (accepted u) = refl
bare-written (refused n d) = refl

module _ (cap : Option ℕ) (book s : Bytes) where
  abbrev long : Bool
  long = is_long book || is_long s

  -- a program's verdict, on what it holds
  abbrev verdict : Check → Verdict Bytes
  verdict check = unless_long long (verdict_of check cap (held book) (held s) 65536)

  whole : (check : Check) → verdict check ≡ unless_long long (verdict_of check cap book s (slice_of 1))
  whole check = unless-same long λ h.
      ap₂ (λ (b t : Bytes). verdict_of check cap b t 65536)
      (held_whole book (neither (is_long book) (is_long s) h).0)
      (held_whole s (neither (is_long book) (is_long s) h).1)
      ∙ ap (verdict_of check cap book s) output-lent

  pub assignment-printed : printed (λ _. accepted_line) (verdict Assignment) ≡ print_assignment cap book s
  unfolding verdict_of print_assignment line
  assignment-printed = ap line (whole Assignment) ∙ bare-line long (check_assignment cap book s)

  pub unpacking-printed : printed (λ _. accepted_line) (verdict Unpacking) ≡ print_unpacking cap book s
  unfolding verdict_of print_unpacking line
  unpacking-printed = ap line (whole Unpacking)

  pub plan-printed : printed (λ _. accepted_line) (verdict Plan) ≡ print_plan cap book s
  unfolding verdict_of print_plan line
  plan-printed = ap line (whole Plan)

  pub refutation-printed : printed (λ _. accepted_line) (verdict Refutation) ≡ print_refutation cap book s
  unfolding verdict_of print_refutation line
  refutation-printed = ap line (whole Refutation) ∙ bare-line long (check_refutation cap book s program_lent)

  pub carriers-printed : printed (λ _. accepted_line) (verdict Carriers) ≡ print_carriers book s
  unfolding verdict_of print_carriers line
  carriers-printed = ap line (whole Carriers)

  -- what print_graph prints of a book and a plan
  pub graph-printed : printed (λ page. page) (unless_long long (print_graph (held book) (held s) 65536)) ≡ print_page book s
  unfolding print_page
  graph-printed =
      ap (λ (v : Verdict Bytes). printed (λ page. page) v)
      (unless-same long λ h.
      ap₂ (λ (b t : Bytes). print_graph b t 65536)
      (held_whole book (neither (is_long book) (is_long s) h).0)
      (held_whole s (neither (is_long book) (is_long s) h).1)
      ∙ ap (print_graph book s) output-lent)

-- What check_assignment asks has a result exactly where a file is named for it, and prints one line, named or not.
pub asked-result : (named : Bool) → has_result (asked_check Assignment named) ≡ named
unfolding asked_check has_result
asked-result true = refl
asked-result false = refl

pub asked-printed : (cap : Option ℕ) (book s : Bytes) (named : Bool)
    → printed (λ _. accepted_line) (verdict cap book s (asked_check Assignment named)) ≡ print_assignment cap book s
unfolding asked_check
asked-printed cap book s true = unpacking-printed cap book s ∙ same_line cap book s
asked-printed cap book s false = assignment-printed cap book s

-- The plan that it writes is the unpacker's.
pub plan-unpacked : (cap : Option ℕ) (book s : Bytes)
    → written (verdict cap book s (asked_check Assignment true))
    ≡ written (unless_long (is_long book || is_long s) (unpack_plan cap book s (slice_of 1)))
unfolding asked_check verdict_of
plan-unpacked cap book s = ap written (whole cap book s Unpacking)

-- a check that has no result writes none, whatever its verdict
pub no_result : (check : Check) (cap : Option ℕ) (book s : Bytes) (room : ℕ) → has_result check ≡ false → written (verdict_of check cap book s room) ≡ []
unfolding has_result verdict_of
no_result Assignment cap book s room e = bare-written (check_assignment cap book s)
no_result Unpacking cap book s room e = absurd (from_false e tt)
no_result Plan cap book s room e = absurd (from_false e tt)
no_result Carriers cap book s room e = absurd (from_false e tt)
no_result Refutation cap book s room e = bare-written (check_refutation cap book s program_lent)

-- what check_fewest prints of a book, n and both of a solver's inputs
pub fewest-printed : (book : Bytes) (n : ℕ) (s r : Bytes)
    → printed (λ _. accepted_line) (unless_long (is_long book || is_long s || is_long r) (bare (check_fewest (held book) n (held s) (held r) program_lent)))
    ≡ print_fewest book n s r
unfolding print_fewest line
fewest-printed book n s r =
    ap line
    (unless-same (is_long book || is_long s || is_long r) λ h.
    let two = neither (is_long book || is_long s) (is_long r) h in
    let one = neither (is_long book) (is_long s) two.0 in
    ap₂ (λ (b t : Bytes). bare (check_fewest b n t (held r) program_lent)) (held_whole book one.0) (held_whole s one.1)
    ∙ ap (λ (t : Bytes). bare (check_fewest book n s t program_lent)) (held_whole r two.1))
    ∙ bare-line (is_long book || is_long s || is_long r) (check_fewest book n s r program_lent)

-- what upgrade_book prints of an old book
pub upgrade-printed : (old : Bytes) → printed (λ _. accepted_line) (unless_long (is_long old) (upgrade_book (held old) 65536)) ≡ print_upgrade old
unfolding print_upgrade line
upgrade-printed old =
    ap line
    (unless-same (is_long old) λ h.
    ap (λ (s : Bytes). upgrade_book s 65536) (held_whole old h) ∙ ap (upgrade_book old) output-lent)
