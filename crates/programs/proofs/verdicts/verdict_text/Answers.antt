-- `verdicts::verdict_text`: 12 where an input is too long, else what the check that is asked for says.
use Rattle.std.proofs.Common.{◌≡◌, refl, ap, ◌∙◌, Bool, false, ℕ, length}
use Rattle.std.proofs.Math.Option.{Option}
use Rattle.spec.specs.Lists.{Bytes, refused}
use Rattle.spec.specs.Held.{held_cap}
use Rattle.spec.specs.Entry.{check_assignment, check_refutation}
use Rattle.spec.specs.Programs.{program_lent, unless_long}
use Rattle.programs.proofs.FormulaProgram.{is-long, not-long}
use Rattle.programs.specs.declared.verdicts.Check.{Check}
use Rattle.programs.specs.Verdicts.{verdict_of}
use Rattle.programs.proofs.Lines.{tells-same, output-same, refused-output, bare-output}
use Rattle.programs.proofs.verdicts.verdict_text.Goals as goal

-- the verdict of the check that is asked for, where no input is too long
asked : (cap : Option ℕ) (book s : Bytes) (room : ℕ) {long : Bool} {check case : Check} → long ≡ false → check ≡ case
    → unless_long long (verdict_of check cap book s room) ≡ verdict_of case cap book s room
asked cap book s room {check = check} h is =
    not-long (verdict_of check cap book s room) h ∙ ap (λ (k : Check). verdict_of k cap book s room) is

pub returns-then-long : goal.returns-then-long
returns-then-long c =
    let q = is-long _ c.if-long.true in
    (tells-same q (c.tell.ensures (refused 12 0) refl), output-same q _ (refused-output c.args.out.now 12 0))

-- a check without a result leaves the output as it was
pub returns-in-Assignment : goal.returns-in-Assignment
unfolding verdict_of
returns-in-Assignment c =
    let q = asked _ _ _ _ c.if-long.false c.in-Assignment.is in
    (tells-same q c.assignment_text.ensures, output-same q _ (bare-output _ (check_assignment (held_cap c.args.cap) c.args.book.now c.args.second.now)))

pub returns-in-Unpacking : goal.returns-in-Unpacking
unfolding verdict_of
returns-in-Unpacking c =
    let q = asked _ _ _ _ c.if-long.false c.in-Unpacking.is in
    (tells-same q c.unpacking_text.ensures.0, output-same q _ c.unpacking_text.ensures.1)

pub returns-in-Plan : goal.returns-in-Plan
unfolding verdict_of
returns-in-Plan c =
    let q = asked _ _ _ _ c.if-long.false c.in-Plan.is in
    (tells-same q c.plan_text.ensures.0, output-same q _ c.plan_text.ensures.1)

pub returns-in-Refutation : goal.returns-in-Refutation
unfolding verdict_of
returns-in-Refutation c =
    let q = asked _ _ _ _ c.if-long.false c.in-Refutation.is in (
      tells-same q c.lent_refutation_text.ensures,
      output-same q _ (bare-output _ (check_refutation (held_cap c.args.cap) c.args.book.now c.args.second.now program_lent)),
    )

pub returns-in-Carriers : goal.returns-in-Carriers
unfolding verdict_of
returns-in-Carriers c =
    let q = asked _ _ _ _ c.if-long.false c.in-Carriers.is in
    (tells-same q c.carriers_text.ensures.0, output-same q _ c.carriers_text.ensures.1)
