-- The move is absent, or it is not: both ways round.
use Rattle.std.proofs.Common.{◌≡◌, ◌≢◌, Bool, true, false, refl, sym, ap, ◌∙◌, not, cond}
use mathlib.Core.Bool.{beq}
use Rattle.spec.specs.Plan.{is_absent}
use Rattle.layout.specs.declared.moves.Move.{Move}
use Rattle.layout.specs.declared.moves.Move.TheVariants.{Run, Absent, Gone}
use Rattle.layout.specs.Moves.{held_move}
use Rattle.plan_rules.proofs.rules.absent_if.Goals as goal
use Rattle.plan_rules.proofs.rules.absent_if.Goals.{in-Absent, in_default}

alike : (absent before : Bool) → beq absent before ≡ cond before absent (not absent)
alike true true = refl
alike true false = refl
alike false true = refl
alike false false = refl

absent : (m : Move) → m ≡ Absent → true ≡ is_absent (held_move m)
unfolding is_absent
absent m e = ap (λ (o : Move). is_absent (held_move o)) (sym e)

present : (m : Move) → m ≢ Absent → false ≡ is_absent (held_move m)
unfolding is_absent
present (Run r) n = refl
present Absent n = absurd (n refl)
present Gone n = refl

pub returns : goal.returns
returns c =
    let is : c.match-matches.matches ≡ is_absent (held_move c.args.m) =
    elim c.match-matches.branch [
      | in-Absent w ↦ w.matches-is ∙ absent _ w.in-Absent.is
      | in_default w ↦ w.matches-is ∙ present _ w.in_default.not-Absent
    ] in
    alike _ _ ∙ ap (λ (a : Bool). cond c.args.before a (not a)) is
