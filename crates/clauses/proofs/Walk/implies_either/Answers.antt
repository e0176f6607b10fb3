use Rattle.std.proofs.Common.{arith, ◌∙◌, ◌≡◌, not, ◌||◌}
use Rattle.spec.specs.Assignment.{assigned}
use Rattle.clauses.proofs.Laws.{is_said, judged-is, judged-not, not-said, or-false, or_assoc, judged-same, judged-none}
use Rattle.clauses.proofs.Walk.implies_either.Goals as goal
use Rattle.clauses.proofs.Walk.implies_either.Goals.{then-value, else-value, then-not-value, else-not-value}

pub clause-requires : goal.clause-requires
clause-requires c =
    let values = c.args.self.now.values.now in
    let first : c.if-not-value.value ≡ (not (assigned values c.args.u) || assigned values c.args.v) =
    elim c.if-not-value.branch [
      | then-not-value w ↦ w.value-is ∙ rw (← c.value.ensures, w.if-not-value.true)
      | else-not-value w ↦ w.value-is ∙ rw (← c.value.ensures, w.if-not-value.false) w.value-else-not-value.ensures
    ] in (
      omega arith,
      (
        omega arith,
        rw (not-said _ _ c.requires.0 c.negative.ensures, is_said _ _ c.requires.1 c.positive.ensures, is_said _ _ c.requires.2 c.positive-2.ensures) (judged-same (elim c.if-value.branch [
          | then-value w ↦ rw (← or_assoc, ← first, w.is_true-is, w.if-value.true)
          | else-value w ↦ rw (← or_assoc, ← first, w.if-value.false, w.is_true-is, or-false) w.value-is_true.ensures
        ]) (judged-not _ (judged-is _ (judged-is _ judged-none)))),
      ),
    )

pub returns : goal.returns
returns c = rw (not-said _ _ c.requires.0 c.negative.ensures, is_said _ _ c.requires.1 c.positive.ensures, is_said _ _ c.requires.2 c.positive-2.ensures) at c.clause.ensures
