use Rattle.std.proofs.Common.{◌≡◌, ap₂, ◌∙◌, subst, ℕ, ◌+◌, ◌*◌, ◌<◌, T, ltb, arith}
use Rattle.laws.proofs.Tests.{ltb_iff}
use Rattle.spec.specs.Plan.{if_run}
use Rattle.listing.specs.Listed.{train_bytes}
use Rattle.layout.specs.declared.moves.Move.{Move}
use Rattle.layout.specs.declared.moves.Move.TheVariants.{Run}
use Rattle.layout.specs.Moves.{held_move}
use Rattle.plan_rules.specs.Marks.{stretch_of}
use Rattle.plan_rules.proofs.Stretches.{stretch-told, stretch-none}
use Rattle.plan_rules.proofs.apart.stretch_of.Goals as goal

-- a run's number
few : {m : Move} {r : ℕ} → m ≡ Run r → T (if_run (held_move m) (λ k. ltb k 256)) → r < 256
unfolding if_run
few {r = r} e h = (ltb_iff r 256).0 (subst (λ (o : Move). T (if_run (held_move o) (λ k. ltb k 256))) e h)

pub start_of-requires : goal.start_of-requires
start_of-requires c = few c.in-Run.is c.requires.2

pub overflow_add-at : goal.overflow_add-at
overflow_add-at c = omega (arith, few c.in-Run.is c.requires.2, c.start_of.ensures)

pub overflow_add-part : goal.overflow_add-part
overflow_add-part c = omega (arith, few c.in-Run.is c.requires.2)

pub bounds-runs-part : goal.bounds-runs-part
bounds-runs-part c = omega (arith, few c.in-Run.is c.requires.2)

pub returns-in-Run : goal.returns-in-Run
unfolding stretch_of
returns-in-Run c =
    ap₂ (λ (at size : ℕ). record { at = c.args.train * train_bytes + at; size = size }) c.start_of.ensures c.from-size.ensures
    ∙ stretch-told _ _ c.in-Run.is

pub returns-in-Absent : goal.returns-in-Absent
returns-in-Absent c = stretch-none _ _ c.in-Absent.is
