-- `moves::move_at` meets its contract: the move's two bytes are where the plan has them. Assumes nothing.
use borrow.Author.Rules.{rules}
use native.Mathlib.Omega.{arith}
use mathlib.Core.Path.{ap, ◌∙◌}
use Prim.Native.Nat.{ℕ, ◌<◌}
use Rattle.spec.specs.Numbers.{field}
use Rattle.spec.specs.Instance.{instance_of}
use Rattle.spec.specs.Plan.{move_of}
use Rattle.spec.specs.Held.{held}
use Rattle.tables.proofs.Small.{trains-is, intervals-is}
use Rattle.layout.proofs.Places.{move-fits, move-is}
use Rattle.layout.proofs.moves.move_at.Statement.{statement}
use Rattle.layout.proofs.moves.move_at.Tie as tie

move-place-requires : tie.Need-move_place-requires
move-place-requires c κs = search rules

pair-requires : tie.Need-pair-requires
pair-requires c κs =
    let s = c.before.before in
    let a = s.args in
    let p = s.requires in
    let I = instance_of (held a.b) in
    let known : a.train < I.trains = omega (arith, p.2, trains-is a.b p.0) in
    let inside : a.interval < I.intervals = omega (arith, p.3, intervals-is a.b p.0) in
    omega (arith, p.1, c.move_place.ensures, move-fits I a.train a.interval known inside)

move-of-requires : tie.Need-move_of-requires
move-of-requires c κs = search rules

returns : tie.Need-returns
returns c =
    let m = c.before.before in
    let a = m.args in
    c.move_of.ensures
    ∙ ap move_of (c.pair.ensures.0 ∙ ap (λ (at : ℕ). field a.plan.now at 2) m.move_place.ensures)
    ∙ move-is _ _ _ _

pub move_at_spec : {M : Type 1} → statement M
move_at_spec = tie.close (tie.spec move-place-requires pair-requires move-of-requires returns)
