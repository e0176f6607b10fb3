-- `moves::plan_length` meets its contract: a plan ends where the moves of a train behind the last would begin. Assumes nothing.
use borrow.Author.Rules.{rules}
use mathlib.Core.Path.{sym, ap, ◌∙◌}
use Prim.Native.Nat.{ℕ}
use Rattle.spec.specs.Instance.{instance_of}
use Rattle.spec.specs.Plan.{move_at}
use Rattle.spec.specs.Held.{held}
use Rattle.tables.proofs.Small.{trains-is}
use Rattle.layout.proofs.Places.{place_end}
use Rattle.layout.proofs.moves.plan_length.Statement.{statement}
use Rattle.layout.proofs.moves.plan_length.Tie as tie

move-place-requires : tie.Need-move_place-requires
move-place-requires c κs = search rules

returns : tie.Need-returns
returns c =
    let b = c.args.b in
    let I = instance_of (held b) in
    c.move_place.ensures ∙ ap (λ (i : ℕ). move_at I i 0) (sym (trains-is b c.requires)) ∙ place_end I

pub plan_length_spec : {M : Type 1} → statement M
plan_length_spec = tie.close (tie.spec move-place-requires returns)
