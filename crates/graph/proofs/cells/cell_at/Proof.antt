-- `cells::cell_at` meets its contract: the train's part of the table is lent. Assumes nothing.
use native.Mathlib.Omega.{arith}
use mathlib.Core.Path.{ap, ◌∙◌}
use Prim.Native.Nat.{◌+◌, ◌*◌, ◌≤◌, ◌<◌}
use lib.ListN.{length}
use Rattle.spec.specs.Instance.{instance_of}
use Rattle.spec.specs.Plan.{Move}
use Rattle.spec.specs.Page.{shown_move, shown_of, cell}
use Rattle.spec.specs.Held.{held}
use Rattle.listing.specs.Listed.{train_bytes}
use Rattle.tables.proofs.Here.{runs-lent, length-here, length-asks, few-trains}
use Rattle.plan_rules.specs.Kept.{Planned}
use Rattle.plan_rules.proofs.Ready.{move_asks, move-own}
use Rattle.graph.proofs.cells.cell_at.Statement.{statement}
use Rattle.graph.proofs.cells.cell_at.Tie as tie

module _ (s : tie.Start) where
  planned : Planned s.args.b s.args.train s.args.plan.now
  planned = record { passed = s.requires.0.counted.passed; known = s.requires.2; fits = s.requires.1 }

  few : s.args.train < 8
  few = few-trains s.args.b s.requires.0.counted.passed s.args.train s.requires.2

  fits : s.args.train * train_bytes + train_bytes ≤ length s.args.runs.now
  fits = omega (arith, few, s.requires.0.long)

cell-of-requires : tie.Need-cell_of-requires
cell-of-requires c κs =
    let l = c.before in
    let m = l.before.before in
    let s = m.before.before.before in
    let p = s.requires.0.counted.passed in
    let known = length-here s.args.b p s.args.train s.requires.2 l.length_in_segments-l.ensures in (
      record {
        passed = p;
        known = s.requires.2;
        reached = known.0;
        short = known.1;
        table = runs-lent s.args.train s.requires.2 s.requires.0;
      },
      move-own (planned s) m.move_at-m.result s.args.interval s.requires.3 m.move_at-m.ensures,
    )

returns : tie.Need-returns
unfolding shown_of
returns c =
    let m = c.before.before.before.before in
    let s = m.before.before.before in
    c.cell_of.ensures
    ∙ ap (λ (o : Move). cell (shown_move (instance_of (held s.args.b)) s.args.train o)) m.move_at-m.ensures

pub cell_at_spec : {M : Type 1} → statement M
cell_at_spec =
    tie.close
    (tie.spec
    (λ c κs. let s = c.before.before in move_asks (planned s) s.args.interval s.requires.3)
    (λ c. omega (arith, few c.before.before.before))
    (λ c. few c.before.before.before)
    (λ c κs. let s = c.before.before.before.before in length-asks s.args.b s.requires.0.counted.passed s.args.train s.requires.2)
    (λ c. omega (arith, few c.before.before.before.before.before))
    (λ c. omega (arith, few c.before.before.before.before.before))
    (λ c. omega arith)
    (λ c. omega (arith, fits c.before.before.before.before.before))
    (λ c. omega (arith, fits c.before.before.before.before.before))
    cell-of-requires
    returns)
