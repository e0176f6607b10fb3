use Rattle.std.proofs.Common.{◌≡◌}
use Rattle.spec.specs.Lists.{all, range}
use Rattle.spec.specs.Instance.{instance_of}
use Rattle.spec.specs.Plan.{plan_of, leaves_rightly}
use Rattle.spec.specs.Held.{held}
use Rattle.layout.specs.Moves.{held_move}
use Rattle.plan_rules.proofs.Loops.{prior, leave_step}
use Rattle.plan_rules.proofs.rules.train_leaves.Given as goal

-- the answer for all intervals is that for those from t on, and `before` holds the move before t
abbrev pub invariant-loop-t : goal.invariant-loop-t
invariant-loop-t l =
    let I = instance_of (held l.b) in
    let p = plan_of I l.plan in
    record {
      rest : leaves_rightly I p l.train ≡ all (leave_step I p l.train l.d) (range l.t l.b.intervals);
      last : held_move l.before ≡ prior (p.move l.train) l.t;
    }
