use Rattle.std.proofs.Common.{◌≡◌}
use Rattle.spec.specs.Lists.{all, range}
use Rattle.spec.specs.Instance.{instance_of}
use Rattle.spec.specs.Plan.{plan_of, runs_on}
use Rattle.spec.specs.Held.{held}
use Rattle.layout.specs.Moves.{held_move}
use Rattle.plan_rules.proofs.Loops.{prior, run_step}
use Rattle.plan_rules.proofs.rules.train_runs.Given as goal

-- the answer for all intervals is that for those from t on, and `before` holds the move before t
abbrev pub invariant-loop-t : goal.invariant-loop-t
invariant-loop-t l =
    let I = instance_of (held l.b) in
    let m = (plan_of I l.plan).move l.train in
    record {
      rest : runs_on I (plan_of I l.plan) l.train ≡ all (λ t. run_step I (plan_of I l.plan) l.train (prior m t) (m t)) (range l.t l.b.intervals);
      last : held_move l.before ≡ prior m l.t;
    }
