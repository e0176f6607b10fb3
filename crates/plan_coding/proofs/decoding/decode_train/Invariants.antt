-- The numbers of the first intervals stand in the output from the train's first move on.
use Rattle.spec.specs.Numbers.{little_endian}
use Rattle.spec.specs.Instance.{instance_of}
use Rattle.spec.specs.Plan.{move_at, move_code}
use Rattle.spec.specs.Assignment.{assigned, decoded}
use Rattle.spec.specs.Held.{held}
use Rattle.plan_coding.proofs.Rows.{Rows}
use Rattle.plan_coding.proofs.decoding.decode_train.Given as goal

abbrev pub invariant-loop-interval : goal.invariant-loop-interval
invariant-loop-interval l =
    let I = instance_of (held l.b) in
    Rows (λ t. little_endian 2 (move_code ((decoded I (assigned l.values)).move l.train t))) l.initial.out (move_at I l.train 0) l.interval l.out
