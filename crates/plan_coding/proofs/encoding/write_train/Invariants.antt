-- The bytes of the first intervals stand from the train's first variable on.
use Rattle.spec.specs.Instance.{instance_of}
use Rattle.spec.specs.Plan.{plan_of}
use Rattle.spec.specs.Formula.{first_var}
use Rattle.spec.specs.Held.{held}
use Rattle.plan_coding.specs.Encoded.{interval_bytes}
use Rattle.plan_coding.proofs.Rows.{Rows}
use Rattle.plan_coding.proofs.encoding.write_train.Given as goal

abbrev pub invariant-loop-interval : goal.invariant-loop-interval
invariant-loop-interval l =
    let I = instance_of (held l.b) in
    Rows (interval_bytes I (plan_of I l.plan) l.train) l.initial.out (first_var I l.train) l.interval l.out
