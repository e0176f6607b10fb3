use Rattle.std.proofs.Common.{◌≡◌, ◌-◌}
use Rattle.spec.specs.Lists.{least_from}
use Rattle.spec.specs.Instance.{instance_of}
use Rattle.spec.specs.Plan.{plan_of}
use Rattle.spec.specs.Carriers.{meets_higher, lower_train}
use Rattle.spec.specs.Held.{held}
use Rattle.carriers.proofs.meeting.first_pair.Given as goal

-- the least train that meets a higher one is the least from `lower` on
abbrev pub invariant-loop-lower : goal.invariant-loop-lower
invariant-loop-lower l =
    let I = instance_of (held l.b) in
    let p = plan_of I l.plan in
    lower_train I p l.interval ≡ least_from (meets_higher I p l.interval) l.lower (l.b.train_count - l.lower)
