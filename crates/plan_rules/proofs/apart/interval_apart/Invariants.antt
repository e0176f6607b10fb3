use Rattle.std.proofs.Common.{◌≡◌, not}
use Rattle.spec.specs.Lists.{all, any, up_to, range}
use Rattle.spec.specs.Instance.{instance_of}
use Rattle.spec.specs.Plan.{plan_of, trains_meet, apart_in}
use Rattle.spec.specs.Held.{held}
use Rattle.plan_rules.proofs.Sharing.{Marked}
use Rattle.plan_rules.proofs.apart.interval_apart.Given as goal

-- the answer for all trains is that for those from i on, and the labels that the trains before touch are marked
abbrev pub invariant-loop-i : goal.invariant-loop-i
invariant-loop-i l =
    let I = instance_of (held l.b) in
    let p = plan_of I l.plan in
    record {
      rest : apart_in I p l.interval ≡ all (λ j. not (any (λ i. trains_meet I p l.interval i j) (up_to j))) (range l.i l.b.train_count);
      marked : Marked I p l.interval l.labels (up_to l.i) l.marks;
    }
