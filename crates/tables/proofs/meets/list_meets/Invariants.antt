-- `meets::list_meets`: what meets at each of the first nodes stands in the table from 0 on, and `end` is where it ends.
use Rattle.std.proofs.Common.{◌*◌, ◌≤◌}
use Rattle.spec.specs.Instance.{instance_of}
use Rattle.spec.specs.Held.{held}
use Rattle.tables.specs.Meets.{meets_at}
use Rattle.tables.proofs.MeetRows.{Listed}
use Rattle.tables.proofs.meets.list_meets.Given as goal

abbrev pub invariant-loop-node : goal.invariant-loop-node
invariant-loop-node l =
    (l.end ≤ l.node * 12288) × Listed (meets_at (instance_of (held l.b))) l.initial.table 0 l.node l.table l.end
