-- `meets::list_at`: what meets each of the first s segments stands in the table from `at` on, and `end` is where it ends.
use Rattle.std.proofs.Common.{◌+◌, ◌*◌, ◌≤◌}
use Rattle.spec.specs.Instance.{instance_of}
use Rattle.spec.specs.Held.{held}
use Rattle.tables.specs.Meets.{meets_of}
use Rattle.tables.proofs.MeetRows.{Listed}
use Rattle.tables.proofs.meets.list_at.Given as goal

abbrev pub invariant-loop-s : goal.invariant-loop-s
invariant-loop-s l =
    (l.end ≤ 1500000 + l.s * 192) × Listed (meets_of (instance_of (held l.fn.b)) l.node) l.initial.table l.at l.s l.table l.end
