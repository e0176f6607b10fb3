-- `meets::list_of`: the pairs of the first u second segments stand in the table from `at` on, and `end` is where they end.
use Rattle.std.proofs.Common.{◌+◌, ◌*◌, ◌≤◌}
use Rattle.spec.specs.Held.{held}
use Rattle.tables.proofs.MeetRows.{Listed, pair}
use Rattle.tables.proofs.meets.list_of.Given as goal

abbrev pub invariant-loop-u : goal.invariant-loop-u
invariant-loop-u l =
    (l.u ≤ 64) × (l.end ≤ 2000000 + l.u * 3) × Listed (pair (held l.fn.b) l.node l.s) l.initial.table l.at l.u l.table l.end
