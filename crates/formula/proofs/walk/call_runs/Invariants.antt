use Rattle.std.proofs.Common.{◌+◌}
use Rattle.spec.specs.Lists.{range, each, only}
use Rattle.spec.specs.Instance.{instance_of, in_window}
use Rattle.spec.specs.Formula.{base, servers_f}
use Rattle.spec.specs.Held.{held}
use Rattle.clauses.specs.Walked.{Passes}
use Rattle.formula.proofs.walk.call_runs.Given as goal

abbrev pub invariant-loop-interval : goal.invariant-loop-interval
invariant-loop-interval l =
    let I = instance_of (held l.part.book.now) in
    let i = l.part.first.train in
    Passes (each (range l.departure l.interval) λ t. only (in_window I i l.number (t + 1)) (servers_f I i l.number (base I i t))) l.fn.walk l.walk
