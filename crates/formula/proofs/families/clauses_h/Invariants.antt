use Rattle.std.proofs.Common.{◌≡◌}
use Rattle.clauses.proofs.Turns.{Ahead}
use Rattle.formula.proofs.Meeting.{behind}
use Rattle.formula.proofs.families.clauses_h.Given as goal

-- what is left to pass are the clauses of the bytes that the iterator has left
abbrev pub invariant-loop-meet : goal.invariant-loop-meet
invariant-loop-meet l =
    (l.meet-iterator.size ≡ 3) × Ahead (behind l.claims l.meets) (behind l.claims l.meet-iterator.rest.now) l.fn.walk l.walk
