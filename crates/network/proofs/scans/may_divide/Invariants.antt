-- The answer is whether a segment from the turn's on is hit, and `seen` tells of the nodes that a segment of the TTD before touches.
use Rattle.std.proofs.Common.{◌≡◌, length}
use Rattle.spec.specs.Read.{may_divide}
use Rattle.spec.specs.Held.{held}
use Rattle.network.proofs.Dividing.{Marks, hit_from}
use Rattle.network.proofs.scans.may_divide.Given as goal

abbrev pub invariant-loop-s : goal.invariant-loop-s
invariant-loop-s l = record {
  long : length l.seen ≡ 96;
  same : may_divide (held l.fn.b) l.ttd ≡ hit_from l.fn.b l.ttd l.s-index;
  marked : Marks l.fn.b l.ttd l.s-index l.seen;
}
