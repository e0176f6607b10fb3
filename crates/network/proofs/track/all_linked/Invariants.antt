-- The place is linked where what is left of it is, and each directed segment that is left is one of the book.
use Rattle.std.proofs.Common.{◌≡◌, ◌*◌, ltb, take}
use Rattle.std.specs.Slice.Iter.{windows_rest, windows_size}
use Rattle.std.proofs.Math.Dec.{T}
use Rattle.spec.specs.Lists.{all}
use Rattle.spec.specs.Runs.{linked}
use Rattle.spec.specs.Held.{held}
use Rattle.network.proofs.track.all_linked.Given as goal

abbrev pub invariant-loop-pair : goal.invariant-loop-pair
invariant-loop-pair l = record {
  in_twos : windows_size l.pair-iterator ≡ 2;
  known : T (all (λ d. ltb d (2 * l.b.segment_count)) (windows_rest l.pair-iterator));
  same : linked (held l.b) (take l.n l.fn.place) ≡ linked (held l.b) (windows_rest l.pair-iterator);
}
