-- The segments of the place are different where those of what is left of it are.
use Rattle.std.proofs.Common.{◌≡◌, map, take, drop}
use Rattle.spec.specs.Lists.{different}
use Rattle.spec.specs.Book.{segment_of}
use Rattle.network.proofs.track.all_different.Given as goal

abbrev pub invariant-loop-i : goal.invariant-loop-i
invariant-loop-i l = let ds = take l.n l.fn.place in different (map segment_of ds) ≡ different (map segment_of (drop l.i ds))
