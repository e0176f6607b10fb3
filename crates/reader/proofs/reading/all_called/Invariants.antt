-- Whether some train lacks a call is whether one from i on does. Assumes nothing.
use Rattle.std.proofs.Common.{◌≡◌}
use Rattle.spec.specs.Lists.{any, up_to, range, empty}
use Rattle.spec.specs.Book.{calls_of}
use Rattle.spec.specs.Held.{held}
use Rattle.reader.proofs.reading.all_called.Given as goal

abbrev pub invariant-loop-i : goal.invariant-loop-i
invariant-loop-i l =
    any (λ j. empty (calls_of (held l.fn.b) j)) (up_to l.fn.b.train_count) ≡ any (λ j. empty (calls_of (held l.fn.b) j)) (range l.i l.fn.b.train_count)
