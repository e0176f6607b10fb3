-- When the payload of an old frame has its times: contracts of the rewriter's functions ask it. Assumes nothing.
use Rattle.std.specs.Prelude.{◌+◌, ◌≤◌, length}
use Rattle.spec.specs.Lists.{Bytes}
use Rattle.spec.specs.Frames.{Kind, times_at, time_count}

-- they stand within it, and it is no longer than a book's
pub record HasTimes (k : Kind) (p : Bytes) : Type 0 where
  pub inside : times_at k + time_count k ≤ length p
  pub short : length p ≤ 1000
