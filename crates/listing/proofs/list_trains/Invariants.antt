-- The counts and the table are those after the first i trains, and the tables of successors hold the book's.
use Rattle.std.proofs.Common.{◌≡◌, map}
use Rattle.spec.specs.Lists.{up_to}
use Rattle.spec.specs.Held.{held, padded}
use Rattle.listing.specs.Listed.{SuccessorsHeld, train_bytes, runs_after, count_after, runs_at, filled}
use Rattle.listing.proofs.list_trains.Given as goal

abbrev pub invariant-loop-i : goal.invariant-loop-i
invariant-loop-i l = record {
  known : SuccessorsHeld (held l.fn.b) l.table l.widths;
  counted : l.counts ≡ padded 8 0 (map (λ i. count_after 0 (runs_at (held l.fn.b) i)) (up_to l.i));
  filled : l.runs ≡ filled (λ i. runs_after 0 (runs_at (held l.fn.b) i)) train_bytes l.i l.initial.runs;
}
