-- The table is as it was, with the successors below e stored from the fan's place on; so many were found.
use Rattle.std.proofs.Common.{◌≡◌, ◌≤◌, length}
use Rattle.std.proofs.Math.Seq.{sets}
use Rattle.spec.specs.Lists.{up_to, pick}
use Rattle.spec.specs.Runs.{leads_to}
use Rattle.spec.specs.Held.{held}
use Rattle.listing.proofs.fill_fan.Given as goal

abbrev pub invariant-loop-e : goal.invariant-loop-e
invariant-loop-e l = record {
  few : l.found ≤ l.e;
  counted : l.found ≡ length (pick (leads_to (held l.b) l.d) (up_to l.e));
  stored : l.table ≡ sets l.initial.table l.base (pick (leads_to (held l.b) l.d) (up_to l.e));
}
