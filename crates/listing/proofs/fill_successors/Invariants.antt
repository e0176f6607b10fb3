-- The tables are as they were, with the fans of the first d directed segments written, and how wide each is.
use Rattle.std.proofs.Common.{◌≡◌}
use Rattle.std.proofs.Math.Seq.{sets}
use Rattle.spec.specs.Held.{held}
use Rattle.listing.specs.Listed.{successor_table, fan_widths}
use Rattle.listing.proofs.fill_successors.Given as goal

abbrev pub invariant-loop-d : goal.invariant-loop-d
invariant-loop-d l = record {
  fans : l.table ≡ successor_table (held l.b) l.d l.initial.table;
  wide : l.widths ≡ sets l.initial.widths 0 (fan_widths (held l.b) l.d);
}
