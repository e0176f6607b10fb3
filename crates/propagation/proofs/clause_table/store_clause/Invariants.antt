-- The first i literals were stored from `at` on. Assumes nothing.
use Rattle.std.proofs.Common.{◌++◌}
use Rattle.std.specs.Prelude.{pos}
use Rattle.spec.specs.Lists.{one}
use Rattle.refutation_file.specs.Numbers.{literals_in}
use Rattle.propagation.proofs.Storing.{Stored}
use Rattle.propagation.proofs.clause_table.store_clause.Given as goal

abbrev pub invariant-loop-i : goal.invariant-loop-i
invariant-loop-i l = Stored l.initial.words l.at (literals_in l.list ++ one (pos 0)) l.words l.i
