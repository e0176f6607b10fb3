-- The first j rows stand from the first variable on, and `set` of the first j listed nodes have a border.
use Prim.Native.Nat.{◌+◌, ◌*◌}
use mathlib.Core.Path.{◌≡◌}
use Rattle.plan_coding.specs.Encoded.{set_below, count_bytes}
use Rattle.plan_coding.proofs.Rows.{Rows}
use Rattle.plan_coding.proofs.counting.write_rows.Given as goal

abbrev pub invariant-loop-j : goal.invariant-loop-j
invariant-loop-j l = record {
  place : l.at ≡ l.first + l.j * l.c.spare;
  counted : l.set ≡ set_below l.nodes l.plan l.j;
  rows : Rows (count_bytes l.nodes l.plan l.c.spare) l.initial.out l.first l.j l.out;
}
