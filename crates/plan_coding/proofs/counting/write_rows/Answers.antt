-- A turn stores a row behind those that stand, and counts one node more.
use mathlib.Core.Path.{sym}
use native.Mathlib.Omega.{arith}
use Rattle.plan_coding.proofs.Counts.{set-none, row-length, row_next}
use Rattle.plan_coding.proofs.Rows.{rows_none, rows_next}
use Rattle.plan_coding.proofs.counting.write_rows.Goals as goal

pub loop-j-init : goal.loop-j-init
loop-j-init c = record { place = omega arith; counted = sym (set-none _ _); rows = rows_none }

pub loop-j-preserved : goal.loop-j-preserved
loop-j-preserved c =
    let a = c.args in
    let k = c.loop-j.invariant in record {
      place = row_next a.first c.loop-j.j a.c.spare k.place;
      counted = c.with_next-set.ensures;
      rows = rows_next _ a.c.spare (row-length a.nodes.now a.plan.now a.c.spare) k.rows k.place c.write_row.ensures;
    }
