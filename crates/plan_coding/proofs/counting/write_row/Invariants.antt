-- The bytes of the first k are written, and n of the first j + k listed nodes have a border.
use Prim.Native.Nat.{ℕ, ◌+◌, ◌<◌}
use mathlib.Core.Path.{◌≡◌}
use lib.ListN.{get_or}
use lib.Dec.{ltb}
use mir.Val.{bool_byte}
use Rattle.plan_coding.specs.Encoded.{set_below}
use Rattle.plan_coding.proofs.counting.write_row.Given as goal

abbrev pub invariant-loop-k : goal.invariant-loop-k
invariant-loop-k l = record {
  written : (i : ℕ) → i < l.k → get_or l.byte-items i 0 ≡ bool_byte (ltb l.j (set_below l.nodes l.plan (l.j + i + 1)));
  counted : l.n ≡ set_below l.nodes l.plan (l.j + l.k);
}
