-- No kind of frame has many times, and a payload that has them is as much longer when it is widened as there are of them. Assumes
-- nothing.
use mathlib.Core.Path.{◌≡◌, ap, ◌∙◌}
use mathlib.Core.Option.{Option, some}
use Prim.Native.Nat.{◌+◌, ◌≤◌}
use native.Mathlib.Omega.{arith}
use lib.ListN.{length}
use Rattle.spec.specs.Lists.{Bytes}
use Rattle.spec.specs.Frames.{times_at, time_count, Kind, head_kind, node_kind, segment_kind, join_kind, train_kind, call_kind, unbreakable_kind, end_kind}
use Rattle.spec.specs.Upgrade.{widened, widened_found}
use Rattle.demands.specs.OldFrames.{HasTimes}
use Rattle.demands.proofs.Widening.{length-widened}

pub few-times : (k : Kind) → time_count k ≤ 2
few-times head_kind = omega arith
few-times node_kind = omega arith
few-times segment_kind = omega arith
few-times join_kind = omega arith
few-times train_kind = omega arith
few-times call_kind = omega arith
few-times unbreakable_kind = omega arith
few-times end_kind = omega arith

pub length_found : {o : Option Kind} {k : Kind} (p : Bytes) → o ≡ some k → HasTimes k p → length (widened_found o p) ≡ length p + time_count k
unfolding widened_found widened
length_found {k = k} p e h = ap (λ (o : Option Kind). length (widened_found o p)) e ∙ length-widened p (times_at k) (time_count k) h.inside
