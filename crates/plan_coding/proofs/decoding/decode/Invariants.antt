-- The bytes of the first trains stand behind the borders.
use Rattle.spec.specs.Instance.{instance_of}
use Rattle.spec.specs.Held.{held}
use Rattle.plan_coding.specs.Decoded.{train_bytes}
use Rattle.plan_coding.proofs.Rows.{Rows}
use Rattle.plan_coding.proofs.decoding.decode.Given as goal

abbrev pub invariant-loop-train : goal.invariant-loop-train
invariant-loop-train l =
    let I = instance_of (held l.b) in Rows (train_bytes I l.values) l.initial.out I.nodes l.train l.out
