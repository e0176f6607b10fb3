-- `labels::number_labels` meets its contract. Assumes nothing.
use Rattle.std.proofs.Common.{arith, length-take}
use Rattle.sections.proofs.Stored.{front-stored}
use Rattle.sections.proofs.labels.number_labels.Goals as goal

pub returns : goal.returns
returns c =
    let size = length-take c.args.segments c.args.labels.now in
    front-stored (λ s. s) c.args.segments c.args.labels.now c.requires c.loop-s.label-items (omega (arith, size))
    (λ i h. c.loop-s.invariant i (omega (arith, size)))
