-- `labels::join` meets its contract. Assumes nothing.
use Rattle.std.proofs.Common.{refl, sym, ap, ◌∙◌, get_or}
use lib.Seq.{sets}
use Rattle.sections.proofs.Joined.{joined_same, merged-joined}
use Rattle.sections.proofs.Stored.{sets_of}
use Rattle.sections.proofs.labels.join.Goals as goal

pub returns-then-one-other : goal.returns-then-one-other
returns-then-one-other c =
    c.merge.ensures ∙ ap (sets c.args.labels.now 0) (merged-joined _ _ _ _ c.max.ensures c.min.ensures c.args.labels.now _)

pub returns-else-one-other : goal.returns-else-one-other
returns-else-one-other c =
    let a = c.args in
    let labels = a.labels.now in
    sets_of _ a.segments labels c.requires.0 labels
    (record { size = refl; at = λ i _. sym (joined_same (get_or labels a.s 0) (get_or labels a.u 0) (get_or labels i 0) c.if-one-other.false); behind = refl })
