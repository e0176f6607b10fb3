-- `labels::label_sections`: the labels are those of the sections that the triples passed so far make, and what lies behind them is
-- as it was.
use Rattle.std.proofs.Common.{◌≡◌}
use Rattle.std.specs.Slice.Iter.{chunks_exact_rest, chunks_exact_size}
use Rattle.spec.specs.Plan.{borders_of}
use Rattle.sections.proofs.Labelled.{Labelled}
use Rattle.sections.proofs.labels.label_sections.Given as goal

abbrev pub invariant-loop-meet : goal.invariant-loop-meet
invariant-loop-meet l =
    (chunks_exact_size l.meet-iterator ≡ 3)
    × Labelled l.b (borders_of l.borders) (chunks_exact_rest l.meet-iterator) l.initial.labels l.labels
