use Rattle.std.proofs.Common.{refl, sym, ap, ◌∙◌, map, get_or, set, drop, ◌+◌, ◌/◌, ℕ, List}
use Rattle.spec.specs.Book.{segment_of}
use Rattle.listing.proofs.Filled.{lent}
use Rattle.plan_rules.specs.Marks.{labels_of, marking}
use Rattle.plan_rules.proofs.Marking.{marking-next, marking-end, place-is}
use Rattle.plan_rules.proofs.apart.mark.Goals as goal

pub loop-d-init : goal.loop-d-init
loop-d-init c = refl

pub loop-d-preserved : goal.loop-d-preserved
unfolding segment_of
loop-d-preserved c =
    let labels = c.args.labels.now in
    let rest : List ℕ = map (λ d. get_or labels (segment_of d) 0) (drop (c.loop-d.d-index + 1) (lent c.args.stretch.at c.args.stretch.size c.args.runs.now)) in
    c.loop-d.invariant
    ∙ marking-next _ _ _ c.loop-d.d-index c.loop-d-test.true
    ∙ ap (λ (d : ℕ). marking (set c.loop-d.marks (get_or labels (d / 2) 0) 1) rest) (sym c.from.ensures)

pub returns : goal.returns
unfolding labels_of
returns c =
    sym (ap (λ (ds : List ℕ). marking c.args.marks.now (map (λ d. get_or c.args.labels.now (segment_of d) 0) ds)) (place-is c.requires)
    ∙ c.loop-d.invariant ∙ marking-end _ _ _ _ c.loop-d-test.false)
