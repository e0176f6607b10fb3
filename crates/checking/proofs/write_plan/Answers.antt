-- The sections under the plan's borders, then the assignment. Assumes nothing.
use Rattle.std.proofs.Common.{arith}
use mathlib.Core.Path.{refl}
use Rattle.tables.proofs.Small.{nodes-is}
use Rattle.demands.proofs.Moves.{nodes-inside}
use Rattle.sections.proofs.Same.{plan-labelled}
use Rattle.checking.proofs.write_plan.Goals as goal

pub label_sections-requires : goal.label_sections-requires
label_sections-requires c =
    let t = c.args.t.now in
    let p = t.runs_ready.counted.passed in
    (p, t.meets_ready, omega (arith, nodes-inside _ _ c.requires.0, nodes-is t.book p), refl)

pub encode-requires : goal.encode-requires
encode-requires c =
    let t = c.args.t.now in
    let p = t.runs_ready.counted.passed in
    ((t.runs_ready, c.requires.0, plan-labelled t.book p _ _ refl c.label_sections.ensures), c.requires.1)
