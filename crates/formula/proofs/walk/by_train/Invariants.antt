use Rattle.std.proofs.Common.{◌≡◌, ◌≤◌}
use Rattle.spec.specs.Lists.{range, each}
use Rattle.spec.specs.Instance.{instance_of}
use Rattle.spec.specs.Formula.{base, words_of}
use Rattle.spec.specs.Held.{held}
use Rattle.clauses.specs.Walked.{Passes}
use Rattle.formula.specs.Families.{block_clauses, train_clauses}
use Rattle.formula.proofs.walk.by_train.Given as goal

abbrev pub invariant-loop-train : goal.invariant-loop-train
invariant-loop-train g l =
    Passes (each (range 0 l.train) λ i. words_of (train_clauses (instance_of (held l.t.book)) g.family i)) l.fn.walk l.walk

abbrev pub invariant-loop-interval : goal.invariant-loop-interval
invariant-loop-interval g l =
    let I = instance_of (held l.t.book) in
    let first = l.initial.interval-iterator.start in
    let span = l.interval-iterator in
    (span.end ≡ l.initial.interval-iterator.end) × (first ≤ span.start) × (span.start ≤ span.end)
    × Passes (each (range first span.start) λ t. words_of (block_clauses I g.family l.train (base I l.train t))) l.initial.walk l.walk
