use Rattle.std.proofs.Common.{◌≡◌, map, drop, get_or}
use Rattle.spec.specs.Book.{segment_of}
use Rattle.plan_rules.specs.Marks.{marking}
use Rattle.plan_rules.proofs.apart.mark.Given as goal

-- marking the whole stretch is marking what is left of it
abbrev pub invariant-loop-d : goal.invariant-loop-d
invariant-loop-d l =
    marking l.initial.marks (map (λ d. get_or l.labels (segment_of d) 0) l.d-items)
    ≡ marking l.marks (map (λ d. get_or l.labels (segment_of d) 0) (drop l.d-index l.d-items))
