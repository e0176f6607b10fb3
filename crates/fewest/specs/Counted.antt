-- Parts of the combined verdict: that on the assignment and on n, and the room for the refutation. Assumes nothing.
use Rattle.std.specs.Prelude.{Bool, ◌&&◌, ℕ, eqb, leb}
use Rattle.spec.specs.Lists.{Bytes, Verdict, and_then}
use Rattle.spec.specs.Instance.{Instance}
use Rattle.spec.specs.Cap.{set_count}
use Rattle.spec.specs.Refutation.{Lent}
use Rattle.spec.specs.Assignment.{assigned, decoded}
use Rattle.spec.specs.Entry.{demand, judge_assignment}
use Rattle.refutation_steps.specs.declared.one_step.Extent.{Extent}

-- 13 and 14, then 22: the assignment is accepted, and its plan sets n nodes of kind 1
unfoldable pub counted_for : Instance → ℕ → Bytes → Verdict (Unit {0})
counted_for I n s = and_then (judge_assignment I s) λ _. demand (eqb (set_count I (decoded I (assigned s)).border) n) 22

-- 12: slices of these lengths have room for so many words, clauses and variables
unfoldable pub room_for : Extent → ℕ → Lent → Bool
room_for formula variables lent =
    leb formula.words lent.words && leb formula.clauses lent.clauses && leb variables lent.values && leb variables lent.trail
