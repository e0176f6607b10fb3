use Rattle.spec.specs.Lists.{range, each}
use Rattle.spec.specs.Instance.{instance_of}
use Rattle.spec.specs.Formula.{words_of, claim_var, clauses_i}
use Rattle.spec.specs.Held.{held}
use Rattle.clauses.specs.Walked.{Passes}
use Rattle.std.proofs.Common.{◌+◌}
use Rattle.formula.proofs.walk.pairs_behind.Given as goal

abbrev pub invariant-loop-j : goal.invariant-loop-j
invariant-loop-j l =
    Passes (each (range (l.train + 1) l.j) λ j. let I = instance_of (held l.t.book) in words_of (clauses_i I.segments (claim_var I l.train l.interval) (claim_var I j l.interval))) l.fn.walk l.walk
