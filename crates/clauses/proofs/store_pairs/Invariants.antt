use Rattle.std.proofs.Common.{◌≡◌, ◌+◌, ◌-◌, ◌*◌, ◌∷◌, map}
use Rattle.spec.specs.Lists.{range, one}
use Rattle.spec.specs.Formula.{not', words_of}
use Rattle.clauses.specs.Walked.{stored}
use Rattle.clauses.proofs.store_pairs.Given as goal

-- what is left to store are the clauses from k on
abbrev pub invariant-loop-k : goal.invariant-loop-k
invariant-loop-k l =
    stored l.at (words_of (map (λ j. not' (l.from + l.m) ∷ one (not' (l.from + j))) (range (l.m + 1) l.n))) l.fn.out
    ≡ stored (l.at + 3 * (l.k - (l.m + 1))) (words_of (map (λ j. not' (l.from + l.m) ∷ one (not' (l.from + j))) (range l.k l.n))) l.out
