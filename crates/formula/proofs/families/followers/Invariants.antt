use Rattle.std.proofs.Common.{Bool, ℕ, ◌+◌, ◌*◌, ◌-◌, ◌≤◌, ◌<◌, get_or}
use lib.Dec.{T}
use Rattle.spec.specs.Lists.{up_to, range, each, only, one}
use Rattle.spec.specs.Formula.{is}
use Rattle.clauses.proofs.Turns.{Ahead}
use Rattle.formula.specs.Chained.{Chained}
use Rattle.formula.proofs.families.followers.Given as goal

-- for each test that the table chains, q passes it or is the number of runs, and what is left to pass are the literals from q on
abbrev pub invariant-loop-q : goal.invariant-loop-q
invariant-loop-q l =
    let n = l.n in
    (f : ℕ → Bool) → Chained f n (get_or l.chains (2 * l.r) 0) l.chains → (l.q ≤ n) × (l.q < n → T (f l.q))
    × Ahead (each (up_to n) λ q. only (f q) (one (is (l.base + q)))) (each (range l.q n) λ q. only (f q) (one (is (l.base + q))))
    l.fn.walk l.walk

abbrev pub decreases-loop-q : goal.decreases-loop-q
decreases-loop-q l = l.n - l.q
