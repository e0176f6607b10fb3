use Rattle.std.proofs.Common.{◌≡◌, ◌+◌, drop}
use Rattle.spec.specs.Lists.{one}
use Rattle.spec.specs.Formula.{words_of}
use Rattle.clauses.specs.Walked.{stored}
use Rattle.clauses.proofs.store_clause.Given as goal

abbrev pub invariant-loop-i : goal.invariant-loop-i
invariant-loop-i g l = stored l.at (words_of (one l.literals)) l.fn.out ≡ stored (l.at + l.i) (words_of (one (drop l.i l.literals))) l.out

abbrev pub invariant-loop-l : goal.invariant-loop-l
invariant-loop-l g l = stored l.at (words_of (one l.l-items)) l.fn.out ≡ stored l.next (words_of (one (drop l.l-index l.l-items))) l.out
