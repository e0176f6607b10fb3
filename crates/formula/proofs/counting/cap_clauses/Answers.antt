use Rattle.std.proofs.Common.{ap, refl, ℕ, List}
use lib.ListN.{replicate}
use Rattle.spec.specs.Formula.{words_of}
use Rattle.clauses.proofs.Laws.{passes_same}
use Rattle.formula.proofs.Capped.{listed, clauses-capped}
use Rattle.formula.proofs.counting.cap_clauses.Goals as goal

-- what the slice held before
abbrev zeros : List ℕ
zeros = replicate 96 0

pub invariant_of-counting : goal.invariant_of-counting
invariant_of-counting c =
    let counter = c.counter_of.ensures in
    record {
      start = c.own_variables-first.ensures.1;
      few = counter.few;
      listed = listed _ c.requires.passed _ _ counter zeros _ refl c.list_free.ensures.1;
    }

pub returns : goal.returns
returns c =
    let same = clauses-capped _ c.requires.passed _ _ c.counter_of.ensures zeros _ refl c.list_free.ensures.1
    c.own_variables-first.ensures.0 in
    passes_same (ap words_of same) c.all_rows.ensures
