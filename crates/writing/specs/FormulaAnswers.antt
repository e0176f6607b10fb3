-- What writing a formula answers, in the specification's words. Assumes nothing.
use Rattle.spec.specs.Entry.{Written}
use Rattle.writing.specs.declared.Totals.{Totals}

-- the totals of a formula that was written
abbrev pub totals_of : Written → Totals
totals_of w = record { variables = w.variable_count; clauses = w.clause_count; words = w.word_count }
