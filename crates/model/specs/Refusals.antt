-- Document 01's number and detail of each refusal: "A refusal returns its number and a detail: the least false clause for 14, least
-- broken rule for 16, step counted from 1 for 17 to 20, else 0." Assumes nothing.
use Rattle.std.specs.Prelude.{ℕ}
use Rattle.model.specs.declared.refusals.Refusal.{Refusal}
use Rattle.model.specs.declared.refusals.Refusal.TheVariants as named

abbrev pub number_of : Refusal → ℕ
number_of named.CutFrame = 1
number_of named.UnknownKind = 2
number_of named.FrameOrder = 3
number_of named.PayloadLength = 4
number_of named.OverLimit = 5
number_of named.WrongField = 6
number_of named.WrongReach = 7
number_of named.NoPath = 8
number_of named.DivisibleTtd = 9
number_of named.NoCall = 10
number_of named.OverRuns = 11
number_of named.NoRoom = 12
number_of named.NoAssignment = 13
number_of (named.FalseClause clause) = 14
number_of named.NoPlan = 15
number_of (named.BrokenRule rule) = 16
number_of (named.CutStep step) = 17
number_of (named.WrongLiteral step) = 18
number_of (named.WrongHint step) = 19
number_of (named.UnprovedStep step) = 20
number_of named.WrongEnding = 21
number_of named.WrongCount = 22

abbrev pub detail_of : Refusal → ℕ
detail_of named.CutFrame = 0
detail_of named.UnknownKind = 0
detail_of named.FrameOrder = 0
detail_of named.PayloadLength = 0
detail_of named.OverLimit = 0
detail_of named.WrongField = 0
detail_of named.WrongReach = 0
detail_of named.NoPath = 0
detail_of named.DivisibleTtd = 0
detail_of named.NoCall = 0
detail_of named.OverRuns = 0
detail_of named.NoRoom = 0
detail_of named.NoAssignment = 0
detail_of (named.FalseClause clause) = clause
detail_of named.NoPlan = 0
detail_of (named.BrokenRule rule) = rule
detail_of (named.CutStep step) = step
detail_of (named.WrongLiteral step) = step
detail_of (named.WrongHint step) = step
detail_of (named.UnprovedStep step) = step
detail_of named.WrongEnding = 0
detail_of named.WrongCount = 0
