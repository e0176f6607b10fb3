-- What the library's structs say of each answer of an entry point. Assumes nothing.
use Rattle.std.specs.Prelude.{ℕ, Result, Ok, Err}
use Rattle.model.specs.declared.refusals.Refusal.{Refusal}
use Rattle.model.specs.Refusals.{number_of, detail_of}
use Rattle.writing.specs.declared.Totals.{Totals as Written}
use Rattle.gentupag.specs.declared.answers.Verdict.{Verdict as VerdictStruct}
use Rattle.gentupag.specs.declared.answers.Output.{Output}
use Rattle.gentupag.specs.declared.answers.Totals.{Totals}

abbrev pub verdict_shown : {A : Type 0} → Result A Refusal → VerdictStruct
verdict_shown (Ok a) = record { number = 0; detail = 0 }
verdict_shown (Err r) = record { number = number_of r; detail = detail_of r }

abbrev pub output_shown : Result ℕ Refusal → Output
output_shown (Ok n) = record { number = 0; detail = 0; length = n }
output_shown (Err r) = record { number = number_of r; detail = detail_of r; length = 0 }

abbrev pub totals_shown : Result Written Refusal → Totals
totals_shown (Ok w) = record { number = 0; detail = 0; variables = w.variables; clauses = w.clauses; words = w.words }
totals_shown (Err r) = record { number = number_of r; detail = detail_of r; variables = 0; clauses = 0; words = 0 }
