-- What the library's structs say of each verdict: a refusal's number and detail with zeros behind, or 0, 0 and the result.
-- Assumes nothing.
use Rattle.std.proofs.Math.Option.{Option, none, some}
use Rattle.std.specs.Prelude.{ℕ, zero, suc, length, replicate}
use Rattle.spec.specs.Lists.{Bytes, Verdict, accepted, refused}
use Rattle.spec.specs.Entry as entry
use Rattle.spec.specs.Library as library
use Rattle.spec.specs.Held.{padded}
use Rattle.gentupag.specs.declared.answers.Verdict.{Verdict as VerdictStruct}
use Rattle.gentupag.specs.declared.answers.Output.{Output}
use Rattle.gentupag.specs.declared.answers.Totals.{Totals}
use Rattle.gentupag.specs.declared.answers.Sizes.{Sizes}
use Rattle.gentupag.specs.declared.answers.Run.{Run}
use Rattle.gentupag.specs.declared.answers.Variable.{Variable}

abbrev pub verdict_of : {A : Type 0} → Verdict A → VerdictStruct
verdict_of (accepted a) = record { number = 0; detail = 0 }
verdict_of (refused n d) = record { number = n; detail = d }

abbrev pub output_of : Verdict Bytes → Output
output_of (accepted xs) = record { number = 0; detail = 0; length = length xs }
output_of (refused n d) = record { number = n; detail = d; length = 0 }

abbrev pub totals_of : Verdict entry.Written → Totals
totals_of (accepted w) = record { number = 0; detail = 0; variables = w.variable_count; clauses = w.clause_count; words = w.word_count }
totals_of (refused n d) = record { number = n; detail = d; variables = 0; clauses = 0; words = 0 }

abbrev pub sizes_answer : Verdict library.Sizes → Sizes
sizes_answer (accepted s) = record {
  number = 0;
  detail = 0;
  intervals = s.intervals;
  nodes = s.nodes;
  free_nodes = s.free_nodes;
  segments = s.segments;
  trains = s.trains;
  variables = s.variable_count;
  clauses = s.clause_count;
  words = s.word_count;
  plan_bytes = s.plan_bytes;
}
sizes_answer (refused n d) = record {
  number = n;
  detail = d;
  intervals = 0;
  nodes = 0;
  free_nodes = 0;
  segments = 0;
  trains = 0;
  variables = 0;
  clauses = 0;
  words = 0;
  plan_bytes = 0;
}

-- 16 zeros
abbrev no_path : Bytes
no_path = replicate 16 0

abbrev pub run_answer : Verdict library.RunAsked → Run
run_answer (accepted library.no_train) = record { number = 0; detail = 0; missing = 1; runs = 0; place = 0; length = 0; path = no_path }
run_answer (accepted (library.no_run n)) = record { number = 0; detail = 0; missing = 2; runs = n; place = 0; length = 0; path = no_path }
run_answer (accepted (library.shown n l ds)) = record
    { number = 0; detail = 0; missing = 0; runs = n; place = l; length = length ds; path = padded 16 0 ds }
run_answer (refused n d) = record { number = n; detail = d; missing = 0; runs = 0; place = 0; length = 0; path = no_path }

abbrev pub variable_answer : Verdict library.Meaning → Variable
variable_answer (accepted library.no_variable) = record { number = 0; detail = 0; kind = 0; train = 0; interval = 0; item = 0; count = 0 }
variable_answer (accepted (library.border n)) = record { number = 0; detail = 0; kind = 1; train = 0; interval = 0; item = n; count = 0 }
variable_answer (accepted (library.run i t r)) = record { number = 0; detail = 0; kind = 2; train = i; interval = t; item = r; count = 0 }
variable_answer (accepted (library.gone i t)) = record { number = 0; detail = 0; kind = 3; train = i; interval = t; item = 0; count = 0 }
variable_answer (accepted (library.claim i t s)) = record { number = 0; detail = 0; kind = 4; train = i; interval = t; item = s; count = 0 }
variable_answer (accepted (library.counted n k)) = record { number = 0; detail = 0; kind = 5; train = 0; interval = 0; item = n; count = k }
variable_answer (refused n d) = record { number = n; detail = d; kind = 0; train = 0; interval = 0; item = 0; count = 0 }

-- ---- the cap that a caller asks for, by two numbers, so that no number stands for "no cap"

abbrev pub cap_asked : ℕ → ℕ → Option ℕ
cap_asked zero cap = none
cap_asked (suc _) cap = some cap
