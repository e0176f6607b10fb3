-- A step in a file: what stands at a place, the stretch of its payload that its literals are in, and how long its frame is.
-- Assumes nothing.
use Rattle.std.specs.Prelude.{Bool, true, false, ℕ, ◌+◌, ◌*◌, take, drop}
use Rattle.std.specs.Prelude.{Some, None}
use Rattle.std.specs.Prelude.{Option as CodeOption}
use Rattle.std.proofs.Math.Option.{Option, none, some}
use Rattle.spec.specs.Lists.{Bytes}
use Rattle.spec.specs.Frames.{frame_head, step_fixed, number_width, payload_of}
use Rattle.spec.specs.Refutation.{literal_count, hint_count, is_bad}
use Rattle.refutation_file.specs.declared.steps.Step.{Step}

abbrev pub bad_or : Bool → Step → CodeOption Step
bad_or true x = None
bad_or false x = Some x

-- the step whose payload this is
abbrev pub step_of : Bytes → Step
step_of p = record { literals = literal_count p; hints = hint_count p }

-- the step at the start of some bytes
unfoldable pub step_found : Bytes → CodeOption Step
step_found s = bad_or (is_bad s) (step_of (payload_of s))

-- the refusal's number that each case stands for: 17 where there is no step
abbrev pub step_refusal : CodeOption Step → Option ℕ
step_refusal (Some x) = none
step_refusal None = some 17

-- the stretch of a step's payload that its literals are in
unfoldable pub literal_bytes : Bytes → Bytes
literal_bytes p = take (number_width * literal_count p) (drop step_fixed p)

-- how many bytes the frame of a step has
abbrev pub step_bytes : Step → ℕ
step_bytes x = frame_head + step_fixed + number_width * (x.literals + x.hints)
