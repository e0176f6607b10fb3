-- Answers in the specification's words: what contracts of functions that may refuse are stated with. Assumes nothing.
use Rattle.std.specs.Prelude.{Result, Ok, Err}
use Rattle.model.specs.declared.refusals.Refusal.{Refusal}
use Rattle.model.specs.Refusals.{number_of, detail_of}
use Rattle.spec.specs.Lists.{Verdict, accepted, refused}

-- the verdict that an answer tells: accepted with what was made, or refused by document 01's number and detail
abbrev pub told : {A : Type 0} → Result A Refusal → Verdict A
told (Ok a) = accepted a
told (Err r) = refused (number_of r) (detail_of r)

-- a verdict whose result is given in another form
abbrev pub accepted_as : {A B : Type 0} → (A → B) → Verdict A → Verdict B
accepted_as f (accepted a) = accepted (f a)
accepted_as f (refused n d) = refused n d
