-- What an entry point with an output answers and leaves in it: a refusal leaves it as it was, and what is accepted is written at its
-- start. Assumes nothing.
use mathlib.Core.Path.{◌≡◌, sym, ap, ◌∙◌}
use Prim.Native.Nat.{ℕ}
use lib.ListN.{length}
use Rattle.spec.specs.Lists.{Bytes, Verdict, accepted, refused}
use Rattle.spec.specs.Answers.{accepted_as}
use Rattle.spec.specs.Entry.{overwrite, written}

-- a verdict that stopped with a refusal
pub left-stopped : {v : Verdict Bytes} {n d : ℕ} (old : Bytes) → v ≡ refused n d
    → (refused n d ≡ accepted_as length v) × (old ≡ overwrite old (written v))
unfolding overwrite written
left-stopped old e = (ap (accepted_as length) (sym e), ap (λ (v : Verdict Bytes). overwrite old (written v)) (sym e))

-- the same verdict, by another name
pub left-same : {v v' : Verdict Bytes} {answer : Verdict ℕ} (old : Bytes) {new : Bytes} → v ≡ v'
    → (answer ≡ accepted_as length v) × (new ≡ overwrite old (written v)) → (answer ≡ accepted_as length v') × (new ≡ overwrite old (written v'))
left-same old e h = (h.0 ∙ ap (accepted_as length) e, h.1 ∙ ap (λ (v : Verdict Bytes). overwrite old (written v)) e)

-- a verdict that accepts
pub left-written : {v : Verdict Bytes} {n : ℕ} (old out : Bytes) {new : Bytes} → v ≡ accepted out → n ≡ length out → new ≡ overwrite old out
    → (accepted n ≡ accepted_as length v) × (new ≡ overwrite old (written v))
unfolding written
left-written old out e n w =
    (ap accepted n ∙ ap (accepted_as length) (sym e), w ∙ ap (λ (v : Verdict Bytes). overwrite old (written v)) (sym e))
