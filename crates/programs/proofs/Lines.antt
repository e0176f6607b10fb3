-- What is said of an answer is what is told of its verdict. Assumes nothing.
use mathlib.Core.Path.{◌≡◌, refl, sym, ap, ◌∙◌, subst}
use native.Mathlib.Omega.{arith}
use Prim.Native.Nat.{ℕ, ◌≤◌}
use lib.ListN.{length}
use lib.Seq.{sets}
use Rattle.std.specs.Prelude.{Result, Ok, Err, Some, None}
use Rattle.spec.specs.Lists.{Bytes, Verdict, accepted, refused, and_then}
use Rattle.spec.specs.Answers.{accepted_as}
use Rattle.spec.specs.Entry.{overwrite, written}
use Rattle.spec.specs.Programs.{accepted_line, refusal_line, printed}
use Rattle.programs.specs.declared.verdicts.Said.{Said}
use Rattle.programs.specs.Verdicts.{numbers_told, bare, Tells}

accepted-line : (v : Verdict Bytes) {before after : Bytes} {n len : ℕ} → accepted n ≡ accepted_as length v → after ≡ sets before 0 accepted_line
    → len ≡ length accepted_line → Tells v before after (record { len = len; result = Some n })
unfolding printed accepted_line
accepted-line (accepted xs) q s e = record { text = s; text-length = e; whole = omega (arith, e); result = cc }
accepted-line (refused k d) q s e = cc

refused-line : (v : Verdict Bytes) {before after : Bytes} {k d len : ℕ} → v ≡ refused k d → after ≡ sets before 0 (refusal_line k d)
    → len ≡ length (refusal_line k d) → len ≤ 60 → Tells v before after (record { len = len; result = None })
unfolding printed
refused-line v q s e few = rw q record { text = s; text-length = e; whole = omega (arith, few); result = refl }

refused-verdict : (v : Verdict Bytes) {k d : ℕ} → refused k d ≡ accepted_as length v → v ≡ refused k d
refused-verdict (accepted xs) t = cc
refused-verdict (refused k d) t = cc

-- the line of an accepted answer, and of a refused one
module _ (v : Verdict Bytes) {answer : Result ℕ (ℕ × ℕ)} (t : numbers_told answer ≡ accepted_as length v) {before after : Bytes} {len : ℕ} where
  pub tells-accepted : {n : ℕ} → answer ≡ Ok n → after ≡ sets before 0 accepted_line → len ≡ length accepted_line
      → Tells v before after (record { len = len; result = Some n })
  tells-accepted is = accepted-line v (sym (ap numbers_told is) ∙ t)

  pub tells-refused : {number detail : ℕ} → answer ≡ Err (number, detail) → after ≡ sets before 0 (refusal_line number detail)
      → len ≡ length (refusal_line number detail) → len ≤ 60 → Tells v before after (record { len = len; result = None })
  tells-refused is = refused-line v (refused-verdict v (sym (ap numbers_told is) ∙ t))

-- of a verdict that is another's
module _ {v w : Verdict Bytes} (q : w ≡ v) where
  pub tells-same : {before after : Bytes} {r : Said} → Tells v before after r → Tells w before after r
  tells-same {before} {after} {r} t = subst (λ (u : Verdict Bytes). Tells u before after r) (sym q) t

  pub output-same : (old : Bytes) {new : Bytes} → new ≡ overwrite old (written v) → new ≡ overwrite old (written w)
  output-same old e = e ∙ ap (λ (u : Verdict Bytes). overwrite old (written u)) (sym q)

-- a refusal leaves the output as it is
pub refused-output : (old : Bytes) (n d : ℕ) → old ≡ overwrite old (written {A = ℕ} (refused n d))
unfolding overwrite written
refused-output old n d = refl

-- ---- a verdict without a result

-- what is told of an answer without a result, as of one with an empty result
pub told-plain : {answer other : Result (Unit {0}) (ℕ × ℕ)} {v : Verdict (Unit {0})} → answer ≡ other → numbers_told answer ≡ v
    → accepted_as length (bare (numbers_told other)) ≡ accepted_as length (bare v)
told-plain is t = ap (λ (w : Verdict (Unit {0})). accepted_as length (bare w)) (sym (ap numbers_told is) ∙ t)

pub bare-output : (old : Bytes) (v : Verdict (Unit {0})) → old ≡ overwrite old (written (bare v))
unfolding and_then overwrite written
bare-output old (accepted u) = refl
bare-output old (refused n d) = refl
