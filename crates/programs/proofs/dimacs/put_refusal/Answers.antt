-- `dimacs::put_refusal`: the number, a blank and the detail.
use Rattle.std.proofs.Common.{◌≡◌, ◌∙◌, ◌+◌, ℕ, [], length, set}
use Rattle.std.proofs.lemmas.List.Edits.{sets}
use native.Mathlib.Nat.{zero-add}
use Rattle.spec.specs.Lists.{Bytes}
use Rattle.spec.specs.Numbers.{decimal}
use Rattle.spec.specs.Programs.{refusal_line}
use Rattle.laws.proofs.Stores.{Stored, stored, stored-behind, stored-byte, stored_same}
use Rattle.programs.proofs.Text.{in-line}
use Rattle.programs.proofs.dimacs.put_refusal.Goals as goal

-- two numbers, a byte behind each
line : (number detail : ℕ) {first second : ℕ} {old one two three new : Bytes} → first ≡ 0 + length (decimal number) → one ≡ sets old 0 (decimal number)
    → two ≡ set one first 32 → second ≡ first + 1 + length (decimal detail) → three ≡ sets two (first + 1) (decimal detail)
    → new ≡ set three second 10 → Stored old 0 (refusal_line number detail) new (second + 1)
unfolding refusal_line
line number detail e s blank f t end =
    stored_same (stored-byte (stored-behind (stored-byte (stored _ 0 (decimal number) e s) 32 blank) (stored _ _ (decimal detail) f t)) 10 end)
    (in-line [] (decimal number) (decimal detail))

pub returns-clause-length : goal.returns-clause-length
returns-clause-length c =
    let m = c.put_number-first.ensures in
    let n = c.put_number-second.ensures in
    (line c.args.number c.args.detail m.0 m.2 c.put.ensures n.0 n.2 c.put-2.ensures).ends ∙ zero-add _

pub returns-clause-line : goal.returns-clause-line
returns-clause-line c =
    let m = c.put_number-first.ensures in
    let n = c.put_number-second.ensures in
    (line c.args.number c.args.detail m.0 m.2 c.put.ensures n.0 n.2 c.put-2.ensures).bytes
