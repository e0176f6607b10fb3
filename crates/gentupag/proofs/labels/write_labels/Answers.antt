-- All labels are written.
use native.Mathlib.Omega.{arith}
use mathlib.Core.Path.{◌≡◌, sym, ap, ◌∙◌}
use mathlib.Core.List.{◌++◌}
use Prim.Native.Nat.{ℕ, ◌<◌}
use lib.ListN.{length, take, drop}
use lib.Seq.{length-take-le}
use Rattle.std.proofs.lemmas.Grind.{same_number_lists, common_steps}
use Rattle.spec.specs.Lists.{Bytes}
use Rattle.spec.specs.Entry.{overwrite}
use Rattle.gentupag.proofs.labels.write_labels.Goals as goal

pub returns : goal.returns
unfolding overwrite
returns c =
    let a = c.args in
    let long : length (take a.n a.labels.now) ≡ a.n = length-take-le a.n a.labels.now (omega arith) in
    let room : length (take a.n a.out.now) ≡ a.n = length-take-le a.n a.out.now (omega arith) in
    let size : length c.loop-s.byte-items ≡ a.n = omega (arith, c.loop-s.auto, room) in
    let same : c.loop-s.byte-items ≡ take a.n a.labels.now =
    same_number_lists _ _ (size ∙ sym long) (λ j l.
    let below : j < a.n = omega (arith, size, l) in
    let turn : j < c.loop-s.s = omega (arith, below, room, c.loop-s-test.false) in
    c.loop-s.invariant j turn ∙ grind (arith, common_steps)) in
    ap (λ (xs : Bytes). xs ++ drop a.n a.out.now) same ∙ ap (λ (k : ℕ). take a.n a.labels.now ++ drop k a.out.now) (sym long)
