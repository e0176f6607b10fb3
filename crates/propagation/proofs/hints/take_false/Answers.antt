-- The literal that was found is the next one. Assumes nothing.
use Rattle.std.proofs.Common.{◌≡◌, ◌∙◌, ◌-◌, ◌<◌, ℕ, ℤ, ap, sym, arith, length, get_or, pos, to_z, of_z, w32}
use borrow.Author.Rules.{sfits_of}
use lib.Signed.{mag}
use mir.Facts.{to_z-of_z}
use Rattle.spec.specs.Lists.{Bytes}
use Rattle.refutation_file.specs.Numbers.{number_count, literals_in}
use Rattle.refutation_file.proofs.NumberLists.{literals-length}
use Rattle.propagation.proofs.Taking.{taking-start, taking-here, taking-next, taking-done}
use Rattle.propagation.proofs.hints.take_false.Goals as goal

less : (list : Bytes) (i : ℕ) → i < number_count list → i < length (literals_in list)
less list i h = omega (arith, literals-length list)

found : (list : Bytes) (i : ℕ) (l : ℤ) → mag l < 2147483648 → l ≡ get_or (literals_in list) (number_count list - 1 - i) (pos 0)
    → to_z w32 (of_z w32 l) ≡ get_or (literals_in list) (length (literals_in list) - 1 - i) (pos 0)
found list i l h e =
    to_z-of_z {w = w32} (sfits_of h)
    ∙ e
    ∙ ap (λ (n : ℕ). get_or (literals_in list) (n - 1 - i) (pos 0)) (sym (literals-length list))

pub loop-i-init : goal.loop-i-init
loop-i-init c = taking-start _ _ _ c.requires.1 c.requires.2

pub make_false-requires : goal.make_false-requires
make_false-requires c =
    let list = c.args.list.now in
    let h = taking-here c.loop-i.invariant c.requires.0 (less list _ c.loop-i-test.true) in
    rw (found list _ _ c.literal_at.type_inv c.literal_at.ensures) (h.0, h.1, omega (arith, h.1, c.loop-i.invariant.size), h.2)

pub loop-i-preserved : goal.loop-i-preserved
loop-i-preserved c =
    let list = c.args.list.now in
    let e = found list _ _ c.literal_at.type_inv c.literal_at.ensures in
    let m = c.make_false.ensures in
    taking-next c.loop-i.invariant c.requires.0 (less list _ c.loop-i-test.true) (rw e at m.0) (rw e at m.1)

pub returns : goal.returns
returns c =
    let e = literals-length c.args.list.now in
    let d = taking-done c.loop-i.invariant (omega (arith, e)) in
    (d.0, rw e at d.1, rw e at d.2)
