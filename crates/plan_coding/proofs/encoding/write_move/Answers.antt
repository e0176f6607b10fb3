-- The bytes of all runs are written, and gone's behind them.
use native.Mathlib.Omega.{arith}
use mathlib.Core.Path.{◌≡◌, sym, ap, ap₂, ◌∙◌}
use mathlib.Core.List.{map}
use Prim.Native.Nat.{ℕ, ◌+◌}
use lib.ListN.{length, set, length-map}
use lib.Seq.{sets}
use lib.Dec.{eqb}
use Rattle.spec.specs.Lists.{Bytes, up_to}
use Rattle.spec.specs.Plan.{runs, is_gone, bit}
use Rattle.laws.proofs.Parts.{length-up_to}
use Rattle.listing.proofs.Leaves.{sets-next}
use Rattle.layout.specs.Moves.{held_move}
use Rattle.plan_coding.specs.Encoded.{move_bytes}
use Rattle.plan_coding.proofs.Bits.{bit-is, bits-written}
use Rattle.plan_coding.proofs.encoding.write_move.Goals as goal

pub returns : goal.returns
unfolding move_bytes
returns c =
    let a = c.args in
    let own : Bytes = map (λ r. bit (runs (held_move a.m) (eqb r))) (up_to a.n) in
    let gone : ℕ = bit (is_gone (held_move a.m)) in
    let size : length own ≡ a.n = length-map (up_to a.n) _ ∙ length-up_to a.n in
    ap₂ (λ (o : Bytes) (x : ℕ). set o c.gone_variable.result x)
    (bits-written (λ r. runs (held_move a.m) (eqb r)) a.n a.at _ _ _ _ (omega arith) (omega arith) c.loop-r.auto.byte-items
    c.loop-r-test.false c.loop-r.invariant)
    (c.from-2.ensures ∙ bit-is c.is_gone.result ∙ ap bit c.is_gone.ensures)
    ∙ ap (λ (k : ℕ). set (sets a.out.now a.at own) k gone) (c.gone_variable.ensures ∙ ap (λ (k : ℕ). a.at + k) (sym size))
    ∙ sets-next own a.out.now a.at gone
