-- The bytes are as many as there are, and behind them the array's zeros stay. Assumes nothing.
use Rattle.std.proofs.Common.{ℕ, ◌-◌, drop, length, arith, refl, length-drop}
use Rattle.std.proofs.Math.Seq.{take_all}
use Rattle.std.proofs.lemmas.List.{drop-replicate}
use Rattle.spec.specs.Held.{padded}
use Rattle.frames.proofs.bytes.place_of.Goals as goal

pub returns : goal.returns
unfolding padded
returns c =
    let n = length c.args.p.now - c.args.from in
    let rest = drop c.args.from c.args.p.now in
    let e = take_all n rest (simp length-drop (omega arith)) in
    rw (c.copy_from_slice.ensures.after, e, drop-replicate {X = ℕ} n 8 0, length-drop c.args.from c.args.p.now) refl
