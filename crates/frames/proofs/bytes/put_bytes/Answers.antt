-- One more byte. Assumes nothing.
use Rattle.std.proofs.Common.{sym, arith, add-one, add_assoc, get_or}
use Rattle.std.proofs.Math.Seq.{take-suc}
use Rattle.laws.proofs.Stores.{stored-byte}
use Rattle.frames.proofs.bytes.put_bytes.Goals as goal

pub loop-i-preserved : goal.loop-i-preserved
loop-i-preserved c =
    let i = c.loop-i.i in
    let s = c.args.s.now in
    rw (sym (add_assoc c.args.at i 1), add-one i, take-suc s i 0 (omega arith)) (stored-byte c.loop-i.invariant (get_or s i 0) c.put.ensures)
