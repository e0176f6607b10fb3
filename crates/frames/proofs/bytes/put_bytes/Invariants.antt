-- The first i bytes stand in the buffer from `at` on. Assumes nothing.
use Rattle.std.proofs.Common.{◌+◌, take}
use Rattle.laws.proofs.Stores.{Stored}
use Rattle.frames.proofs.bytes.put_bytes.Given as goal

abbrev pub invariant-loop-i : goal.invariant-loop-i
invariant-loop-i l = Stored l.initial.buf l.at (take l.i l.s) l.buf (l.at + l.i)
