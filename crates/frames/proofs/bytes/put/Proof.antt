-- `bytes::put` meets its contract: a store behind the end of the buffer changes nothing. Assumes nothing.
use borrow.Author.Rules.{rules}
use mathlib.Core.Path.{sym}
use lib.Seq.{set_out}
use Rattle.frames.proofs.bytes.put.Statement.{statement}
use Rattle.frames.proofs.bytes.put.Tie as tie

pub put_spec : {M : Type 1} → statement M
put_spec = tie.close (tie.spec (λ c. search rules) (λ c. search rules) (λ c. search rules) (λ c. sym (set_out _ _ _ c.if-at-buf.false)))
