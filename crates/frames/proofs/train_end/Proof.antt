-- `frames::train_end` meets its contract, format by format. Assumes nothing.
use borrow.Author.Rules.{rules}
use native.Mathlib.Omega.{arith}
use Rattle.frames.proofs.train_end.Statement.{statement}
use Rattle.frames.proofs.train_end.Tie as tie

returns : tie.Need-returns-in-Now
returns c = let e = c.in-Now.is in rw e (omega (arith, c.cursor.ensures.1))

returns-2 : tie.Need-returns-in-Old
returns-2 c = let e = c.in-Old.is in rw e (omega (arith, c.cursor-in-Old.ensures.1))

pub train_end_spec : {M : Type 1} → statement M
train_end_spec =
    tie.close (tie.spec (λ c. search rules) (λ c κs. omega arith) (λ c. search rules) (λ c κs. omega arith) returns returns-2)
