-- `places::end_of` meets its contract. Assumes nothing.
use borrow.Author.Rules.{rules}
use native.Mathlib.Omega.{arith}
use Rattle.tables.specs.Placed.{end_at}
use Rattle.tables.proofs.places.end_of.Statement.{statement}
use Rattle.tables.proofs.places.end_of.Tie as tie

returns : tie.Need-returns
unfolding end_at
returns c = omega (arith, c.start_of.ensures, c.size_of.ensures.0)

pub end_of_spec : {M : Type 1} → statement M
end_of_spec =
    tie.close
    (tie.spec (λ c κs. search rules) (λ c κs. search rules) (λ c. omega arith) (λ c. omega arith) returns)
