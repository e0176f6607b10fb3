-- `cells::run_cell` meets its contract: each byte is stored in its place of a row of blanks. Assumes nothing.
use borrow.Author.Rules.{rules}
use mathlib.Core.Path.{refl}
use Rattle.spec.specs.Numbers.{in_digits}
use Rattle.spec.specs.Page.{cell}
use Rattle.graph.proofs.cells.run_cell.Statement.{statement}
use Rattle.graph.proofs.cells.run_cell.Tie as tie

returns : tie.Need-returns
unfolding cell in_digits
returns c =
    let tens = c.digit.ensures in
    rw (tens, c.digit-2.ensures, c.digit-3.ensures, c.digit-4.ensures, c.digit-5.ensures) refl

pub run_cell_spec : {M : Type 1} → statement M
run_cell_spec =
    tie.close
    (tie.spec
    (λ c κs. search rules)
    (λ c. search rules)
    (λ c κs. search rules)
    (λ c. search rules)
    (λ c. search rules)
    (λ c κs. search rules)
    (λ c. search rules)
    (λ c κs. search rules)
    (λ c. search rules)
    (λ c κs. search rules)
    (λ c. search rules)
    returns)
