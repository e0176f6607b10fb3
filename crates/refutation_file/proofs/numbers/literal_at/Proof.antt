-- `numbers::literal_at` meets its contract: a literal is what its number stands for. Assumes nothing.
use borrow.Author.Rules.{rules, sfits_of}
use mathlib.Core.Path.{◌∙◌, sym, ap}
use mir.Syntax.{w32}
use mir.Facts.{to_z-of_z}
use Rattle.spec.specs.Numbers.{signed}
use Rattle.refutation_file.proofs.NumberLists.{literal-of}
use Rattle.refutation_file.proofs.numbers.literal_at.Statement.{statement}
use Rattle.refutation_file.proofs.numbers.literal_at.Tie as tie

number-at-requires : tie.Need-number_at-requires
number-at-requires c κs = search rules

literal-requires : tie.Need-literal-requires
literal-requires c κs = search rules

returns : tie.Need-returns
returns c =
    let a = c.args in
    to_z-of_z {w = w32} (sfits_of c.literal.type_inv)
    ∙ c.literal.ensures
    ∙ ap (signed 4) c.number_at.ensures.0
    ∙ sym (literal-of a.list.now a.i)

pub literal_at_spec : {M : Type 1} → statement M
literal_at_spec = tie.close (tie.spec number-at-requires literal-requires returns)
