-- `numbers::number_at` meets its contract: a field of four bytes is two fields of two. Assumes nothing.
use borrow.Author.Rules.{rules}
use native.Mathlib.Omega.{arith}
use Prim.Native.Nat.{◌*◌}
use Rattle.refutation_file.proofs.NumberLists.{field-four, number_of}
use Rattle.refutation_file.proofs.numbers.number_at.Statement.{statement}
use Rattle.refutation_file.proofs.numbers.number_at.Tie as tie

mul_at : tie.Need-overflow_mul-at
mul_at c = search rules

pair-requires : tie.Need-pair-low-requires
pair-requires c κs = search rules

add-pair : tie.Need-overflow_add-at
add-pair c = search rules

pair-requires-2 : tie.Need-pair-high-requires
pair-requires-2 c κs = search rules

mul-result : tie.Need-overflow_mul-result
mul-result c = search rules

add-result : tie.Need-overflow_add-result
add-result c = search rules

returns : tie.Need-returns
returns c =
    let a = c.args in
    let four = field-four a.list.now (4 * a.i) (omega arith) in
    (omega (arith, four, number_of a.list.now a.i c.requires), omega arith)

pub number_at_spec : {M : Type 1} → statement M
number_at_spec =
    tie.close
    (tie.spec mul_at pair-requires add-pair pair-requires-2 mul-result add-result returns)
