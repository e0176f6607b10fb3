-- `numbering::base_from` meets its contract: no number in it is large. Assumes nothing.
use borrow.Author.Rules.{rules}
use native.Mathlib.Nat.{mul-le-mul}
use native.Mathlib.Omega.{arith}
use mathlib.Core.Path.{ap}
use Prim.Native.Nat.{ℕ, ◌+◌, ◌*◌, ◌≤◌}
use Rattle.layout.proofs.numbering.base_from.Statement.{statement}
use Rattle.layout.proofs.numbering.base_from.Tie as tie

width-requires : tie.Need-width-requires
width-requires c κs = search rules

-- the intervals before it have so many variables at most
span : (c : tie.After-width) → c.args.interval * c.width.result ≤ 21037056
span c = mul-le-mul {n₂ = 65536} {m₂ = 321} c.requires.3 (omega arith)

mul-result : tie.Need-overflow_mul-result
mul-result c = omega (arith, span c)

add-result : tie.Need-overflow_add-result
add-result c = omega (arith, span c)

returns : tie.Need-returns
returns c =
    let a = c.args in
    (ap (λ (w : ℕ). a.first + a.interval * w) c.width.ensures, omega (arith, span c))

pub base_from_spec : {M : Type 1} → statement M
base_from_spec = tie.close (tie.spec width-requires mul-result add-result returns)
