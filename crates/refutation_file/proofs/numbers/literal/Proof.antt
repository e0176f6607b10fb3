-- `numbers::literal` meets its contract: the upper half of the numbers is negated in two steps, which each have room. Assumes nothing.
use borrow.Author.Rules.{rules}
use native.Mathlib.Omega.{arith}
use mathlib.Core.Path.{sym, ◌∙◌}
use Prim.Native.Nat.{◌-◌}
use mir.Syntax.{w32}
use mir.Facts.{to_z_pos}
use Rattle.refutation_file.proofs.Signs.{signed_low, signed_high, opposite-fits, below-fits, below-read}
use Rattle.refutation_file.proofs.numbers.literal.Statement.{statement}
use Rattle.refutation_file.proofs.numbers.literal.Tie as tie

cast-result : tie.Need-overflow_cast-result
cast-result c = search rules

sub-result : tie.Need-overflow_sub-result
sub-result c = search rules

cast-result-2 : tie.Need-overflow_cast-result-else-n-lt2147483648
cast-result-2 c = search rules

sub-result-2 : tie.Need-overflow_sub-result-else-n-lt2147483648
sub-result-2 c = opposite-fits (4294967295 - c.args.n) (omega arith)

sub-result-3 : tie.Need-overflow_sub-result-else-n-lt2147483648-2
sub-result-3 c = below-fits (4294967295 - c.args.n) (omega arith)

returns : tie.Need-returns-then-n-lt2147483648
returns c = to_z_pos w32 (omega arith) ∙ sym (signed_low c.args.n (omega arith))

returns-2 : tie.Need-returns-else-n-lt2147483648
returns-2 c =
    let n = c.args.n in
    below-read (4294967295 - n) (omega arith) ∙ sym (signed_high n (omega arith) (omega arith))

pub literal_spec : {M : Type 1} → statement M
literal_spec =
    tie.close
    (tie.spec cast-result sub-result cast-result-2 sub-result-2 sub-result-3 returns returns-2)
