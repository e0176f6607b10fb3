-- `numbers::variable` meets its contract: a literal below 0 is negated, which has room. Assumes nothing.
use mathlib.Core.Path.{ap}
use lib.IntN.{nat_abs}
use Rattle.refutation_file.proofs.Signs.{read-cast, above-read, negated_fits, negated-read}
use Rattle.refutation_file.proofs.numbers.variable.Statement.{statement}
use Rattle.refutation_file.proofs.numbers.variable.Tie as tie

sub-result : tie.Need-overflow_sub-result
sub-result c = negated_fits c.args.l c.ranges.l c.requires c.if-l-lt0.true

cast-result : tie.Need-overflow_cast-result
cast-result c = read-cast _ _ (negated-read c.args.l c.ranges.l c.requires c.if-l-lt0.true) c.requires

cast-result-2 : tie.Need-overflow_cast-result-else-l-lt0
cast-result-2 c = read-cast _ _ (above-read c.args.l c.ranges.l c.if-l-lt0.false) c.requires

returns : tie.Need-returns-then-l-lt0
returns c = ap nat_abs (negated-read c.args.l c.ranges.l c.requires c.if-l-lt0.true)

returns-2 : tie.Need-returns-else-l-lt0
returns-2 c = ap nat_abs (above-read c.args.l c.ranges.l c.if-l-lt0.false)

pub variable_spec : {M : Type 1} → statement M
variable_spec = tie.close (tie.spec sub-result cast-result cast-result-2 returns returns-2)
