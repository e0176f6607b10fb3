-- `numbers::literal_fits` meets its contract: a literal out of range is of no variable that fits, and any other literal's variable is
-- found. Assumes nothing.
use borrow.Author.Rules.{rules}
use native.Mathlib.Omega.{arith}
use mathlib.Core.Path.{sym, ap, subst, ◌∙◌}
use mathlib.Core.Bool.{and-true, and-false}
use borrow.Author.Tests.{le-leb, lt-leb}
use Prim.Native.Nat.{◌≤◌, ◌<◌}
use lib.IntN.{ℤ}
use mir.Facts.{to_z-of_z}
use Rattle.spec.specs.Refutation.{variable_of}
use Rattle.refutation_file.proofs.Signs.{opposite-fits, above-range, below-range, in-range}
use Rattle.refutation_file.proofs.numbers.literal_fits.Statement.{statement}
use Rattle.refutation_file.proofs.numbers.literal_fits.Tie as tie

returns : tie.Need-returns-then-most-l
returns c =
    let s = c.before in
    let e = lt-leb (variable_of s.args.l) s.args.variables (above-range s.args.l s.ranges.l _ s.requires c.if-most-l.true) in
    simp (e, and-false)

returns-2 : tie.Need-returns-then-below
returns-2 c =
    let s = c.before.before in
    let e = lt-leb (variable_of s.args.l) s.args.variables (below-range s.args.l s.ranges.l _ s.requires c.if-below.true) in
    simp (e, and-false)

-- the variable is one of those that there are
fits : (c : tie.Else-below) → variable_of c.args.l ≤ c.args.variables
fits c =
    let s = c.before.before in
    in-range s.args.l s.ranges.l _ s.requires c.if-most-l.false c.if-below.false

variable-requires : tie.Need-variable-requires
variable-requires c κs =
    let s = c.before.before in
    subst (λ (z : ℤ). variable_of z < 2147483648) (sym (to_z-of_z s.ranges.l)) (omega (arith, fits c, s.requires))

returns-3 : tie.Need-returns
returns-3 c =
    let s = c.before.before.before in
    let e = le-leb (variable_of s.args.l) s.args.variables (fits c.before) in
    let v = c.variable.ensures ∙ ap variable_of (to_z-of_z s.ranges.l) in
    simp (v, e, and-true)

pub literal_fits_spec : {M : Type 1} → statement M
literal_fits_spec = tie.close (tie.spec (λ c. search rules) returns (λ c. opposite-fits _ c.requires) returns-2 variable-requires returns-3)
