-- `hints::has_false_byte` meets its contract: the byte is compared with the one of the literal's sign. Assumes nothing.
use borrow.Author.Rules.{rules}
use native.Mathlib.Omega.{arith}
use mathlib.Core.Path.{◌≡◌, ap₂}
use Prim.Native.Nat.{ℕ, ◌-◌}
use lib.ListN.{get_or}
use lib.Dec.{eqb}
use Rattle.spec.specs.Refutation.{variable_of}
use Rattle.propagation.specs.Known.{false_byte}
use Rattle.propagation.proofs.Signs.{variable-read, false-byte}
use Rattle.propagation.proofs.hints.has_false_byte.Statement.{statement}
use Rattle.propagation.proofs.hints.has_false_byte.Tie as tie
use Rattle.propagation.proofs.hints.has_false_byte.Lts.{else-l-lt0, then-l-lt0}

module _ (c : tie.After-variable) where
  abbrev start : tie.Start
  start = c.before.before.before

  -- the variable that was found is the literal's
  found : c.variable.result ≡ variable_of start.args.l
  found = variable-read _ start.ranges.l c.variable.ensures

  -- and the byte the one that makes it false
  byte : c.if-l-lt0.byte ≡ false_byte start.args.l
  byte =
      elim (c.if-l-lt0.branch) [ then-l-lt0 w ↦ false-byte _ start.ranges.l w.if-l-lt0.true w.byte-is | else-l-lt0 w ↦ false-byte _ start.ranges.l w.if-l-lt0.false w.byte-is ]

returns : tie.Need-returns
returns c =
    let v = c.before in
    ap₂ (λ (n b : ℕ). eqb (get_or (start v).args.values.now (n - 1) 0) b) (found v) (byte v)

pub has_false_byte_spec : {M : Type 1} → statement M
has_false_byte_spec =
    tie.close
    (tie.spec
    (λ c κs. search rules)
    (λ c. omega (arith, found c, (start c).requires))
    (λ c. omega (arith, found c.before, (start c.before).requires))
    returns)
