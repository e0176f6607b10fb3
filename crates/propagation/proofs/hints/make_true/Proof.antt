-- `hints::make_true` meets its contract: the byte that is stored is the one of the literal's sign. Assumes nothing.
use borrow.Author.Rules.{rules}
use native.Mathlib.Omega.{arith}
use mathlib.Core.Path.{◌≡◌}
use Rattle.spec.specs.Refutation.{variable_of}
use Rattle.propagation.specs.Known.{true_byte}
use Rattle.propagation.proofs.Signs.{variable-read, true-byte, made}
use Rattle.propagation.proofs.hints.make_true.Statement.{statement}
use Rattle.propagation.proofs.hints.make_true.Tie as tie
use Rattle.propagation.proofs.hints.make_true.Lts.{else-l-lt0, then-l-lt0}

-- the variable that was found is the literal's
found : (c : tie.After-variable-v) → c.variable-v.result ≡ variable_of c.args.l
found c = variable-read _ c.ranges.l c.variable-v.ensures

returns : tie.Need-returns
returns c =
    let s = c.before.before.before.before in
    let byte : c.if-l-lt0.values ≡ true_byte s.args.l =
    elim (c.if-l-lt0.branch) [ then-l-lt0 w ↦ true-byte _ s.ranges.l w.if-l-lt0.true w.values-is | else-l-lt0 w ↦ true-byte _ s.ranges.l w.if-l-lt0.false w.values-is ] in
    made s.args.values.now s.args.trail.now s.args.set (found c.before) byte

pub make_true_spec : {M : Type 1} → statement M
make_true_spec =
    tie.close
    (tie.spec
    (λ c κs. search rules)
    (λ c. omega (arith, found c, c.requires))
    (λ c. omega (arith, found c.before, c.requires))
    (λ c. search rules)
    (λ c. search rules)
    (λ c. search rules)
    (λ c. search rules)
    returns)
