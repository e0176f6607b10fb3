-- A run was found, or the variable behind the runs decides.
use mathlib.Core.Path.{sym, ap, ◌∙◌}
use native.Mathlib.Omega.{arith}
use Rattle.spec.specs.Assignment.{assigned}
use Rattle.plan_coding.proofs.Codes.{run-code, gone-code, absent-code}
use Rattle.plan_coding.proofs.decoding.code_of.Goals as goal

pub returns-in-Some : goal.returns-in-Some
returns-in-Some c = (run-code _ _ _ _ c.in-Some.ensures, omega (arith, c.in-Some.ensures.0, c.requires.1))

pub returns-in-None : goal.returns-in-None
returns-in-None c =
    (gone-code _ _ c.in-None.ensures (sym (c.value.ensures ∙ ap (assigned c.args.values.now) c.gone_variable.ensures) ∙ c.if-value.true), omega arith)

pub returns-in-None-2 : goal.returns-in-None-2
returns-in-None-2 c =
    (absent-code _ _ c.in-None.ensures (sym (c.value.ensures ∙ ap (assigned c.args.values.now) c.gone_variable.ensures) ∙ c.if-value.false), omega arith)
