-- `numbering::own_variables` meets its contract: the variables are those before the train behind the last. Assumes nothing.
use borrow.Author.Rules.{rules}
use native.Mathlib.Nat.{le_refl}
use mathlib.Core.Path.{sym, ap, ◌∙◌, subst}
use Prim.Native.Nat.{ℕ, ◌≤◌}
use Rattle.spec.specs.Instance.{instance_of}
use Rattle.spec.specs.Formula.{first_var}
use Rattle.spec.specs.Held.{held}
use Rattle.tables.proofs.Small.{trains-is, own-variables, first_small, passed-few}
use Rattle.layout.proofs.numbering.own_variables.Statement.{statement}
use Rattle.layout.proofs.numbering.own_variables.Tie as tie

first-variable-requires : tie.Need-first_variable-requires
first-variable-requires c κs = search rules

returns : tie.Need-returns
returns c =
    let b = c.args.b in
    let I = instance_of (held b) in
    let passed = c.requires.passed in
    let e = c.first_variable.ensures ∙ ap (first_var I) (sym (trains-is b passed)) in (
      e ∙ own-variables I,
      subst (λ (n : ℕ). n ≤ 168296544) (sym e) (first_small I (passed-few b passed) I.trains (le_refl _)),
    )

pub own_variables_spec : {M : Type 1} → statement M
own_variables_spec = tie.close (tie.spec first-variable-requires returns)
