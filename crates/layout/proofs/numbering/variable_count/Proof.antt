-- `numbering::variable_count` meets its contract: the counter's variables follow all others. Assumes nothing.
use borrow.Author.Rules.{rules}
use native.Mathlib.Omega.{arith}
use mathlib.Core.Path.{sym, ap₂, ◌∙◌}
use Prim.Native.Nat.{ℕ, ◌+◌, ◌*◌, ◌≤◌}
use Rattle.spec.specs.Instance.{instance_of}
use Rattle.spec.specs.Cap.{Counter}
use Rattle.spec.specs.Held.{held, held_cap}
use Rattle.layout.proofs.Capped.{counter-small, variables-under}
use Rattle.layout.proofs.numbering.variable_count.Statement.{statement}
use Rattle.layout.proofs.numbering.variable_count.Tie as tie

-- the counter has few variables
few : (c : tie.After-counter_of-c) → c.counter_of-c.result.most * c.counter_of-c.result.spare ≤ 9216
few c = counter-small _ _ c.counter_of-c.ensures.few

mul-result : tie.Need-overflow_mul-result
mul-result c = omega (arith, few c.before.before)

add-result : tie.Need-overflow_add-result
add-result c = omega (arith, few c.before.before, c.own_variables.ensures.1)

returns : tie.Need-returns
returns c =
    let k = c.before.before in
    let a = k.args in
    let held-counter = k.counter_of-c.ensures.counter in (
      ap₂ (λ (n : ℕ) (m : Counter). n + m.most * m.spare) c.own_variables.ensures.0 held-counter
          ∙ sym (variables-under (held_cap a.cap) (instance_of (held a.b))),
      omega (arith, few k, c.own_variables.ensures.1),
    )

pub variable_count_spec : {M : Type 1} → statement M
variable_count_spec =
    tie.close (tie.spec (λ c κs. search rules) (λ c κs. search rules) mul-result add-result returns)
