-- The train's first variable is not above the one that is asked for.
use Prim.Native.Nat.{◌≤◌}
use Rattle.spec.specs.Instance.{instance_of}
use Rattle.spec.specs.Formula.{first_var}
use Rattle.spec.specs.Held.{held}
use Rattle.gentupag.proofs.variables.variable_by.Given as goal

abbrev pub invariant-loop-train : goal.invariant-loop-train
invariant-loop-train l = first_var (instance_of (held l.b)) l.train ≤ l.at
