-- `numbering::first_variable`: `first` is the first variable of the train that comes next.
use Rattle.std.proofs.Common.{◌≡◌}
use Rattle.spec.specs.Instance.{instance_of}
use Rattle.spec.specs.Formula.{first_var}
use Rattle.spec.specs.Held.{held}
use Rattle.layout.proofs.numbering.first_variable.Given as goal

abbrev pub invariant-loop-n : goal.invariant-loop-n
invariant-loop-n l = l.first ≡ first_var (instance_of (held l.b)) l.n-index
