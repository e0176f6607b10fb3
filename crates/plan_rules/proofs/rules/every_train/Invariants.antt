use Rattle.std.proofs.Common.{◌≡◌, Bool, ℕ}
use Rattle.spec.specs.Lists.{all, up_to, range}
use Rattle.spec.specs.Instance.{instance_of}
use Rattle.spec.specs.Held.{held}
use Rattle.plan_rules.specs.Kept.{TrainReady}
use Rattle.plan_rules.proofs.rules.every_train.Given as goal

-- whatever test the closure computes, the answer for all trains is that for those from i on
abbrev pub invariant-loop-i : goal.invariant-loop-i
invariant-loop-i g l =
    (holds : ℕ → Bool)
    → ((i n : ℕ) (own : _) (answer : Bool) → TrainReady l.b i n own.now → goal.F-post g l.keeps i n own answer → answer ≡ holds i)
    → all holds (up_to (instance_of (held l.b)).trains) ≡ all holds (range l.i l.b.train_count)
