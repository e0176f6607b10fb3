use Rattle.std.proofs.Common.{ap, ap₂, arith, ℕ}
use Rattle.model.specs.declared.Book.{Book}
use Rattle.spec.specs.Lists.{up_to, each}
use Rattle.spec.specs.Instance.{instance_of}
use Rattle.spec.specs.Held.{held}
use Rattle.spec.specs.Formula.{words_of}
use Rattle.tables.proofs.Small.{trains-is}
use Rattle.formula.specs.Families.{call_clauses}
use Rattle.formula.proofs.Shapes.{shape-f}
use Rattle.clauses.proofs.Laws.{passes_same}
use Rattle.clauses.proofs.Turns.{turn-none, turn}
use Rattle.formula.proofs.Rest.{passed-rows}
use Rattle.formula.proofs.walk.family_f.Goals as goal

pub loop-train-init : goal.loop-train-init
loop-train-init c = turn-none _ _

pub loop-train-preserved : goal.loop-train-preserved
loop-train-preserved c =
    let n = c.new.ensures in
    turn _ _ _ (omega arith) c.loop-train.invariant (passes_same (ap₂ (λ (b : Book) (i : ℕ). let I = instance_of (held b) in words_of (each (up_to (I.calls i)) (call_clauses I i))) n.0 n.1) c.train_calls.ensures)

pub returns : goal.returns
returns c =
    let trains = trains-is _ c.args.t.now.runs_ready.counted.passed in
    passes_same (ap words_of (shape-f (instance_of (held c.args.t.now.book)))) (passed-rows _ _ (omega arith) _ c.loop-train.invariant)
