-- `moves::moves_fit` meets its contract. Assumes nothing.
use Rattle.std.proofs.Common.{rules, ℕ, Bool, refl, sym, ap, ◌∙◌, arith}
use borrow.Author.Tests.{tests}
use Rattle.std.proofs.lemmas.Iterator.{YieldsList-from_range}
use Rattle.std.proofs.lemmas.Iterator.Search.{all_from_yields_List}
use Rattle.model.specs.declared.Book.{Book as BookStruct}
use Rattle.spec.specs.Lists.{Bytes, all, up_to}
use Rattle.spec.specs.Instance.{instance_of}
use Rattle.spec.specs.Plan.{is_move, plan_of}
use Rattle.spec.specs.Held.{held}
use Rattle.tables.proofs.Small.{trains-is}
use Rattle.tables.proofs.Scans.{all-numbers}
use Rattle.layout.proofs.moves.moves_fit.Goals as goal

-- whether a train's moves are its own
abbrev fits : BookStruct → Bytes → ℕ → Bool
fits b plan i =
    all (λ t. is_move (instance_of (held b)) i ((plan_of (instance_of (held b)) plan).move i t)) (up_to (instance_of (held b)).intervals)

pub returns : goal.returns
returns c =
    let a = c.args in
    all_from_yields_List (fits a.b a.plan.now) _ _ _ c.all.ensures.ran
    (YieldsList-from_range 0 a.b.train_count a.b.train_count refl (omega arith))
    (λ x r q k. search (rules, tests))
    ∙ all-numbers (fits a.b a.plan.now) a.b.train_count
    ∙ ap (λ (n : ℕ). all (fits a.b a.plan.now) (up_to n)) (sym (trains-is a.b c.requires.0.passed))
