-- `moves::train_fits` meets its contract. Assumes nothing.
use Rattle.std.proofs.Common.{rules, ◌≡◌, ℕ, Bool, refl, sym, ap, ◌∙◌, arith, ltb}
use borrow.Author.Tests.{tests}
use Rattle.std.proofs.lemmas.Iterator.{YieldsList-from_range}
use Rattle.std.proofs.lemmas.Iterator.Search.{all_from_yields_List}
use Rattle.spec.specs.Lists.{all, up_to}
use Rattle.spec.specs.Instance.{Instance, instance_of}
use Rattle.spec.specs.Plan.{Move, run, absent, gone, if_run, is_move, plan_of}
use Rattle.spec.specs.Held.{held}
use Rattle.tables.proofs.Small.{intervals-is}
use Rattle.tables.proofs.Scans.{all-numbers}
use Rattle.layout.proofs.moves.train_fits.Goals as goal

-- a move is the train's where it is no run or one of its runs
move-iff : (I : Instance) (i n : ℕ) (r : Bool) (m code : Move) → r ≡ if_run m (λ k. ltb k n) → m ≡ code → n ≡ I.runs i → r ≡ is_move I i code
unfolding if_run is_move
move-iff I i n r (run k) code t e f = t ∙ ap (ltb k) f ∙ ap (is_move I i) e
move-iff I i n r absent code t e f = t ∙ ap (is_move I i) e
move-iff I i n r gone code t e f = t ∙ ap (is_move I i) e

pub returns : goal.returns
returns c =
    let a = c.args in
    let I = instance_of (held a.b) in
    all_from_yields_List (λ t. is_move I a.train ((plan_of I a.plan.now).move a.train t)) _ _ _ c.all.ensures.ran
    (YieldsList-from_range 0 a.b.intervals a.b.intervals refl (omega arith))
    (λ x r q k. (search (rules, tests), search (rules, tests, move-iff)))
    ∙ all-numbers _ a.b.intervals
    ∙ ap (λ (n : ℕ). all (λ t. is_move I a.train ((plan_of I a.plan.now).move a.train t)) (up_to n)) (sym (intervals-is a.b c.requires.0))
