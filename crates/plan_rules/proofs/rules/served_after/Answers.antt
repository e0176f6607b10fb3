-- The test of an interval is that the call's window has its end, and that its run serves the call.
use Rattle.std.proofs.Common.{rules, tests, arith, ◌≡◌, sym, ap₂, ◌∙◌, ◌+◌, ◌<◌, ℕ, Bool, ◌&&◌, T}
use Rattle.std.proofs.lemmas.Iterator.{serves_from_Range}
use Rattle.spec.specs.Lists.{any, range}
use Rattle.spec.specs.Instance.{instance_of, in_window}
use Rattle.spec.specs.Plan.{runs, is_move, plan_of, served_by}
use Rattle.spec.specs.Held.{held}
use Rattle.layout.specs.declared.moves.Move.{Move}
use Rattle.layout.specs.Moves.{held_move}
use Rattle.tables.proofs.Here.{departs-here, window-answer}
use Rattle.tables.proofs.Small.{intervals-is}
use Rattle.plan_rules.proofs.Chains.{any-of-range}
use Rattle.plan_rules.proofs.Ready.{planned, move_asks, move-own}
use Rattle.plan_rules.proofs.rules.served_after.Goals as goal

pub any-requires-clause-callable : goal.any-requires-clause-callable
any-requires-clause-callable c =
    serves_from_Range (λ x q k. search (rules, tests))
    (λ x low high.
    let h = planned c.requires.0 c.requires.1 in
    let asks = move_asks h x high in
    let small : x + 1 < 65536 = omega (arith, high, c.requires.0.passed.packed.numbers.intervals) in
    let own : (m : Move) → held_move m ≡ (plan_of (instance_of (held c.args.b)) c.args.plan.now).move c.args.train x
    → T (is_move (instance_of (held c.args.b)) c.args.train (held_move m)) = λ m. move-own h m x high in
    search rules)

pub returns : goal.returns
unfolding served_by
returns c =
    let b = c.args.b in
    let i = c.args.train in
    let p = c.requires.0 in
    let I = instance_of (held b) in
    let test : ℕ → Bool = λ t. in_window I i c.args.number (t + 1) && runs ((plan_of I c.args.plan.now).move i t) (λ r. I.serves i c.args.number r) in
    any-of-range test _
    (λ x r q k. (search rules, λ l m. let window = λ (test : Bool). window-answer b i c.args.number c.requires.2 (x + 1) {test = test} in search rules))
    c.any.ensures.ran
    ∙ ap₂ (λ (d n : ℕ). any test (range d n)) (departs-here b p.passed i p.known) (sym (intervals-is b p.passed))
