use Rattle.std.proofs.Common.{sym, ap, ◌∙◌, arith, ℕ, not, add-one}
use Rattle.laws.proofs.Loops.{all_start, all-turn, all-broken, all_done}
use Rattle.laws.proofs.Parts.{up_to-suc}
use Rattle.laws.proofs.Tests.{up_to-mem}
use Rattle.spec.specs.Lists.{all, any, up_to, count}
use Rattle.spec.specs.Instance.{instance_of}
use Rattle.spec.specs.Plan.{plan_of, trains_meet}
use Rattle.spec.specs.Held.{held}
use Rattle.tables.proofs.Small.{trains-is}
use Rattle.plan_rules.specs.Kept.{Planned}
use Rattle.plan_rules.proofs.Ready.{move_asks}
use Rattle.plan_rules.proofs.Sharing.{apart-iff, stretch-asks, stretch-fits, stretch-labels, marked-none, marked_next, touch-answer}
use Rattle.plan_rules.proofs.apart.interval_apart.Goals as goal

pub loop-i-init : goal.loop-i-init
unfolding up_to count
loop-i-init c =
    let a = c.args in
    let p = plan_of (instance_of (held a.b)) a.plan.now in
    record {
      rest = apart-iff _ _ _
          ∙ ap (λ (n : ℕ). all (λ j. not (any (λ i. trains_meet (instance_of (held a.b)) p a.interval i j) (up_to j))) (up_to n)) (trains-is a.b c.requires.0.0.counted.passed)
          ∙ all_start _ _;
      marked = marked-none _ c.requires.0 a.interval c.requires.1;
    }

pub move_at-requires : goal.move_at-requires
move_at-requires c =
    let h : Planned c.args.b c.loop-i.i c.args.plan.now = record { passed = c.requires.0.0.counted.passed; known = c.loop-i-test.true; fits = c.requires.0.1 } in
    move_asks h c.args.interval c.requires.1

pub stretch_of-stretch-requires : goal.stretch_of-stretch-requires
stretch_of-stretch-requires c = stretch-asks _ c.requires.0 c.args.interval c.requires.1 c.loop-i.i c.loop-i-test.true _ c.move_at.ensures

pub touches-requires : goal.touches-requires
touches-requires c =
    stretch-fits _ c.requires.0 c.args.interval c.requires.1 c.loop-i.i c.loop-i-test.true _ c.move_at.ensures c.stretch_of-stretch.ensures

pub mark-requires : goal.mark-requires
mark-requires c =
    stretch-fits _ c.requires.0 c.args.interval c.requires.1 c.loop-i.i c.loop-i-test.true _ c.move_at.ensures c.stretch_of-stretch.ensures

pub returns-then-touches : goal.returns-then-touches
returns-then-touches c =
    let meets = touch-answer _ c.requires.0 c.args.interval c.requires.1 (up_to c.loop-i.i)
    (λ i m. omega (arith, (up_to-mem c.loop-i.i i).0 m, c.loop-i-test.true)) c.loop-i.i c.loop-i-test.true c.loop-i.marks c.loop-i.invariant.marked
    _ c.move_at.ensures c.stretch_of-stretch.ensures c.touches.ensures in
    all-broken _ c.loop-i.invariant.rest c.loop-i-test.true (ap not (sym meets ∙ c.if-touches.true))

pub loop-i-preserved : goal.loop-i-preserved
loop-i-preserved c =
    let meets = touch-answer _ c.requires.0 c.args.interval c.requires.1 (up_to c.loop-i.i)
    (λ i m. omega (arith, (up_to-mem c.loop-i.i i).0 m, c.loop-i-test.true)) c.loop-i.i c.loop-i-test.true c.loop-i.marks c.loop-i.invariant.marked
    _ c.move_at.ensures c.stretch_of-stretch.ensures c.touches.ensures in
    let labels = stretch-labels _ c.requires.0 c.args.interval c.requires.1 c.loop-i.i c.loop-i-test.true _ c.move_at.ensures c.stretch_of-stretch.ensures in
    record {
      rest = all-turn _ c.loop-i.invariant.rest c.loop-i-test.true (ap not (sym meets ∙ c.if-touches.false));
      marked = rw (c.mark.ensures, labels, add-one, up_to-suc)
          (marked_next _ c.requires.0 c.args.interval c.requires.1 (up_to c.loop-i.i) c.loop-i.i c.loop-i-test.true c.loop-i.marks c.loop-i.invariant.marked);
    }

pub returns : goal.returns
returns c = all_done _ c.loop-i.invariant.rest c.loop-i-test.false
