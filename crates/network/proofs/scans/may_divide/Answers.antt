-- `scans::may_divide` meets its contract: a turn finds its segment hit, or marks what it touches. Assumes nothing.
use Rattle.std.proofs.Common.{refl, sym, ◌∙◌, length-set}
use Rattle.network.proofs.Dividing.{hit-whole, hit-none, marks-none, ends-fit, turn-of, marks-of, turn-other, marks-other}
use Rattle.network.proofs.scans.may_divide.Goals as goal
use Rattle.network.proofs.scans.may_divide.Goals.{then-divides-via-then-divides, then-divides-via-else-divides+then-divides-2}
use Rattle.network.proofs.scans.may_divide.Goals.{then-from-ttd+else-divides+else-divides-2, else-from-ttd}

pub loop-s-init : goal.loop-s-init
loop-s-init c = record {
  long = refl;
  same = hit-whole c.args.b c.args.ttd c.requires.1;
  marked = marks-none c.args.b c.args.ttd 96;
}

pub bounds-b-a : goal.bounds-b-a
bounds-b-a c = rw c.from-a.ensures (ends-fit c.args.b _ c.loop-s-test.true c.requires.1 c.requires.0).0

pub bounds-seen-a : goal.bounds-seen-a
bounds-seen-a c = rw c.from-a.ensures (ends-fit c.args.b _ c.loop-s-test.true c.requires.1 c.requires.0).0

pub bounds-b-e : goal.bounds-b-e
bounds-b-e c = rw c.from-e.ensures (ends-fit c.args.b _ c.loop-s-test.true c.requires.1 c.requires.0).1

pub bounds-seen-e : goal.bounds-seen-e
bounds-seen-e c = rw c.from-e.ensures (ends-fit c.args.b _ c.loop-s-test.true c.requires.1 c.requires.0).1

pub bounds-seen-a-then-from-ttd : goal.bounds-seen-a-then-from-ttd
bounds-seen-a-then-from-ttd c = rw c.from-a.ensures (ends-fit c.args.b _ c.loop-s-test.true c.requires.1 c.requires.0).0

pub bounds-seen-e-then-from-ttd : goal.bounds-seen-e-then-from-ttd
bounds-seen-e-then-from-ttd c = rw c.from-e.ensures (ends-fit c.args.b _ c.loop-s-test.true c.requires.1 c.requires.0).1

pub returns-then-divides : goal.returns-then-divides
returns-then-divides c =
    let i = c.loop-s.invariant in
    let o = sym c.from.ensures ∙ c.if-from-ttd.true in
    let e = i.same ∙ turn-of c.args.b _ c.loop-s-test.true c.requires.1 c.args.ttd _ i.marked o _ _ c.from-a.ensures c.from-e.ensures in
    elim c.then-divides.branch [
      | then-divides-via-then-divides w ↦ sym (e ∙ simp (sym c.divides.ensures ∙ w.if-divides.true))
      | then-divides-via-else-divides+then-divides-2 w ↦
          sym (e ∙ simp (sym c.divides.ensures ∙ w.if-divides.false, sym w.divides-else-divides.ensures ∙ w.if-divides-2.true))
    ]

pub loop-s-preserved : goal.loop-s-preserved
loop-s-preserved c =
    let i = c.loop-s.invariant in
    let l = c.loop-s-test.true in
    let fits = c.requires.1 in
    elim c.if-from-ttd.branch [
      | then-from-ttd+else-divides+else-divides-2 w ↦
          let o = sym c.from.ensures ∙ w.if-from-ttd.true in
          let ends = ends-fit c.args.b _ l fits c.requires.0 in
          rw w.seen-is (record {
            long = simp length-set i.long;
            same = i.same ∙ turn-of c.args.b _ l fits c.args.ttd _ i.marked o _ _ w.from-a.ensures w.from-e.ensures
                ∙ simp (sym w.divides.ensures ∙ w.if-divides.false, sym w.divides-else-divides.ensures ∙ w.if-divides-2.false);
            marked = marks-of c.args.b _ l fits c.args.ttd _ i.marked o _ _ w.from-a.ensures w.from-e.ensures
                (rw (i.long, w.from-a.ensures) ends.0) (rw (i.long, w.from-e.ensures) ends.1);
          })
      | else-from-ttd w ↦
          rw w.seen-is (record {
            long = i.long;
            same = i.same ∙ turn-other c.args.b _ l fits c.args.ttd _ i.marked (λ e. w.if-from-ttd.false (c.from.ensures ∙ e));
            marked = marks-other c.args.b _ l fits c.args.ttd _ i.marked (λ e. w.if-from-ttd.false (c.from.ensures ∙ e));
          })
    ]

pub returns : goal.returns
returns c = sym (c.loop-s.invariant.same ∙ hit-none c.args.b c.args.ttd _ c.loop-s-test.false)
