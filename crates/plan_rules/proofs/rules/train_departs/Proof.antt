-- `rules::train_departs` meets its contract: the intervals, then the move of the departure. Assumes nothing.
use native.Mathlib.Omega.{arith}
use mathlib.Core.Path.{◌≡◌, sym, ap, ◌∙◌}
use mathlib.Core.Bool.{Bool, true, false, ◌&&◌}
use Prim.Native.Nat.{ℕ, ◌<◌}
use lib.ListN.{get_or}
use Rattle.model.specs.declared.Book.{Book as BookStruct}
use Rattle.spec.specs.Instance.{Instance, instance_of}
use Rattle.spec.specs.Plan.{Plan, Move, runs, absent_before, departs}
use Rattle.spec.specs.Held.{held}
use Rattle.listing.proofs.Trains.{no_train}
use Rattle.tables.proofs.Here.{few-trains, departs-here, departs-asks}
use Rattle.plan_rules.specs.Kept.{Planned}
use Rattle.plan_rules.proofs.Ready.{planned, move_asks, move-own}
use Rattle.plan_rules.proofs.rules.train_departs.Statement.{statement}
use Rattle.plan_rules.proofs.rules.train_departs.Tie as tie

-- the train is one of the book's
few : (s : tie.Start) → s.args.train < 8
few s = few-trains s.args.b s.requires.0.passed s.args.train s.requires.0.known

-- the departure, inside the plan
module _ (c : tie.After-shared_slice_known-2-1) where
  abbrev start : tie.Start
  start = c.before.before

  abbrev b : BookStruct
  b = start.args.b

  abbrev d : ℕ
  d = (get_or b.trains start.args.train no_train).departure

  ready : Planned b start.args.train start.args.plan.now
  ready = planned start.requires.0 start.requires.1

  inside : d < b.intervals
  inside = (departs-asks b start.requires.0.passed start.args.train start.requires.0.known).0

starts-given-requires : tie.Need-starts_given-requires
starts-given-requires c κs =
    let k = c.before.before.before in
    ((start k).requires.0, move-own (ready k) c.move_at-m.result (d k) (inside k) c.move_at-m.ensures)

-- the rule, from its two parts
module _ (I : Instance) (p : Plan) (i : ℕ) where
  both : {d : ℕ} {test : Bool} → d ≡ I.departure i → absent_before I p i ≡ true → test ≡ runs (p.move i d) (λ r. I.given i r)
      → test ≡ departs I p i
  unfolding departs
  both e f t = t ∙ ap (λ (x : ℕ). runs (p.move i x) (λ r. I.given i r)) e
      ∙ sym (ap (λ (x : Bool). x && runs (p.move i (I.departure i)) (λ r. I.given i r)) f)

  first-fails : absent_before I p i ≡ false → false ≡ departs I p i
  unfolding departs
  first-fails f = sym (ap (λ (x : Bool). x && runs (p.move i (I.departure i)) (λ r. I.given i r)) f)

returns : tie.Need-returns-then-absent_before
returns c =
    let a = c.before.before in
    let k = a.before.before in
    let s = start k in
    both (instance_of (held (b k))) _ s.args.train (departs-here (b k) s.requires.0.passed s.args.train s.requires.0.known)
    (sym a.absent_before.ensures ∙ c.if-absent_before.true)
    (c.starts_given.ensures
    ∙ ap (λ (m : Move). runs m (λ r. (instance_of (held (b k))).given s.args.train r)) a.move_at-m.ensures)

pub train_departs_spec : {M : Type 1} → statement M
train_departs_spec =
    tie.close
    (tie.spec
    (λ c. omega (arith, few c.before.before))
    (λ c. few c.before.before)
    (λ c κs. move_asks (ready c) (d c) (inside c))
    (λ c κs. ready c.before)
    starts-given-requires
    returns
    (λ c. c.if-absent_before.false ∙ first-fails _ _ _ (sym c.absent_before.ensures ∙ c.if-absent_before.false)))
