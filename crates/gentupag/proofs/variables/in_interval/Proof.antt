-- `variables::in_interval` meets its contract: the runs, gone and the claims, as they lie in an interval. Assumes nothing.
use borrow.Author.Rules.{rules}
use native.Mathlib.Omega.{arith}
use mathlib.Core.Path.{◌≡◌, ◌∙◌}
use mathlib.Core.Option.{Option}
use Prim.Native.Nat.{ℕ, ◌≤◌, ◌<◌}
use lib.ListN.{get_or}
use Rattle.spec.specs.Instance.{Instance, instance_of, under}
use Rattle.spec.specs.Formula.{base}
use Rattle.spec.specs.Held.{held}
use Rattle.tables.specs.Ready.{Counted}
use Rattle.tables.proofs.Small.{intervals-is, passed-few, base-small, known, few-runs}
use Rattle.gentupag.proofs.Standing.{answered, run_at, gone_at, claim-at, base-under, width-under}
use Rattle.gentupag.proofs.variables.in_interval.Statement.{statement}
use Rattle.gentupag.proofs.variables.in_interval.Tie as tie

-- the train and the interval
module _ (s : tie.Start) where
  abbrev I : Instance
  I = instance_of (held s.args.b)

  counted : Counted s.args.b s.args.counts
  counted = s.requires.0

  inside : s.args.train < I.trains
  inside = known s.args.b s.args.counts counted s.args.train s.requires.1

  within : s.args.interval < I.intervals
  within = rw (intervals-is s.args.b counted.passed) s.requires.2

  few : get_or s.args.counts s.args.train 0 ≤ 256
  few = few-runs s.args.b s.args.counts counted s.args.train s.requires.1

  same_runs : get_or s.args.counts s.args.train 0 ≡ I.runs s.args.train
  same_runs = counted.runs s.args.train s.requires.1

  low : s.args.first ≤ 189333600
  low =
      let k = base-small I (passed-few s.args.b counted.passed) s.args.train s.args.interval inside (omega (arith, within)) in
      omega (arith, s.requires.3)

-- the interval's first variable, under a cap
first-is : (s : tie.Start) (k : Option ℕ) → s.args.first ≡ base (under k (I s)) s.args.train s.args.interval
first-is s k = s.requires.3 ∙ base-under k (I s) s.args.train s.args.interval

returns : tie.Need-returns-then-at-gone
returns c k =
    let g = c.before.before in
    let s = g.before in
    let e = g.gone_variable-gone.ensures in
    let h = c.if-at-gone.true in
    c.stands_for.ensures
    ∙ answered (run_at (under k (I s)) _ _ _ (inside s) (within s) (same_runs s) (first-is s k) s.requires.4 (omega (arith, e, h)))

returns-2 : tie.Need-returns-then-at-gone-2
returns-2 c k =
    let g = c.before.before.before in
    let s = g.before in
    let e = g.gone_variable-gone.ensures in
    let h = c.if-at-gone-2.true in
    c.stands_for-then-at-gone-2.ensures
    ∙ answered (gone_at (under k (I s)) _ _ _ (inside s) (within s) (same_runs s) (first-is s k) (h ∙ e))

returns-3 : tie.Need-returns
returns-3 c k =
    let n = c.before.before in
    let g = n.before.before in
    let s = g.before in
    let f = c.claims_from.ensures in
    let e = g.gone_variable-gone.ensures in
    let h = n.if-at-gone.false in
    let l = n.if-at-gone-2.false in
    c.stands_for-2.ensures
    ∙ answered (claim-at (under k (I s)) _ _ _ (inside s) (within s) (same_runs s) (first-is s k) f (omega (arith, e, h, l))
    (omega (arith, s.requires.5, width-under k (I s) s.args.train)))

pub in_interval_spec : {M : Type 1} → statement M
in_interval_spec =
    tie.close
    (tie.spec
    (λ c. search rules)
    (λ c. search rules)
    (λ c κs. omega (arith, few c, low c))
    (λ c. search rules)
    (λ c κs. search rules)
    returns
    (λ c κs. search rules)
    returns-2
    (λ c κs. search rules)
    (λ c. search rules)
    (λ c κs. search rules)
    returns-3)
