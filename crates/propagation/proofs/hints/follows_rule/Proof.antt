-- `hints::follows_rule` meets its contract: the literals are taken false, the hints gone through from there, and the variables opened
-- again; those that were set are left on the trail. Assumes nothing.
use borrow.Author.Rules.{rules}
use native.Mathlib.Omega.{arith}
use mathlib.Core.Path.{◌≡◌, sym, ap, subst, ◌∙◌}
use mathlib.Core.Bool.{Bool}
use Prim.Native.Nat.{ℕ}
use lib.ListN.{length}
use Rattle.spec.specs.Refutation.{Values, refuting, go_through, follows_rule, clauses_of}
use Rattle.spec.specs.Entry.{zeroed}
use Rattle.refutation_file.specs.Numbers.{numbers_in, literals_in}
use Rattle.propagation.specs.Kept.{Kept}
use Rattle.propagation.specs.Known.{LeftOnTrail}
use Rattle.propagation.proofs.Trail.{behind_more, left_here}
use Rattle.propagation.proofs.hints.follows_rule.Statement.{statement}
use Rattle.propagation.proofs.hints.follows_rule.Tie as tie

-- where the literals are false, there are as many values as at first
module _ (c : tie.After-take_false-first) where
  abbrev start : tie.Start
  start = c.before.before.before.before.before.before.before.before

  same : length c.take_false-first.new.values ≡ length start.args.values.now
  same = c.take_false-first.auto.values

try-hints-requires : tie.Need-try_hints-tried-requires
try-hints-requires c κs =
    let t = c.before.before.before.before.before.before in
    let p = (start t).requires in (
      subst (λ (n : ℕ). Kept n (start t).args.words.now (start t).args.starts.now) (sym (same t)) p.0,
      p.1,
      t.take_false-first.ensures.1,
      omega (arith, same t, p.5),
    )

-- the hints, gone through from where the literals are false
module _ (c : tie.After-try_hints-tried) where
  abbrev taken : tie.After-take_false-first
  taken = c.before.before.before.before.before.before.before

  abbrev first : tie.Start
  first = start taken

  abbrev through : Values → Bool
  through k = go_through (clauses_of first.args.words.now) k (numbers_in first.args.hints.now)

  answer : c.try_hints-tried.result.proved ≡ through (refuting (literals_in first.args.literals.now))
  answer = c.try_hints-tried.ensures.0 ∙ ap through taken.take_false-first.ensures.0

  -- and there are still as many values
  as_many : length c.try_hints-tried.new.values ≡ length first.args.values.now
  as_many = c.try_hints-tried.auto.values ∙ same taken

  -- what was set is left on the trail
  left : LeftOnTrail (length first.args.values.now) first.args.trail.now c.try_hints-tried.new.trail
  left =
      let e = c.try_hints-tried.ensures in
      left_here e.1 as_many (e.3 ∙ behind_more _ _ _ _ e.2 taken.take_false-first.ensures.2)

returns : tie.Need-returns
unfolding follows_rule
returns c =
    let h = c.before.before.before.before.before.before.before.before in
    (answer h, c.undo.ensures ∙ ap (zeroed 0) (as_many h) ∙ sym (first h).requires.3, left h)

pub follows_rule_spec : {M : Type 1} → statement M
follows_rule_spec =
    tie.close
    (tie.spec
    (λ c κs. search rules)
    try-hints-requires
    (λ c κs. search rules)
    (λ c. search rules)
    (λ c. search rules)
    returns)
