-- `numbering::base_of` meets its contract: the intervals before are as wide as the train's variables in one. Assumes nothing.
use borrow.Author.Rules.{rules}
use native.Mathlib.Omega.{arith}
use mathlib.Core.Path.{sym, ap, ◌∙◌, subst}
use Prim.Native.Nat.{ℕ, ◌+◌, ◌*◌, ◌≤◌}
use lib.ListN.{get_or}
use Rattle.tables.proofs.Small.{few-runs, few-segments, first_below, base-here}
use Rattle.layout.proofs.numbering.base_of.Statement.{statement}
use Rattle.layout.proofs.numbering.base_of.Tie as tie

base-from-requires : tie.Need-base_from-requires
base-from-requires c κs =
    let a = c.args in
    let p = c.requires in (
      subst (λ (n : ℕ). n ≤ 168296544) (sym c.first_variable.ensures) (first_below a.b a.counts p.0 a.train p.1),
      few-runs a.b a.counts p.0 a.train p.1,
      few-segments a.b a.counts p.0 a.train p.1,
      omega (arith, p.0.passed.packed.numbers.intervals, p.2),
    )

returns : tie.Need-returns
returns c =
    let v = c.before in
    let a = v.args in
    let p = v.requires in (
      c.base_from.ensures.0
          ∙ ap (λ (x : ℕ). x + a.interval * (get_or a.counts a.train 0 + 1 + a.b.segment_count)) v.first_variable.ensures
          ∙ base-here a.b a.counts p.0 a.train p.1 a.interval,
      c.base_from.ensures.1,
    )

pub base_of_spec : {M : Type 1} → statement M
base_of_spec =
    tie.close
    (tie.spec
    (λ c κs. search rules)
    (λ c. search rules)
    (λ c. search rules)
    base-from-requires
    returns)
