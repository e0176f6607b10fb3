-- `variables::in_train` meets its contract: the variable's interval is found by division. Assumes nothing.
use borrow.Author.Rules.{rules}
use native.Mathlib.Omega.{arith}
use mathlib.Core.Path.{◌≡◌, sym, ap, ap₂, ◌∙◌}
use Prim.Native.Nat.{ℕ, ◌+◌, ◌*◌, ◌-◌, ◌/◌, ◌≤◌, ◌<◌}
use lib.ListN.{get_or}
use Rattle.spec.specs.Instance.{instance_of}
use Rattle.spec.specs.Formula.{width, first_var, base}
use Rattle.spec.specs.Held.{held}
use Rattle.tables.proofs.Small.{few-runs, few-segments, same_width, first_below, first_then, base-here}
use Rattle.gentupag.proofs.Standing.{row_inside, row_from, row-to}
use Rattle.gentupag.proofs.variables.in_train.Statement.{statement}
use Rattle.gentupag.proofs.variables.in_train.Tie as tie

-- the train's runs and the segments
module _ (s : tie.Start) where
  abbrev n : ℕ
  n = get_or s.args.counts s.args.train 0

  abbrev segments : ℕ
  segments = s.args.b.segment_count

  few : n ≤ 256
  few = few-runs s.args.b s.args.counts s.requires.0 s.args.train s.requires.1

  short : segments ≤ 64
  short = few-segments s.args.b s.args.counts s.requires.0 s.args.train s.requires.1

-- once the width of an interval is known
module _ (c : tie.After-next_interval) where
  abbrev start : tie.Start
  start = c.before.before

  abbrev at : ℕ
  at = start.args.at

  abbrev first : ℕ
  first = c.first_variable-first.result

  abbrev wide : ℕ
  wide = c.next_interval.result

  abbrev interval : ℕ
  interval = (at - first) / wide

  sized : wide ≡ n start + 1 + segments start
  sized = omega (arith, c.next_interval.ensures)

  begins : first ≡ first_var (instance_of (held start.args.b)) start.args.train
  begins = c.first_variable-first.ensures

  low : first ≤ 168296544
  low = omega (arith, begins, first_below start.args.b start.args.counts start.requires.0 start.args.train start.requires.1)

  from : first ≤ at
  from = omega (arith, begins, start.requires.2)

  -- the variables of the next train begin behind the last interval
  ends : first + start.args.b.intervals * wide ≡ first_var (instance_of (held start.args.b)) (start.args.train + 1)
  ends =
      ap₂ (λ (x w : ℕ). x + start.args.b.intervals * w) begins sized
      ∙ first_then start.args.b start.args.counts start.requires.0 start.args.train start.requires.1

  below : at < first + start.args.b.intervals * wide
  below = omega (arith, ends, start.requires.3)

  some : 0 < wide
  some = omega (arith, sized)

  -- the interval that is found is one of the book's
  inside : interval < start.args.b.intervals
  inside = row_inside first wide start.args.b.intervals at some from below

base-from-requires : tie.Need-base_from-start-requires
base-from-requires c κs = (
  low c,
  few (start c),
  short (start c),
  omega (arith, inside c, (start c).requires.0.passed.packed.numbers.intervals),
)

-- the interval's first variable
module _ (c : tie.After-base_from-start) where
  abbrev k : tie.After-next_interval
  k = c.before

  abbrev m : ℕ
  m = (start k).args.b.intervals

  begins-interval : c.base_from-start.result ≡ first k + interval k * wide k
  begins-interval = c.base_from-start.ensures.0 ∙ ap (λ (w : ℕ). first k + interval k * w) (sym (sized k))

  is_base : c.base_from-start.result ≡ base (instance_of (held (start k).args.b)) (start k).args.train (interval k)
  is_base =
      let s = start k in
      c.base_from-start.ensures.0
      ∙ ap (λ (x : ℕ). x + interval k * (n s + 1 + segments s)) (begins k)
      ∙ base-here s.args.b s.args.counts s.requires.0 s.args.train s.requires.1 (interval k)

  from-base : c.base_from-start.result ≤ at k
  from-base = omega (arith, begins-interval, row_from (first k) (wide k) m (at k) (some k) (from k) (below k))

  to-next : at k < c.base_from-start.result + width (instance_of (held (start k).args.b)) (start k).args.train
  to-next =
      let s = start k in
      let e = same_width s.args.b s.args.counts s.requires.0 s.args.train s.requires.1 in
      omega (arith, begins-interval, sized k, row-to (first k) (wide k) m (at k) (some k) (from k) (below k))

in-interval-requires : tie.Need-in_interval-requires
in-interval-requires c κs =
    let k = c.before in
    ((start k).requires.0, (start k).requires.1, inside k, is_base c, from-base c, to-next c)

pub in_train_spec : {M : Type 1} → statement M
in_train_spec =
    tie.close
    (tie.spec
    (λ c. search rules)
    (λ c. search rules)
    (λ c κs. search rules)
    (λ c. search rules)
    (λ c κs. omega (arith, few c.before, short c.before))
    (λ c. search rules)
    base-from-requires
    in-interval-requires
    (λ c. search rules))
