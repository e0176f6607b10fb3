-- `arguments::number_in`: a byte that is no figure, and a number that does not fit, make the word none.
use Rattle.std.proofs.Common.{rules, arith, refl, ap, ◌∙◌, ◌+◌, ◌*◌, ◌-◌, ◌≡◌, ℕ, drop}
use Rattle.programs.specs.Arguments.{figures}
use Rattle.programs.proofs.Figures.{below, above, within, number-none, number-whole, no-figure, read-on, too_large}
use Rattle.programs.proofs.arguments.number_in.Goals as goal
use Rattle.programs.proofs.arguments.number_in.Goals.{then-c-lt48-via-then-c-lt48, then-c-lt48-via-else-c-lt48+then-c-gt57}

pub returns-then-is_empty : goal.returns-then-is_empty
returns-then-is_empty c = number-none _ (search rules)

pub loop-c-init : goal.loop-c-init
loop-c-init c = (omega arith, refl)

pub returns-then-c-lt48 : goal.returns-then-c-lt48
returns-then-c-lt48 c =
    no-figure _ _ _ c.loop-c-test.true c.loop-c.invariant.1
    (elim c.then-c-lt48.branch [
      | then-c-lt48-via-then-c-lt48 w ↦ below _ w.if-c-lt48.true
      | then-c-lt48-via-else-c-lt48+then-c-gt57 w ↦ above _ w.if-c-lt48.false w.if-c-gt57.true
    ])

pub returns-in_err-checked_mul : goal.returns-in_err-checked_mul
returns-in_err-checked_mul c =
    rw c.from_residual.ensures
    (too_large _ _ _ c.loop-c-test.true c.loop-c.invariant.1 (within _ c.if-c-lt48.false c.if-c-gt57.false) (omega (arith, c.in_err-checked_mul.ensures)))

pub returns-in_err-n : goal.returns-in_err-n
returns-in_err-n c =
    rw c.from_residual-in_err-n.ensures
    (too_large _ _ _ c.loop-c-test.true c.loop-c.invariant.1 (within _ c.if-c-lt48.false c.if-c-gt57.false)
    (omega (arith, c.in_err-n.ensures, c.in_ok-checked_mul.ensures, c.from.ensures)))

pub loop-c-preserved : goal.loop-c-preserved
loop-c-preserved c = (
  omega (arith, c.in_ok-n.ensures),
  read-on _ _ _ c.loop-c-test.true c.loop-c.invariant.1 (within _ c.if-c-lt48.false c.if-c-gt57.false)
      ∙ ap (λ (k : ℕ). figures k (drop (c.loop-c.c-index + 1) c.args.word.now))
      (omega (arith, c.in_ok-n.ensures, c.in_ok-checked_mul.ensures, c.from.ensures)),
)

pub returns : goal.returns
returns c =
    number-whole _ c.loop-c.c-index _ (search rules) (omega (arith, c.loop-c-test.false, c.loop-c.auto.c-index-end)) c.loop-c.invariant.1
    c.loop-c.invariant.0
