-- `moves::plan_fits` meets its contract: the length, the nodes' bytes, the moves. Assumes nothing.
use borrow.Author.Rules.{rules}
use borrow.Author.Tests.{eq-eqb, ne_eqb}
use native.Mathlib.Omega.{arith}
use mathlib.Core.Path.{◌≡◌, sym, ap, ◌∙◌}
use mathlib.Core.Bool.{true}
use Prim.Native.Nat.{ℕ, ◌-◌, ◌≤◌}
use lib.ListN.{length, get_or, take}
use lib.Dec.{eqb, ltb}
use Rattle.spec.specs.Lists.{all, up_to}
use Rattle.spec.specs.Instance.{instance_of}
use Rattle.spec.specs.Plan.{is_bit, plan_length}
use Rattle.spec.specs.Held.{held}
use Rattle.tables.proofs.Small.{nodes-is}
use Rattle.layout.proofs.Places.{nodes-fit, bits_are, fits-long, fits_bits, fits_moves}
use Rattle.layout.proofs.moves.plan_fits.Statement.{statement}
use Rattle.layout.proofs.moves.plan_fits.Tie as tie

returns : tie.Need-returns-then-plan-plan_length
returns c =
    let l = c.before in
    fits-long _ _ (sym (ap (eqb _) l.plan_length.ensures) ∙ ne_eqb _ _ c.if-plan-plan_length.true)

-- the bytes are as many as a plan's
module _ (c : tie.Else-plan-plan_length) where
  abbrev start : tie.Start
  start = c.before.before.before

  long-here : length start.args.plan.now ≡ plan_length (instance_of (held start.args.b))
  long-here = c.if-plan-plan_length.false ∙ c.plan_length.ensures

  nodes-here : start.args.b.node_count ≤ length start.args.plan.now
  nodes-here = omega (arith, long-here, nodes-fit start.args.b start.requires.passed)

-- what the scan of the nodes' bytes says
module _ (c : tie.After-all_below) where
  abbrev e : tie.Else-plan-plan_length
  e = c.before.before

  long : eqb (length (start e).args.plan.now) (plan_length (instance_of (held (start e).args.b))) ≡ true
  long = eq-eqb _ _ (long-here e)

  bits : c.all_below.result ≡ all (λ n. is_bit (get_or (start e).args.plan.now n 0)) (up_to (instance_of (held (start e).args.b)).nodes)
  bits =
      let b = (start e).args.b in
      let plan = (start e).args.plan.now in
      let whole : b.node_count - 0 ≡ b.node_count = omega arith in
      c.all_below.ensures
      ∙ ap (λ (k : ℕ). all (λ x. ltb x 2) (take k plan)) whole
      ∙ bits_are plan b.node_count (nodes-here e)
      ∙ ap (λ (k : ℕ). all (λ n. is_bit (get_or plan n 0)) (up_to k)) (sym (nodes-is b (start e).requires.passed))

returns-2 : tie.Need-returns-then-all_below
returns-2 c = let a = c.before.before in fits_moves _ _ (long a) (sym (bits a) ∙ c.if-all_below.true) c.moves_fit.ensures

pub plan_fits_spec : {M : Type 1} → statement M
plan_fits_spec =
    tie.close
    (tie.spec
    (λ c κs. search rules)
    returns
    (λ c. search rules)
    (λ c. search rules)
    (λ c. nodes-here c)
    (λ c κs. search rules)
    (λ c κs. let e = c.before.before.before in ((start e).requires, long-here e))
    returns-2
    (λ c. let a = c.before in c.if-all_below.false ∙ fits_bits _ _ (long a) (sym (bits a) ∙ c.if-all_below.false)))
