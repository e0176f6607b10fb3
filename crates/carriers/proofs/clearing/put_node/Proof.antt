-- `clearing::put_node` meets its contract: what is judged is the plan with that border cleared, and setting it again leaves the plan as it
-- was. Assumes nothing.
use borrow.Author.Rules.{rules}
use borrow.Author.Tests.{eq-eqb, ne_eqb}
use native.Mathlib.Omega.{arith}
use mathlib.Core.Path.{◌≡◌, refl, sym, ap, ap₂, ◌∙◌}
use mathlib.Core.Bool.{Bool, true, false, not, ◌&&◌}
use mathlib.Core.List.{[]}
use Prim.Native.Nat.{ℕ, ◌≤◌, ◌<◌}
use lib.ListN.{length, get_or, set, length-set}
use lib.Seq.{set-set, set-get_or}
use Rattle.spec.specs.Lists.{Bytes, only}
use Rattle.spec.specs.Book.{denies_border, forces_border}
use Rattle.spec.specs.Instance.{Instance, instance_of, compile, is_free}
use Rattle.spec.specs.Plan.{Plan, plan_of, rule6}
use Rattle.spec.specs.Carriers.{first_meeting, cleared, carries, entry}
use Rattle.spec.specs.Held.{held}
use Rattle.laws.proofs.Tests.{and-false, from-true}
use Rattle.network.proofs.Held.{kind_at}
use Rattle.demands.proofs.Moves.{nodes-inside}
use Rattle.demands.proofs.Carriers.{cleared-bytes, cleared-fits}
use Rattle.tables.proofs.Small.{nodes-is}
use Rattle.carriers.specs.Entries.{entry_if, entry_of}
use Rattle.carriers.proofs.clearing.put_node.Statement.{statement}
use Rattle.carriers.proofs.clearing.put_node.Tie as tie

-- the entry, by what is known of the node
module _ (I : Instance) (p : Plan) (n : ℕ) where
  by : Bool → Bool → Bytes
  by free border = only (free && border && not (rule6 I (cleared p n))) (entry n (first_meeting I (cleared p n)))

  not_free : is_free I n ≡ false → entry_of I p n ≡ []
  unfolding entry_of carries only by
  not_free e = ap (λ (f : Bool). by f (p.border n)) e

  not_set : p.border n ≡ false → entry_of I p n ≡ []
  unfolding entry_of carries only by
  not_set e =
      ap (by (is_free I n)) e
      ∙ ap (λ (f : Bool). only (f && not (rule6 I (cleared p n))) (entry n (first_meeting I (cleared p n)))) (and-false (is_free I n))

  judged : is_free I n ≡ true → p.border n ≡ true → entry_if I (cleared p n) n ≡ entry_of I p n
  unfolding entry_of entry_if carries by
  judged e f = sym (ap₂ by e f)

module _ (s : tie.Start) where
  abbrev I : Instance
  I = instance_of (held s.args.b)

  abbrev plan : Bytes
  plan = s.args.plan.now

  abbrev node : ℕ
  node = s.args.node

  known : node < I.nodes
  known = omega (arith, s.requires.3, nodes-is s.args.b s.requires.0.counted.passed)

  long : I.nodes ≤ length plan
  long = nodes-inside I plan s.requires.2

  -- the border set again
  as-was : get_or plan node 0 ≡ 1 → set (set plan node 0) node 1 ≡ plan
  as-was e = set-set plan node 0 1 ∙ ap (set plan node) (sym e) ∙ set-get_or plan node 0

-- what the test says of the node
module _ (c : tie.After-is_free) where
  abbrev start : tie.Start
  start = c.before.before.before.before.before.before

  free-is : is_free (I start) (node start) ≡ c.is_free.result
  unfolding is_free instance_of compile
  free-is =
      ap (λ (k : ℕ). not (denies_border k) && not (forces_border k)) (kind_at start.args.b (node start) start.requires.3) ∙ sym c.is_free.ensures

returns : tie.Need-returns-then-not-is_free
returns c =
    let s = start c.before in
    rw (not_free (I s) (plan_of (I s) (plan s)) (node s) (free-is c.before ∙ c.if-not-is_free.true)) (refl, omega arith, refl)

returns-2 : tie.Need-returns-then-plan-node-ne1
unfolding plan_of
returns-2 c =
    let s = start c.before.before.before in
    rw (not_set (I s) (plan_of (I s) (plan s)) (node s) (ne_eqb _ _ c.if-plan-node-ne1.true)) (refl, omega arith, refl)

-- a set border of kind 1
module _ (c : tie.Else-plan-node-ne1) where
  abbrev set-start : tie.Start
  set-start = start c.before.before.before

  is_one : get_or (plan set-start) (node set-start) 0 ≡ 1
  is_one = c.if-plan-node-ne1.false

  free : is_free (I set-start) (node set-start) ≡ true
  free = free-is c.before.before.before ∙ c.if-not-is_free.false

returns-3 : tie.Need-returns
unfolding plan_of
returns-3 c =
    let e = c.before.before.before.before in
    let s = set-start e in
    let p = plan_of (I s) (plan s) in
    let w = rw (cleared-bytes (I s) (plan s) (node s) (known s) (long s), judged (I s) p (node s) (free e) (eq-eqb _ _ (is_one e)))
    at c.put_entry-end.ensures in
    (as-was s (is_one e), w.0, w.1)

pub put_node_spec : {M : Type 1} → statement M
put_node_spec =
    tie.close
    (tie.spec
    (λ c. let s = c.before.before.before.before in omega (arith, s.requires.3, s.requires.0.counted.passed.packed.counts.nodes))
    (λ c κs. search rules)
    returns
    (λ c. let s = start c.before.before in omega (arith, known s, long s))
    returns-2
    (λ c. let s = set-start c in omega (arith, known s, long s))
    (λ c κs. let e = c.before in let s = set-start e in
    (s.requires.0, s.requires.1, cleared-fits (I s) (plan s) (node s) (known s) (long s) s.requires.2, s.requires.3, s.requires.4 (from-true (free e))))
    (λ c. let s = set-start c.before.before.before.before in rw length-set (omega (arith, known s, long s)))
    (λ c. search rules)
    (λ c. search rules)
    returns-3)
