-- `variables::in_counter` meets its contract: the counter's variables lie in rows, a row a count. Assumes nothing.
use borrow.Author.Rules.{rules}
use native.Mathlib.Nat.{div-lt_iff_lt-mul, mod-lt, zero-add}
use native.Mathlib.Omega.{arith}
use mathlib.Core.Path.{◌≡◌, sym, ap, ap₂, ◌∙◌, subst}
use mathlib.Core.List.{List}
use Prim.Native.Nat.{ℕ, suc, ◌+◌, ◌*◌, ◌-◌, ◌/◌, ◌%◌, ◌≤◌, ◌<◌}
use lib.ListN.{length, get_or, replicate, length-replicate}
use lib.Seq.{sets}
use Rattle.laws.proofs.Picks.{pick-most}
use Rattle.laws.proofs.Parts.{length-up_to}
use Rattle.laws.proofs.Stores.{get_or-sets-in}
use Rattle.spec.specs.Lists.{up_to, accepted}
use Rattle.spec.specs.Instance.{Instance, instance_of, under, is_free, free_nodes_of}
use Rattle.spec.specs.Cap.{Counter, counter_of}
use Rattle.spec.specs.Formula.{own_variables, variables}
use Rattle.spec.specs.Held.{held, held_cap}
use Rattle.spec.specs.Library.{counted}
use Rattle.demands.proofs.Cap.{counter-whole}
use Rattle.tables.proofs.Small.{passed-few}
use Rattle.layout.specs.declared.counter.Counter.{Counter as CounterStruct}
use Rattle.layout.proofs.Capped.{free-under, counter-under, own-under, variables-under, counter-small}
use Rattle.gentupag.specs.Answers.{variable_answer}
use Rattle.gentupag.proofs.Standing.{answered, some-spare, none-behind, count_at}
use Rattle.gentupag.proofs.variables.in_counter.Statement.{statement}
use Rattle.gentupag.proofs.variables.in_counter.Tie as tie

-- a book has no more nodes of kind 1 than nodes
free-few : (I : Instance) → length (free_nodes_of I) ≤ I.nodes
unfolding free_nodes_of
free-few I = omega (arith, pick-most (is_free I) (up_to I.nodes), length-up_to I.nodes)

-- the counter, and the variables before it
module _ (o : tie.After-own_variables) where
  abbrev given : tie.Start
  given = o.before.before

  abbrev I : Instance
  I = instance_of (held given.args.b)

  -- the same under the cap
  abbrev J : Instance
  J = under (held_cap given.args.cap) I

  abbrev own : ℕ
  own = o.own_variables.result

  abbrev place : ℕ
  place = given.args.at - own

  abbrev counter : CounterStruct
  counter = o.counter_of-c.result

  few : counter.most + counter.spare ≤ 96
  few = o.counter_of-c.ensures.few

  small : counter.most * counter.spare ≤ 9216
  small = counter-small counter.most counter.spare few

  is-own : own ≡ own_variables J
  is-own = o.own_variables.ensures.0 ∙ sym (own-under (held_cap given.args.cap) I)

  is-most : counter.most ≡ (counter_of J).most
  is-most = ap (λ (m : Counter). m.most) o.counter_of-c.ensures.counter

  is-spare : counter.spare ≡ (counter_of J).spare
  is-spare = ap (λ (m : Counter). m.spare) o.counter_of-c.ensures.counter

  from : own ≤ given.args.at
  from = omega (arith, o.own_variables.ensures.0, given.requires.1)

  -- how many variables there are
  all_are : variables J ≡ own + counter.most * counter.spare
  all_are =
      let rows = ap (λ (m : Counter). m.most * m.spare) o.counter_of-c.ensures.counter in
      omega (arith, variables-under (held_cap given.args.cap) I, rows, o.own_variables.ensures.0)

-- the variable is one of the counter's: its row, and its place there
module _ (e : tie.Else-c-spare) where
  abbrev known : tie.After-own_variables
  known = e.before.before

  abbrev most : ℕ
  most = (counter known).most

  abbrev spare : ℕ
  spare = (counter known).spare

  abbrev j : ℕ
  j = place known / spare

  abbrev k : ℕ
  k = place known % spare

  wide : 0 < spare
  wide = some-spare most spare (place known) e.if-c-spare.false

  row : j < most
  row = (div-lt_iff_lt-mul wide).1 e.if-c-spare.false

  rest : k < spare
  rest = mod-lt (place known) {m = spare} wide

  inside : j + k < 96
  inside = omega (arith, row, rest, few known)

  -- the node that is listed there
  whole : most + spare ≤ length (free_nodes_of (I known))
  whole =
      let g = given known in
      subst (λ (m : Counter). m.most + m.spare ≤ length (free_nodes_of (I known)))
      (sym (known.counter_of-c.ensures.counter ∙ counter-under (held_cap g.args.cap) (I known)))
      (counter-whole (held_cap g.args.cap) (length (free_nodes_of (I known))))

  listed : (nodes : List ℕ) → nodes ≡ sets (replicate 96 0) 0 (free_nodes_of (I known))
      → get_or nodes (j + k) 0 ≡ get_or (free_nodes_of (J known)) (j + k) 0
  listed nodes filled =
      let g = given known in
      let free = free_nodes_of (I known) in
      let fits = (passed-few g.args.b g.requires.0.passed).nodes in
      ap (λ (ns : List ℕ). get_or ns (j + k) 0) filled
      ∙ ap (λ (i : ℕ). get_or (sets (replicate 96 0) 0 free) i 0) (sym (zero-add (j + k)))
      ∙ get_or-sets-in (replicate 96 0) 0 free (j + k) 0 (omega (arith, row, rest, whole))
      (omega (arith, free-few (I known), fits, length-replicate {A = ℕ} 96 0))
      ∙ ap (λ (ns : List ℕ). get_or ns (j + k) 0) (sym (free-under (held_cap g.args.cap) (I known)))

-- where the nodes are listed
abbrev counting : tie.After-nodes-2-1 → tie.Else-c-spare
counting c = c.before.before.before

returns : tie.Need-returns-then-c-spare
returns c =
    let t = c.before in
    let o = t.before.before in
    c.stands_for.ensures
    ∙ answered (none-behind (J o) _ (omega (arith, all_are o, from o, t.if-c-spare.true)))

returns-2 : tie.Need-returns
returns-2 c =
    let e = counting c in
    let o = known e in
    let l = c.before in
    let next : j e + 1 ≡ suc (j e) = omega arith in
    ap₂ (λ (n m : ℕ). variable_answer (accepted (counted n m))) (listed e l.list_free.new.out l.list_free.ensures.1) next
    ∙ answered (count_at (J o) (own o) (given o).args.at (is-own o) (is-most o) (is-spare o) (from o) e.if-c-spare.false)

pub in_counter_spec : {M : Type 1} → statement M
in_counter_spec =
    tie.close
    (tie.spec
    (λ c κs. search rules)
    (λ c κs. search rules)
    (λ c. search rules)
    (λ c. omega (arith, small c.before))
    (λ c κs. search rules)
    returns
    (λ c. omega (arith, wide c))
    (λ c. search rules)
    (λ c κs. search rules)
    (λ c. omega (arith, wide (counting c)))
    (λ c. omega (arith, inside (counting c)))
    (λ c. omega (arith, inside (counting c)))
    (λ c. omega (arith, inside (counting c)))
    (λ c. omega (arith, row (counting c), few (known (counting c))))
    returns-2)
