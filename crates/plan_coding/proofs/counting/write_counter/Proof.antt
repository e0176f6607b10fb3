-- `counting::write_counter` meets its contract: the rows over the nodes of kind 1 are the values of the cap's variables. Assumes nothing.
use borrow.Author.Rules.{rules}
use native.Mathlib.Omega.{arith}
use mathlib.Core.Path.{◌≡◌, sym, ap, ap₂, ◌∙◌, subst}
use mathlib.Core.Option.{Option}
use mathlib.Core.List.{List}
use Prim.Native.Nat.{ℕ, ◌+◌, ◌*◌, ◌≤◌, ◌<◌}
use lib.ListN.{length, get_or, replicate, length-replicate}
use lib.Seq.{sets}
use Rattle.spec.specs.Lists.{Bytes, up_to}
use Rattle.spec.specs.Instance.{Instance, instance_of, is_free, free_nodes_of}
use Rattle.spec.specs.Cap.{Counter}
use Rattle.spec.specs.Held.{held, held_cap}
use Rattle.laws.proofs.Picks.{pick-most}
use Rattle.laws.proofs.Parts.{length-up_to}
use Rattle.demands.proofs.Cap.{free-inside, counter-whole}
use Rattle.tables.proofs.Small.{nodes-is}
use Rattle.layout.specs.declared.counter.Counter.{Counter as CounterStruct}
use Rattle.layout.specs.Counters.{held_counter}
use Rattle.layout.proofs.Capped.{counter-under, variables-under}
use Rattle.plan_coding.proofs.Counts.{stored-listed, rows-values}
use Rattle.plan_coding.proofs.counting.write_counter.Statement.{statement}
use Rattle.plan_coding.proofs.counting.write_counter.Tie as tie

-- a book has no more nodes of kind 1 than nodes
free-few : (I : Instance) → length (free_nodes_of I) ≤ I.nodes
unfolding free_nodes_of
free-few I = omega (arith, pick-most (is_free I) (up_to I.nodes), length-up_to I.nodes)

-- the list, the counter and its first variable
module _ (o : tie.After-own_variables-first) where
  abbrev given : tie.Start
  given = o.before.before.before.before.before.before.before

  abbrev I : Instance
  I = instance_of (held given.args.b)

  abbrev cap : Option ℕ
  cap = held_cap given.args.cap

  abbrev nodes : List ℕ
  nodes = o.list_free.new.out

  abbrev c : CounterStruct
  c = o.counter_of-c.result

  counted : I.nodes ≡ given.args.b.node_count
  counted = nodes-is given.args.b given.requires.0.passed

  listed : (n : ℕ) → n < length (free_nodes_of I) → get_or nodes n 0 ≡ get_or (free_nodes_of I) n 0
  listed =
      stored-listed (replicate 96 0) (free_nodes_of I) o.list_free.ensures.1
      (omega (arith, free-few I, counted, length-replicate {A = ℕ} 96 0, given.requires.0.passed.packed.counts.nodes))

  whole : c.most + c.spare ≤ length (free_nodes_of I)
  whole =
      subst (λ (m : Counter). m.most + m.spare ≤ length (free_nodes_of I))
      (sym (o.counter_of-c.ensures.counter ∙ counter-under cap I))
      (counter-whole cap (length (free_nodes_of I)))

  inside : (n : ℕ) → n < c.most + c.spare → get_or nodes n 0 < length given.args.plan.now
  inside n h =
      let l : n < length (free_nodes_of I) = omega (arith, h, whole) in
      omega (arith, listed n l, free-inside I n l, counted, given.requires.1)

  room : o.own_variables-first.result + c.most * c.spare ≤ length given.args.out.now
  room =
      omega (
        arith,
        o.own_variables-first.ensures.0,
        ap (λ (m : Counter). m.most * m.spare) o.counter_of-c.ensures.counter,
        variables-under cap I,
        given.requires.2,
      )

write-rows-requires : tie.Need-write_rows-requires
write-rows-requires c κs = let o = c.before.before in (o.counter_of-c.ensures.few, inside o, room o)

returns : tie.Need-returns
returns c =
    let w = c.before.before in
    let o = w.before.before.before in
    w.write_rows.ensures
    ∙ ap₂ (λ (k : ℕ) (bytes : Bytes). sets (given o).args.out.now k bytes) o.own_variables-first.ensures.0
    (rows-values (cap o) (I o) (nodes o) (given o).args.plan.now (listed o) (held_counter o.counter_of-c.result) o.counter_of-c.ensures.counter)

pub write_counter_spec : {M : Type 1} → statement M
write_counter_spec =
    tie.close
    (tie.spec
    (λ c. search rules)
    (λ c κs. search rules)
    (λ c κs. search rules)
    (λ c κs. search rules)
    write-rows-requires
    (λ c. search rules)
    returns)
