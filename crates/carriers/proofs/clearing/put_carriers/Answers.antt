use Rattle.std.proofs.Common.{◌≡◌, refl, sym, ap, ◌∙◌, subst, arith, List, ℕ, ◌<◌, T}
use Rattle.laws.proofs.Stores.{stored, stored-none, stored-behind, stored_same, stored-first, stored-length}
use Rattle.demands.proofs.Carriers.{list-fits}
use Rattle.spec.specs.Instance.{instance_of}
use Rattle.spec.specs.Plan.{plan_of, plan_fits}
use Rattle.spec.specs.Carriers.{carrier_list}
use Rattle.spec.specs.Held.{held}
use Rattle.tables.proofs.Small.{nodes-is}
use Rattle.carriers.specs.Entries.{entry_of}
use Rattle.carriers.proofs.Below.{list_below, list-none, list-next, list_all, list-room}
use Rattle.carriers.proofs.clearing.put_carriers.Goals as goal

pub loop-node-init : goal.loop-node-init
loop-node-init c = record { kept = refl; list = stored_same (stored-none _ 0) (sym (list-none _ _)) }

pub put_node-end-requires : goal.put_node-end-requires
put_node-end-requires c =
    let I = instance_of (held c.args.b) in
    let list = c.loop-node.invariant.list in
    let known : c.loop-node.node < I.nodes = omega (arith, c.loop-node-test.true, nodes-is c.args.b c.requires.0.counted.passed) in (
      c.requires.0,
      c.requires.1,
      subst (λ (s : List ℕ). T (plan_fits I s)) (sym c.loop-node.invariant.kept) c.requires.2,
      c.loop-node-test.true,
      λ free. omega (arith, list.ends, stored-length list, list-room I (plan_of I c.args.plan.now) c.loop-node.node known free, c.requires.3),
    )

pub loop-node-preserved : goal.loop-node-preserved
loop-node-preserved c =
    let I = instance_of (held c.args.b) in
    let p = plan_of I c.args.plan.now in
    let e = rw c.loop-node.invariant.kept at c.put_node-end.ensures in
    record {
      kept = e.0;
      list = stored_same (stored-behind c.loop-node.invariant.list (stored _ _ (entry_of I p c.loop-node.node) e.1 e.2)) (sym (list-next I p c.loop-node.node));
    }

pub returns : goal.returns
returns c =
    let I = instance_of (held c.args.b) in
    let p = plan_of I c.args.plan.now in
    let end : c.loop-node.node ≡ I.nodes = omega (arith, c.loop-node-test.false, nodes-is c.args.b c.requires.0.counted.passed) in
    let list = stored_same c.loop-node.invariant.list (ap (list_below I p) end ∙ list_all I p) in
    (c.loop-node.invariant.kept, omega (arith, list.ends), list.bytes ∙ stored-first _ (carrier_list I p) (omega (arith, list-fits I p, c.requires.3)))
