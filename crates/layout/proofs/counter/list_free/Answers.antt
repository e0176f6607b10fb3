-- `counter::list_free` meets its contract: a turn stores a node that is free. Assumes nothing.
use Rattle.std.proofs.Common.{◌≡◌, ℕ, refl, sym, ap, ◌∙◌, zero-add, arith, length, take}
use Rattle.spec.specs.Lists.{up_to, count, pick}
use Rattle.spec.specs.Instance.{instance_of, compile, is_free, free_nodes_of}
use Rattle.spec.specs.Held.{held}
use Rattle.laws.proofs.Picks.{pick-taken, pick-left}
use Rattle.laws.proofs.Stores.{stored-none, stored-byte, stored_same, stored-now}
use Rattle.tables.proofs.Scans.{taken}
use Rattle.layout.proofs.Capped.{free-at}
use Rattle.layout.proofs.counter.list_free.Goals as goal
use Rattle.layout.proofs.counter.list_free.Goals.{else-is_free, then-is_free}

pub loop-node-init : goal.loop-node-init
unfolding pick up_to count
loop-node-init c = (omega arith, stored-none _ 0)

pub offset_bounds-out-free : goal.offset_bounds-out-free
offset_bounds-out-free c =
    omega (arith, c.requires.0.nodes, (taken c.args.b.node_count c.args.b.nodes c.loop-node.node 0 c.loop-node-test.true).0)

pub bounds-out-free : goal.bounds-out-free
bounds-out-free c = omega (arith, c.requires.1, (taken c.args.b.node_count c.args.b.nodes c.loop-node.node 0 c.loop-node-test.true).0)

pub overflow_add-free : goal.overflow_add-free
overflow_add-free c =
    omega (arith, c.requires.0.nodes, (taken c.args.b.node_count c.args.b.nodes c.loop-node.node 0 c.loop-node-test.true).0)

pub loop-node-preserved : goal.loop-node-preserved
loop-node-preserved c =
    let b = c.args.b in
    let n = c.loop-node.node in
    let i = c.loop-node.invariant in
    let free-is = free-at b n c.loop-node-test.true refl ∙ sym c.is_free.ensures in
    elim c.if-is_free.branch [
      | then-is_free w ↦ (
        omega (arith, w.free-is),
        stored-now (stored_same (stored-byte i.1 n refl) (sym (pick-taken _ n (free-is ∙ w.if-is_free.true)))) w.free-is w.out-is,
      )
      | else-is_free w ↦ (
        omega (arith, w.free-is),
        stored-now (stored_same i.1 (sym (pick-left _ n (free-is ∙ w.if-is_free.false)))) w.free-is w.out-is,
      )
    ]

pub returns : goal.returns
unfolding free_nodes_of instance_of compile held
returns c =
    let b = c.args.b in
    let e : c.loop-node.node ≡ length (take b.node_count b.nodes) = omega arith in
    let stored = stored_same c.loop-node.invariant.1 (ap (λ (n : ℕ). pick (is_free (instance_of (held b))) (up_to n)) e) in
    (stored.ends ∙ zero-add _, stored.bytes)
