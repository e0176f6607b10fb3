use Rattle.std.proofs.Common.{ap, arith, Bool}
use Rattle.spec.specs.Lists.{only, one}
use Rattle.spec.specs.Instance.{instance_of, compile}
use Rattle.spec.specs.Formula.{is, not', border_var, family_a, words_of}
use Rattle.reader.proofs.Packing.{nodes-counted}
use Rattle.clauses.proofs.Laws.{passes_same}
use Rattle.clauses.proofs.Turns.{turn-none, turn}
use Rattle.tables.proofs.Answers.{denied-held, forced-held}
use Rattle.formula.proofs.Rest.{passes-both, passed-rows}
use Rattle.formula.proofs.families.family_a.Goals as goal

pub loop-node-init : goal.loop-node-init
loop-node-init c = turn-none _ _

pub loop-node-preserved : goal.loop-node-preserved
loop-node-preserved c =
    let b = c.args.b in
    let n = c.loop-node.node in
    let denied = ap (λ (x : Bool). words_of (only x (one (one (not' n))))) (denied-held b n c.loop-node-test.true c.denies_border.ensures) in
    let forced = ap (λ (x : Bool). words_of (only x (one (one (is n))))) (forced-held b n c.loop-node-test.true c.forces_border.ensures) in
    turn _ _ _ (omega arith) c.loop-node.invariant
    (passes-both _ _ (passes_same denied c.unit_not_if.ensures) (passes_same forced c.unit_is_if.ensures))

pub returns : goal.returns
unfolding family_a border_var instance_of compile
returns c =
    let nodes = nodes-counted c.requires.packed in
    passed-rows _ _ (omega arith) _ c.loop-node.invariant
