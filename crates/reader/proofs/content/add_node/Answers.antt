-- Each answer is the one of the table of faults, by the tests that led there; and the struct with one more entry is the one of the
-- longer book. Assumes nothing.
use Rattle.std.proofs.Common.{◌≡◌, get_or, sym, arith}
use Rattle.laws.proofs.Numbers.{field-one}
use Rattle.spec.specs.Numbers.{field}
use Rattle.spec.specs.Frames.{node_kind}
use Rattle.spec.specs.Book.{greatest_node_kind}
use Rattle.reader.proofs.Packing.{nodes-counted, put-node, refuses, accepts}
use Rattle.reader.proofs.Tables.{node-full, node-wrong, node-fine}
use Rattle.reader.proofs.content.add_node.Goals as goal

pub returns-then-at-ge-MAX_NODES : goal.returns-then-at-ge-MAX_NODES
returns-then-at-ge-MAX_NODES c =
    let n = nodes-counted c.requires.0 in
    λ f. refuses f node_kind _ _ (node-full _ _ _ (omega arith))

pub returns-then-kind-gt3 : goal.returns-then-kind-gt3
unfolding greatest_node_kind
returns-then-kind-gt3 c =
    let n = nodes-counted c.requires.0 in
    let k : field c.args.p.now 0 1 ≡ get_or c.args.p.now 0 0 = field-one _ 0 (omega arith) in
    λ f. refuses f node_kind _ _ (node-wrong _ _ _ (omega arith) (omega arith))

pub returns : goal.returns
unfolding greatest_node_kind
returns c =
    let n = nodes-counted c.requires.0 in
    let k : field c.args.p.now 0 1 ≡ get_or c.args.p.now 0 0 = field-one _ 0 (omega arith) in
    λ f. accepts f node_kind _ _ (node-fine _ _ _ (omega arith) (omega arith)) (put-node _ c.requires.0 f _ _ (sym k) (omega arith))
