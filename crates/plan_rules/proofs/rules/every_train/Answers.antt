use Rattle.std.proofs.Common.{ap, ◌∙◌}
use Rattle.laws.proofs.Loops.{all_start, all_done}
use Rattle.spec.specs.Lists.{all, up_to}
use Rattle.tables.proofs.Here.{length-asks}
use Rattle.tables.proofs.Small.{trains-is}
use Rattle.plan_rules.proofs.Loops.{all-fails, all-goes}
use Rattle.plan_rules.proofs.Ready.{train-ready}
use Rattle.plan_rules.proofs.rules.every_train.Goals as goal

pub loop-i-init : goal.loop-i-init
loop-i-init g c holds h = ap (λ n. all holds (up_to n)) (trains-is c.args.b c.requires.ready.counted.passed) ∙ all_start holds _

pub length_in_segments-l-requires : goal.length_in_segments-l-requires
length_in_segments-l-requires g c = length-asks c.args.b c.requires.ready.counted.passed c.loop-i.i c.loop-i-test.true

pub keeps-requires : goal.keeps-requires
keeps-requires g c =
    let ready = train-ready c.requires.ready c.loop-i.i c.loop-i-test.true c.length_in_segments-l.ensures in
    c.requires.callable _ _ _ ready

pub returns-then-not-keeps : goal.returns-then-not-keeps
returns-then-not-keeps g c holds h =
    let ready = train-ready c.requires.ready c.loop-i.i c.loop-i-test.true c.length_in_segments-l.ensures in
    all-fails holds (c.loop-i.invariant holds h) c.loop-i-test.true (h _ _ _ _ ready c.keeps.ensures) c.if-not-keeps.true

pub loop-i-preserved : goal.loop-i-preserved
loop-i-preserved g c holds h =
    let ready = train-ready c.requires.ready c.loop-i.i c.loop-i-test.true c.length_in_segments-l.ensures in
    all-goes holds (c.loop-i.invariant holds h) c.loop-i-test.true (h _ _ _ _ ready c.keeps.ensures) c.if-not-keeps.false

pub returns : goal.returns
returns g c holds h = all_done holds (c.loop-i.invariant holds h) c.loop-i-test.false
