use Rattle.std.proofs.Common.{◌∙◌, ap, sym, arith, ℕ}
use Rattle.spec.specs.Instance.{instance_of}
use Rattle.spec.specs.Formula.{claim_var, clauses_i, words_of}
use Rattle.spec.specs.Held.{held}
use Rattle.clauses.proofs.Laws.{passes_same}
use Rattle.clauses.proofs.Turns.{words-each, turn-none, turn, turned}
use Rattle.tables.proofs.Small.{segments-is, trains-is}
use Rattle.formula.specs.Families.{pairs_behind}
use Rattle.formula.proofs.Shapes.{pairs-from}
use Rattle.formula.proofs.walk.pairs_behind.Goals as goal

pub loop-j-init : goal.loop-j-init
loop-j-init c = turn-none _ _

pub loop-j-preserved : goal.loop-j-preserved
loop-j-preserved c =
    let b = c.args.t.now.book in
    let I = instance_of (held b) in
    let t = c.args.interval in
    let i = c.args.train in
    let j = c.loop-j.j in
    let same = ap words_of (pairs-from I b.segment_count i j t _ _ c.first_claim-lower.ensures.0 c.first_claim-higher.ensures.0)
    ∙ ap (λ (n : ℕ). words_of (clauses_i n (claim_var I i t) (claim_var I j t))) (sym (segments-is b c.args.t.now.runs_ready.counted.passed)) in
    turn _ _ _ c.loop-j.auto.j c.loop-j.invariant (passes_same same c.clauses_i.ensures)

pub returns : goal.returns
unfolding pairs_behind
returns c =
    let trains = trains-is _ c.args.t.now.runs_ready.counted.passed in
    let known = c.requires.0 in
    passes_same (sym (words-each _ _)) (turned _ _ _ _ (omega arith) c.loop-j.invariant)
