-- The judgement without a cap, then the count. Assumes nothing.
use Rattle.std.proofs.Common.{arith, sym, ap, ◌∙◌}
use Rattle.std.proofs.lemmas.Result.{err_from_is_err_and}
use Rattle.spec.specs.Instance.{Instance}
use Rattle.spec.specs.Held.{held}
use Rattle.spec.specs.Entry.{judge_assignment}
use Rattle.demands.proofs.Uncapped.{none-under}
use Rattle.tables.proofs.Small.{nodes-is}
use Rattle.fewest.proofs.Counting.{has-borders, not-judged, other-count, right-count}
use Rattle.fewest.proofs.judge_count.Goals as goal

pub returns-in_err-judge_assignment : goal.returns-in_err-judge_assignment
returns-in_err-judge_assignment c =
    let p = err_from_is_err_and c.from_residual.result c.from_residual.ensures.1 in
    let same = ap (λ (J : Instance). judge_assignment J c.args.assignment.now) (none-under (held c.args.t.now.book)) in
    rw (p.1, p.2) (sym (not-judged _ _ _ (sym (c.in_err-judge_assignment.ensures ∙ same))))

pub count_set-requires : goal.count_set-requires
count_set-requires c =
    let same = ap (λ (J : Instance). judge_assignment J c.args.assignment.now) (none-under (held c.args.t.now.book)) in
    let p = c.args.t.now.runs_ready.counted.passed in
    (p.packed.counts, omega (arith, nodes-is c.args.t.now.book p, has-borders _ _ (sym (c.in_ok-judge_assignment.ensures ∙ same))))

pub returns-then-count_set-n : goal.returns-then-count_set-n
returns-then-count_set-n c =
    let same = ap (λ (J : Instance). judge_assignment J c.args.assignment.now) (none-under (held c.args.t.now.book)) in
    sym (other-count _ _ _ (sym (c.in_ok-judge_assignment.ensures ∙ same)) c.count_set.ensures c.if-count_set-n.true)

pub returns : goal.returns
returns c =
    let same = ap (λ (J : Instance). judge_assignment J c.args.assignment.now) (none-under (held c.args.t.now.book)) in
    sym (right-count _ _ _ (sym (c.in_ok-judge_assignment.ensures ∙ same)) c.count_set.ensures c.if-count_set-n.false)
