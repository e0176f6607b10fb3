use Rattle.std.proofs.Common.{◌∙◌, ap, sym, rules}
use Rattle.spec.specs.Instance.{instance_of}
use Rattle.spec.specs.Formula.{words_of}
use Rattle.spec.specs.Held.{held, held_cap}
use Rattle.clauses.proofs.Laws.{passes_same, passes-begun}
use Rattle.formula.proofs.Capped.{formula-under}
use Rattle.formula.proofs.Rest.{passes-both}
use Rattle.formula.proofs.Shapes.{shape-b, shape-c, shape-d, shape-e, shape-g, shape-h}
use Rattle.formula.proofs.walk.walk_formula.Goals as goal

pub returns : goal.returns
returns c =
    let I = instance_of (held c.args.t.now.book) in
    let passed = passes_same (ap words_of (sym (formula-under (held_cap c.args.cap) I)))
    (passes-both _ _ c.family_a.ensures
    (passes-both _ _ (passes_same (ap words_of (shape-b I)) c.by_train.ensures)
    (passes-both _ _ (passes_same (ap words_of (shape-c I)) c.by_train-2.ensures)
    (passes-both _ _ (passes_same (ap words_of (shape-d I)) c.by_train-3.ensures)
    (passes-both _ _ (passes_same (ap words_of (shape-e I)) c.by_train-4.ensures)
    (passes-both _ _ c.family_f.ensures
    (passes-both _ _ (passes_same (ap words_of (shape-g I)) c.by_train-5.ensures)
    (passes-both _ _ (passes_same (ap words_of (shape-h I)) c.by_train-6.ensures)
    (passes-both _ _ c.family_i.ensures c.cap_clauses.ensures))))))))) in
    let same = passed.same_output ∙ c.new-walk.ensures.same_output in
    let walks = passes-begun c.new-walk.ensures passed in
    let output = walks.output in
    record { walk = walks.walk; output = search (rules, same, output) }
