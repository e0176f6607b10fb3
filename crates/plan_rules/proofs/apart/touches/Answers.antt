use Rattle.std.proofs.Common.{sym, ap, ◌∙◌, rules, tests, get_or}
use Rattle.std.proofs.lemmas.Iterator.{YieldsList-from_slice}
use Rattle.std.proofs.lemmas.Iterator.Adapters.{serves_from_places}
use Rattle.laws.proofs.Rows.{any-map}
use Rattle.spec.specs.Lists.{any}
use Rattle.spec.specs.Book.{segment_of}
use Rattle.listing.proofs.Filled.{lent}
use Rattle.plan_rules.specs.Marks.{labels_of, is_marked}
use Rattle.plan_rules.proofs.Chains.{any-of-list}
use Rattle.plan_rules.proofs.Marking.{label-in, place-is}
use Rattle.plan_rules.proofs.apart.touches.Goals as goal

pub any-requires-clause-callable : goal.any-requires-clause-callable
any-requires-clause-callable c =
    serves_from_places (YieldsList-from_slice (lent c.args.stretch.at c.args.stretch.size c.args.runs.now) cc) (λ x q k. search (rules, tests))
    (λ x k low at. let has = label-in c.requires k x.now low at in search rules)

pub returns : goal.returns
unfolding labels_of segment_of is_marked
returns c =
    any-of-list (λ d. is_marked c.args.marks.now (get_or c.args.labels.now (segment_of d) 0)) (λ x b q k. (search rules, search rules))
    (lent c.args.stretch.at c.args.stretch.size c.args.runs.now) (cc) c.any.ensures.ran
    ∙ ap (any (λ d. is_marked c.args.marks.now (get_or c.args.labels.now (segment_of d) 0))) (sym (place-is c.requires)) ∙ sym (any-map _ _ _)
