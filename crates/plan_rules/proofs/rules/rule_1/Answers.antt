-- Each node of the book has its byte of the plan, and the test of a node is that of rule 1.
use Rattle.std.proofs.Common.{rules, tests, arith, refl, sym, ◌<◌, length}
use Rattle.std.proofs.lemmas.Iterator.{serves_from_Range}
use Rattle.demands.proofs.Moves.{nodes-inside}
use Rattle.spec.specs.Plan.{plan_of, rule1}
use Rattle.tables.proofs.Answers.{denied-held, forced-held}
use Rattle.tables.proofs.Small.{nodes-is}
use Rattle.plan_rules.proofs.Chains.{all-below}
use Rattle.plan_rules.proofs.rules.rule_1.Goals as goal

pub all-requires-clause-callable : goal.all-requires-clause-callable
all-requires-clause-callable c =
    serves_from_Range (λ x q k. search (rules, tests))
    (λ x low high.
    let long : x < length c.args.plan.now = omega (arith, high, nodes-is c.args.b c.requires.0, nodes-inside _ _ c.requires.1) in
    let few : x < 96 = omega (arith, high, c.requires.0.packed.counts.nodes) in
    search rules)

pub returns : goal.returns
unfolding plan_of rule1
returns c =
    all-below _ _
    (λ x b q k. (
      search rules,
      λ l m.
          let d = denied-held c.args.b x m refl in
          let f = forced-held c.args.b x m refl in
          search rules,
    ))
    refl (sym (nodes-is c.args.b c.requires.0)) c.all.ensures.ran
