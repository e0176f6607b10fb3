use Rattle.std.proofs.Common.{◌∙◌, sym}
use Rattle.clauses.proofs.Laws.{passes_same, passes-behind, passes-nothing}
use Rattle.tables.proofs.Here.{size_small, departure-answer}
use Rattle.formula.proofs.Calls.{words-served, words_open}
use Rattle.formula.proofs.walk.call_clause.Goals as goal

pub served_at_departure-requires : goal.served_at_departure-requires
served_at_departure-requires c =
    let h = c.args.part.now.block.block in
    size_small _ h.passed _ h.known

pub returns-then-not-served_at_departure : goal.returns-then-not-served_at_departure
returns-then-not-served_at_departure c =
    let h = c.args.part.now.block.block in
    let answer = departure-answer _ _ c.args.number c.call_at-c.ensures h.passed h.known c.served_at_departure.ensures in
    passes_same (words_open _ _ _ (sym answer ∙ c.if-not-served_at_departure.true)) (passes-behind c.call_runs.ensures c.close.ensures)

pub returns-else-not-served_at_departure : goal.returns-else-not-served_at_departure
returns-else-not-served_at_departure c =
    let h = c.args.part.now.block.block in
    let answer = departure-answer _ _ c.args.number c.call_at-c.ensures h.passed h.known c.served_at_departure.ensures in
    passes-nothing (words-served _ _ _ (sym answer ∙ c.if-not-served_at_departure.false))
