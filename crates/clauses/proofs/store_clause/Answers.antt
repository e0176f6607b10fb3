use Rattle.std.proofs.Common.{arith, sym, ◌∙◌, rules, ◌+◌, ◌≡◌, get_or, pos}
use mir.Syntax.{w32}
use mir.Val.{SFits}
use mir.Facts.{to_z-of_z}
use Rattle.clauses.specs.Walked.{more}
use Rattle.clauses.proofs.Laws.{empty-stored, stored-next, stored-last}
use Rattle.clauses.proofs.store_clause.Goals as goal

pub returns-then-is_empty : goal.returns-then-is_empty
returns-then-is_empty g c = empty-stored _ _ _ (search rules)

pub loop-i-preserved : goal.loop-i-preserved
unfolding more
loop-i-preserved g c =
    let f : SFits w32 (get_or c.args.literals c.loop-i.i (pos 0)) = search rules in
    let e : more (c.args.at + c.loop-i.i) 1 ≡ c.args.at + (c.loop-i.i + 1) = omega arith in
    c.loop-i.invariant ∙ stored-next c.args.literals c.loop-i.i _ _ (omega arith) ∙ simp (to_z-of_z, e)

pub loop-l-preserved : goal.loop-l-preserved
loop-l-preserved g c =
    let f : SFits w32 (get_or c.args.literals c.loop-l.l-index (pos 0)) = search rules in
    c.loop-l.invariant ∙ stored-next c.args.literals c.loop-l.l-index _ _ (omega arith) ∙ simp (to_z-of_z, c.more-next.ensures, c.store.ensures)

pub returns-then-at-out : goal.returns-then-at-out
returns-then-at-out g c =
    let e : c.loop-i.i ≡ g.row.N = omega arith in
    sym (c.loop-i.invariant ∙ stored-last c.args.literals _ _ _ (omega arith) ∙ simp e)

pub returns : goal.returns
returns g c = sym (c.loop-l.invariant ∙ stored-last c.args.literals _ _ _ (omega arith) ∙ sym c.store-2.ensures)
