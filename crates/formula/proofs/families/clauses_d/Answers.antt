use Rattle.std.proofs.Common.{◌∙◌, ap, arith, Bool, not, ℕ, ◌+◌}
use Rattle.spec.specs.Lists.{only, one}
use Rattle.spec.specs.Formula.{not', words_of, clauses_d}
use Rattle.clauses.proofs.Laws.{passes_same}
use Rattle.clauses.proofs.Turns.{turn-none, turn}
use Rattle.tables.proofs.Answers.{given-answer}
use Rattle.tables.proofs.Held.{starting-n}
use Rattle.tables.proofs.Here.{size_small, same-train}
use Rattle.formula.proofs.Rest.{passes-both, passed-rows}
use Rattle.formula.proofs.families.clauses_d.Goals as goal

pub loop-k-init : goal.loop-k-init
loop-k-init c = turn-none _ _

pub is_given-given-requires : goal.is_given-given-requires
is_given-given-requires c =
    let h = c.requires.0 in
    (omega arith, size_small _ h.passed _ h.known)

pub loop-k-preserved : goal.loop-k-preserved
loop-k-preserved c =
    let h = c.requires.0 in
    let k = c.loop-k.k in
    let given = rw c.start_of.ensures at c.is_given-given.ensures in
    let place = starting-n c.requires.1 _ h.runs _ h.length k c.loop-k-test.true in
    let answer = given-answer _ _ k h.length (same-train _ h.passed _ h.known) place given in
    turn _ _ _ (omega arith) c.loop-k.invariant
    (passes_same (ap (λ (x : Bool). words_of (only (not x) (one (one (not' (c.args.t.base + k)))))) answer) c.unit_not_if.ensures)

pub returns : goal.returns
unfolding clauses_d
returns c =
    let runs = c.requires.0.runs in
    let last = c.gone_variable.ensures ∙ ap (λ (n : ℕ). c.args.t.base + n) runs in
    passes-both _ _ (passed-rows _ _ (omega arith) _ c.loop-k.invariant)
    (passes_same (ap (λ (v : ℕ). words_of (one (one (not' v)))) last) c.unit_not.ensures)
