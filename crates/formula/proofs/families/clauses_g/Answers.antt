use Rattle.std.proofs.Common.{ap₂, arith, ℕ, ◌+◌, List, ◌∷◌, map}
use Rattle.spec.specs.Lists.{one}
use Rattle.spec.specs.Book.{segment_of}
use Rattle.spec.specs.Instance.{instance_of, compile}
use Rattle.spec.specs.Formula.{is, not', words_of, claims_g, clauses_g}
use Rattle.clauses.proofs.Laws.{passes_same}
use Rattle.clauses.proofs.Turns.{turn-none, turn}
use Rattle.tables.proofs.Held.{few-n, sizes-n, runs-n}
use Rattle.formula.proofs.Rest.{passed-rows}
use Rattle.formula.proofs.families.clauses_g.Goals as goal

pub loop-r-init : goal.loop-r-init
loop-r-init c = turn-none _ _

pub claims_of-requires : goal.claims_of-requires
claims_of-requires c =
    let h = c.requires.0 in
    let held = c.requires.1 in
    (h.small, few-n held _ h.runs, c.loop-r-test.true, held.long, sizes-n held _ h.runs _ c.loop-r-test.true)

pub loop-r-preserved : goal.loop-r-preserved
unfolding claims_g instance_of compile
loop-r-preserved c =
    let t = c.args.t in
    let runs = c.requires.0.runs in
    let r = c.loop-r.r in
    let claims = ap₂ (λ (n : ℕ) (run : List ℕ). words_of
    (map (λ s. not' (t.base + r) ∷ one (is (t.base + (n + 1 + s)))) (map segment_of run))) runs
    (runs-n c.requires.1 _ runs r c.loop-r-test.true) in
    turn _ _ _ (omega arith) c.loop-r.invariant (passes_same claims c.claims_of.ensures)

pub returns : goal.returns
unfolding clauses_g
returns c =
    let runs = c.requires.0.runs in
    passed-rows _ _ (omega arith) _ c.loop-r.invariant
