use Rattle.std.proofs.Common.{◌∙◌, ap, arith, Bool, ℕ, ◌+◌}
use Rattle.spec.specs.Lists.{only, one}
use Rattle.spec.specs.Instance.{place_serves}
use Rattle.spec.specs.Formula.{is, servers_f}
use Rattle.spec.specs.Held.{held}
use Rattle.clauses.proofs.Laws.{passes_same}
use Rattle.clauses.proofs.Turns.{turn-none, turn}
use Rattle.listing.specs.Listed.{place_at}
use Rattle.tables.proofs.Answers.{end-inside, serves-answer}
use Rattle.tables.proofs.Held.{sizes-n, least-n, ending-n}
use Rattle.formula.proofs.Rest.{passed-each}
use Rattle.formula.proofs.families.servers.Goals as goal

pub loop-r-init : goal.loop-r-init
loop-r-init c = turn-none _ _

pub serves-served-requires : goal.serves-served-requires
serves-served-requires c =
    let h = c.requires.0 in
    let held = c.requires.2 in
    let r = c.loop-r.r in
    end-inside _ r _ _ held.long (omega arith) (least-n held _ h.runs _ h.length r c.loop-r-test.true)
    (sizes-n held _ h.runs r c.loop-r-test.true) c.end_of.ensures

pub loop-r-preserved : goal.loop-r-preserved
loop-r-preserved c =
    let t = c.args.t in
    let h = c.requires.0 in
    let r = c.loop-r.r in
    let served = c.serves-served.ensures ∙ ap (λ (a : ℕ). place_serves (held c.args.b.now) c.args.c (place_at c.args.runs.now a t.length)) c.end_of.ensures in
    let place = ending-n c.requires.2 _ h.runs _ h.length r c.loop-r-test.true in
    let answer = serves-answer _ _ r h.length c.args.number c.requires.1 place served in
    turn _ _ _ (omega arith) c.loop-r.invariant
    (passes_same (ap (λ (x : Bool). only x (one (is (t.base + r)))) answer) c.affirm_if.ensures)

pub returns : goal.returns
unfolding servers_f
returns c =
    let runs = c.requires.0.runs in
    passed-each _ _ (omega arith) _ c.loop-r.invariant
