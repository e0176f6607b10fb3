use Rattle.std.proofs.Common.{◌≡◌, ◌∙◌, ap, sym, arith, ℕ}
use Rattle.clauses.proofs.Laws.{passes_same}
use Rattle.clauses.proofs.Turns.{ahead-start, ahead-same, ahead-pass, ahead-done}
use Rattle.formula.proofs.Blocks.{few, claims-small}
use Rattle.formula.proofs.Meeting.{meeting-same, behind, behind-next, behind-end, behind-all}
use Rattle.formula.proofs.families.clauses_h.Goals as goal

pub loop-meet-init : goal.loop-meet-init
loop-meet-init c =
    let e = c.into_iter-meet-iterator.ensures.into_iter_gives in
    let rest : c.into_iter-meet-iterator.result.rest.now ≡ c.args.meets.now = rw e c.chunks_exact-meet-items.ensures.rest in
    (rw e c.chunks_exact-meet-items.ensures.size, ahead-same (ap (behind _) (sym rest)) (ahead-start _ _))

pub claims_from-claims-requires : goal.claims_from-claims-requires
claims_from-claims-requires c = omega (arith, c.requires.0.small, few c.requires.0)

pub overflow_add-claims : goal.overflow_add-claims
overflow_add-claims c = omega (arith, claims-small c.requires.0 c.claims_from-claims.ensures)

pub overflow_add-claims-in-loop-meet : goal.overflow_add-claims-in-loop-meet
overflow_add-claims-in-loop-meet c = omega (arith, claims-small c.requires.0 c.claims_from-claims.ensures)

pub implies_either-requires : goal.implies_either-requires
implies_either-requires c =
    let small = claims-small c.requires.0 c.claims_from-claims.ensures in
    (omega (arith, small), omega arith, omega (arith, small))

pub loop-meet-preserved : goal.loop-meet-preserved
loop-meet-preserved c =
    let s = c.in-Some.ensures.steps in
    let three = c.in-Some.meet.now in
    let y = c.claims_from-claims.result in
    let split = ap (behind y) s.1.0 ∙ behind-next y three c.next.new.self.rest.now (s.1.1 ∙ c.loop-meet.invariant.0) in
    let clause = meeting-same y c.from-in-loop-meet.ensures c.from.ensures c.from-in-loop-meet-2.ensures in
    (s.0 ∙ c.loop-meet.invariant.0, ahead-pass (ahead-same split c.loop-meet.invariant.1) (passes_same clause c.implies_either.ensures))

pub returns : goal.returns
returns c =
    let t = c.args.t in
    let done = ahead-done (ahead-same (behind-end _ _ (omega (arith, c.in-None.ensures.steps))) c.loop-meet.invariant.1) in
    passes_same (ap (λ (y : ℕ). behind y c.args.meets.now) c.claims_from-claims.ensures
    ∙ behind-all _ t.train t.base _ _ c.requires.0.runs c.requires.1) done
