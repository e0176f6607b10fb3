-- `track::all_linked` meets its contract: each turn asks about the next two of what is left. Assumes nothing.
use Rattle.std.proofs.Common.{◌≡◌, ◌*◌, ltb, take, sym, ap, ◌∙◌, arith}
use Rattle.std.specs.Slice.Iter.{windows_rest}
use Rattle.std.proofs.Math.Dec.{ltb→lt}
use Rattle.spec.specs.Runs.{linked}
use Rattle.spec.specs.Held.{held}
use Rattle.network.proofs.Links.{linked-short, linked-next, all-next}
use Rattle.network.proofs.track.all_linked.Goals as goal

pub loop-pair-init : goal.loop-pair-init
loop-pair-init c =
    let r : windows_rest c.into_iter-pair-iterator.result ≡ take c.args.n c.args.place = cc in
    record { in_twos = cc; known = rw r c.requires.2; same = ap (linked (held c.args.b)) (sym r) }

pub leads_to-requires : goal.leads_to-requires
leads_to-requires c =
    let s = c.in-Some.ensures.steps.1 in
    let i = c.loop-pair.invariant in
    let t = all-next _ _ _ i.in_twos s.0 s.1 s.2 (λ d. ltb d (2 * c.args.b.segment_count)) i.known in
    (c.requires.0, rw c.from.ensures (ltb→lt _ _ t.0), rw c.from-in-loop-pair.ensures (ltb→lt _ _ t.1))

pub returns-then-not-leads_to : goal.returns-then-not-leads_to
returns-then-not-leads_to c =
    let s = c.in-Some.ensures.steps.1 in
    let i = c.loop-pair.invariant in
    let e = linked-next _ _ _ i.in_twos s.0 s.1 s.2 (held c.args.b) in
    sym (i.same ∙ e ∙ simp (← c.from.ensures, ← c.from-in-loop-pair.ensures, ← c.leads_to.ensures, c.if-not-leads_to.true))

pub loop-pair-preserved : goal.loop-pair-preserved
loop-pair-preserved c =
    let s = c.in-Some.ensures.steps.1 in
    let i = c.loop-pair.invariant in
    let e = linked-next _ _ _ i.in_twos s.0 s.1 s.2 (held c.args.b) in
    let t = all-next _ _ _ i.in_twos s.0 s.1 s.2 (λ d. ltb d (2 * c.args.b.segment_count)) i.known in
    record {
      in_twos = c.in-Some.ensures.steps.0 ∙ i.in_twos;
      known = t.2;
      same = i.same ∙ e ∙ simp (← c.from.ensures, ← c.from-in-loop-pair.ensures, ← c.leads_to.ensures, c.if-not-leads_to.false);
    }

pub returns : goal.returns
returns c =
    let s = c.in-None.ensures.steps.1 in
    let i = c.loop-pair.invariant in
    sym (i.same ∙ linked-short (held c.args.b) _ (omega arith))
