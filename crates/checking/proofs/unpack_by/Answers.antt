-- Room, the judgement, then the plan. Assumes nothing.
use Rattle.std.proofs.Common.{◌≡◌, length, sym, ap, ◌∙◌, arith}
use Rattle.std.proofs.lemmas.Result.{err_from_is_err_and}
use Rattle.spec.specs.Instance.{instance_of, under}
use Rattle.spec.specs.Plan.{plan_length}
use Rattle.spec.specs.Assignment.{decode}
use Rattle.spec.specs.Held.{held, held_cap}
use Rattle.spec.specs.Entry.{overwrite}
use Rattle.demands.proofs.Uncapped.{length-same, decode-same}
use Rattle.reader.proofs.Outputs.{left-stopped, left-written}
use Rattle.checking.proofs.Answers.{length-decode, unpacked-short, unpacked-refused, unpacked-accepted}
use Rattle.checking.proofs.unpack_by.Goals as goal

pub returns-then-out-length : goal.returns-then-out-length
returns-then-out-length c =
    let cap = held_cap c.args.cap in
    let own = instance_of (held c.args.t.now.book) in
    let need = c.plan_length-length.ensures ∙ sym (length-same cap own) in
    let out = c.args.out.now in
    let h = left-stopped out (unpacked-short (under cap own) c.args.values.now (length out) (omega (arith, c.if-out-length.true, need))) in
    record { answer = h.0; output = h.1 }

pub returns-in_err-judge_assignment : goal.returns-in_err-judge_assignment
returns-in_err-judge_assignment c =
    let p = err_from_is_err_and c.from_residual.result c.from_residual.ensures.1 in
    let cap = held_cap c.args.cap in
    let own = instance_of (held c.args.t.now.book) in
    let need = c.plan_length-length.ensures ∙ sym (length-same cap own) in
    let out = c.args.out.now in
    let h = left-stopped out (unpacked-refused (under cap own) c.args.values.now (length out) (omega (arith, c.if-out-length.false, need))
    c.judge_assignment.ensures c.in_err-judge_assignment.was) in
    record { answer = rw (p.1, p.2) h.0; output = h.1 }

pub returns : goal.returns
returns c =
    let cap = held_cap c.args.cap in
    let own = instance_of (held c.args.t.now.book) in
    let need = c.plan_length-length.ensures ∙ sym (length-same cap own) in
    let out = c.args.out.now in
    let s = c.args.values.now in
    let h = left-written out (decode (under cap own) s)
    (unpacked-accepted (under cap own) s (length out) (omega (arith, c.if-out-length.false, need)) c.judge_assignment.ensures c.in_ok-judge_assignment.was)
    (need ∙ sym (length-decode _ _)) (c.decode.ensures ∙ ap (overwrite out) (sym (decode-same cap own s))) in
    record { answer = h.0; output = h.1 }
