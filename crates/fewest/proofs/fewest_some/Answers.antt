-- Room, then the assignment and n, then the refutation. Assumes nothing.
use Rattle.std.proofs.Common.{arith, ℕ, ◌-◌, ◌≡◌, sym, ap₂, ◌∙◌}
use Prim.Native.Nat.{suc}
use mathlib.Core.Option.{some}
use Rattle.std.proofs.lemmas.Result.{err_from_is_err_and}
use Rattle.spec.specs.Instance.{instance_of, under}
use Rattle.spec.specs.Held.{held}
use Rattle.spec.specs.Entry.{refuted_for}
use Rattle.refutations.specs.Lent.{lengths}
use Rattle.refutations.proofs.Loaded.{loaded-stands}
use Rattle.fewest.proofs.Combining.{no_room, counts-wrong, then-refuted, room-said}
use Rattle.fewest.proofs.fewest_some.Goals as goal

pub returns-then-not-has_room : goal.returns-then-not-has_room
returns-then-not-has_room c =
    let n : suc (c.args.n - 1) ≡ c.args.n = omega (arith, c.requires) in
    let kept = c.load_formula-formula.auto in
    let room = room-said _ _ c.has_room.ensures c.load_formula-formula.ensures.extent c.variable_count-variables.ensures.0 kept.words kept.starts in
    sym (no_room _ _ _ _ n (sym room ∙ c.if-not-has_room.true))

pub returns-in_err-judge_count : goal.returns-in_err-judge_count
returns-in_err-judge_count c =
    let n : suc (c.args.n - 1) ≡ c.args.n = omega (arith, c.requires) in
    let kept = c.load_formula-formula.auto in
    let room = room-said _ _ c.has_room.ensures c.load_formula-formula.ensures.extent c.variable_count-variables.ensures.0 kept.words kept.starts in
    let p = err_from_is_err_and c.from_residual.result c.from_residual.ensures.1 in
    rw (p.1, p.2) (sym (counts-wrong _ _ _ _ n (sym room ∙ c.if-not-has_room.false) (sym c.in_err-judge_count.ensures)))

pub check_loaded-requires : goal.check_loaded-requires
check_loaded-requires c =
    let e = c.load_formula-formula.ensures in
    (c.args.t.now.runs_ready.counted, e.extent, loaded-stands _ c.args.words.now c.args.starts.now e.words e.starts)

pub returns : goal.returns
returns c =
    let a = c.args in
    let n : suc (a.n - 1) ≡ a.n = omega (arith, c.requires) in
    let kept = c.load_formula-formula.auto in
    let lent = lengths a.words.now a.starts.now a.values.now a.trail.now in
    let room = room-said _ lent c.has_room.ensures c.load_formula-formula.ensures.extent c.variable_count-variables.ensures.0 kept.words kept.starts in
    c.check_loaded.ensures
    ∙ ap₂ (λ (w k : ℕ). refuted_for (under (some (a.n - 1)) (instance_of (held a.t.now.book))) a.refutation.now
    (record { words = w; clauses = k; values = lent.values; trail = lent.trail })) kept.words kept.starts
    ∙ sym (then-refuted _ _ _ lent n (sym room ∙ c.if-not-has_room.false) (sym c.in_ok-judge_count.ensures))
