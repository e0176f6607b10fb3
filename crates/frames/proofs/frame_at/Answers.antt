-- Each answer is the one that the bytes left at the place decide. Assumes nothing.
use Rattle.std.proofs.Common.{◌≡◌, ℕ, Option, Some, sym, ap, ap₂, ◌∙◌, arith}
use Rattle.frames.specs.declared.Frame.{Frame}
use Rattle.frames.proofs.Places.{refusal-of, cut_at, whole-at}
use Rattle.frames.proofs.frame_at.Goals as goal

-- a whole frame
abbrev framed : ℕ → ℕ → Option Frame
framed k l = Some (record { kind = k; len = l })

pub returns-then-s-at-lt-OPENING : goal.returns-then-s-at-lt-OPENING
returns-then-s-at-lt-OPENING c =
    let e = sym (cut_at c.args.s.now c.args.at (omega arith)) in
    record { found = e; refusal = refusal-of _ e }

pub returns-then-s-at : goal.returns-then-s-at
returns-then-s-at c =
    let e = sym (cut_at c.args.s.now c.args.at (omega arith)) in
    record { found = e; refusal = refusal-of _ e }

pub returns-else-s-at : goal.returns-else-s-at
returns-else-s-at c =
    let e = ap₂ framed c.pair-kind.ensures.0 c.pair-len.ensures.0 ∙ sym (whole-at c.args.s.now c.args.at (omega arith)) in
    record { found = e; refusal = refusal-of _ e }
