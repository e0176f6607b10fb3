-- Each answer is the one of the table of faults, by the tests that led there; and the struct with the Head's numbers is the one of
-- the book with them. Assumes nothing.
use Rattle.std.proofs.Common.{arith}
use mathlib.Core.Logic.{⊎_elim}
use Rattle.spec.specs.Frames.{head_kind}
use Rattle.frames.specs.Framed.{format_of}
use Rattle.reader.proofs.Packing.{put-head, refuses, accepts}
use Rattle.reader.proofs.Tables.{head-wrong, head-fine}
use Rattle.reader.proofs.content.add_head.Goals as goal

pub returns-then-metres-lt1 : goal.returns-then-metres-lt1
returns-then-metres-lt1 c =
    let m = c.pair-metres.ensures.0 in
    let n = c.pair-seconds.ensures.0 in
    let u = c.time-intervals.ensures.0 in
    let g = c.most_intervals-most.ensures in
    refuses (format_of c.args.format) head_kind _ _
    (head-wrong _ _ _ (λ h i j k.
    ⊎_elim (λ w. omega arith)
    (⊎_elim (λ w. omega arith) (⊎_elim (λ w. omega arith) (λ w. omega arith)))
    c.then-metres-lt1.either))

pub returns : goal.returns
returns c =
    let m = c.pair-metres.ensures.0 in
    let n = c.pair-seconds.ensures.0 in
    let u = c.time-intervals.ensures.0 in
    let g = c.most_intervals-most.ensures in
    accepts (format_of c.args.format) head_kind _ _ (head-fine _ _ _ (omega arith) (omega arith) (omega arith) (omega arith))
    (put-head _ c.requires.0 (format_of c.args.format) _ _ _ _ m n u)
