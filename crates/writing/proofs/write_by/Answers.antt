-- The first walk measures, the second writes.
use native.Mathlib.Omega.{arith}
use mathlib.Core.Path.{refl, ap, ◌∙◌}
use Prim.Native.Nat.{◌≤◌, ◌<◌}
use lib.ListN.{length}
use Rattle.spec.specs.Instance.{instance_of, under}
use Rattle.spec.specs.Formula.{formula, words_of}
use Rattle.spec.specs.Held.{held, held_cap}
use Rattle.formula.proofs.Totals.{nothing-ahead, walks_from, walk-words}
use Rattle.writing.proofs.Answers.{words-stopped, words-short, words-written}
use Rattle.writing.proofs.write_by.Goals as goal

pub returns-then-out-measured : goal.returns-then-out-measured
returns-then-out-measured c =
    let b = c.args.t.now.book in
    let p = c.args.t.now.runs_ready.counted.passed in
    let cap = held_cap c.args.cap in
    let out = c.args.out.now in
    let e = nothing-ahead c.walk_formula-measured.ensures refl out in
    let n = walk-words b p cap c.walk_formula-measured.ensures in
    let h : length out < length (words_of (formula (under cap (instance_of (held b))))) = omega (arith, c.if-out-measured.true, ap length e, n) in
    let k = words-stopped out (words-short b p cap (length out) h) in
    record { answer = k.0; output = e ∙ k.1 }

pub returns : goal.returns
returns c =
    let b = c.args.t.now.book in
    let p = c.args.t.now.runs_ready.counted.passed in
    let cap = held_cap c.args.cap in
    let out = c.args.out.now in
    let e = nothing-ahead c.walk_formula-measured.ensures refl out in
    let n = walk-words b p cap c.walk_formula-measured.ensures in
    let h : length (words_of (formula (under cap (instance_of (held b))))) ≤ length out = omega (arith, c.if-out-measured.false, ap length e, n) in
    let k = words-written b p cap h (walks_from e c.walk_formula-passed.ensures) c.variable_count.ensures.0 in
    record { answer = k.0; output = k.1 }
