-- Assumes nothing.
use Rattle.std.proofs.Common.{◌≡◌, ◌∙◌, ◌&&◌, ◌+◌, ◌<◌, ℕ, ℤ, Bool, sym, refl, arith, drop, get_or, leb, ltb, pos, to_z, of_z, w32}
use borrow.Author.Rules.{sfits_of}
use lib.Signed.{mag}
use mir.Facts.{to_z-of_z}
use Rattle.spec.specs.Lists.{Bytes}
use Rattle.spec.specs.Refutation.{literals_fit, rises_from, variable_of}
use Rattle.refutation_file.specs.Numbers.{number_count, literals_in}
use Rattle.refutation_file.proofs.NumberLists.{literals-length, rises_next, rises-end}
use Rattle.refutation_file.proofs.numbers.literals_fit.Goals as goal

-- a turn: this literal, read back from its bits, and those behind it
turn : (variables low i : ℕ) (list : Bytes) (l : ℤ) (fits : Bool) → mag l < 2147483648 → l ≡ get_or (literals_in list) i (pos 0)
    → i < number_count list
    → fits ≡ (ltb low (variable_of (to_z w32 (of_z w32 l))) && leb (variable_of (to_z w32 (of_z w32 l))) variables)
    → rises_from variables low (drop i (literals_in list))
    ≡ (fits && rises_from variables (variable_of (to_z w32 (of_z w32 l))) (drop (i + 1) (literals_in list)))
turn variables low i list l fits h e less f =
    rises_next variables low i (literals_in list) (to_z w32 (of_z w32 l)) (to_z-of_z {w = w32} (sfits_of h) ∙ e)
    (omega (arith, literals-length list))
    ∙ simp (← f)

pub loop-i-init : goal.loop-i-init
unfolding literals_fit
loop-i-init c = refl

pub returns-then-not-literal_fits : goal.returns-then-not-literal_fits
returns-then-not-literal_fits c =
    let h = c.if-not-literal_fits.true in
    let t = turn c.args.variables c.loop-i.low c.loop-i.i c.args.list.now _ _ c.literal_at-l.type_inv c.literal_at-l.ensures c.loop-i-test.true c.literal_fits.ensures in
    sym (c.loop-i.invariant ∙ t ∙ simp h)

pub loop-i-preserved : goal.loop-i-preserved
loop-i-preserved c =
    let h = c.if-not-literal_fits.false in
    let t = turn c.args.variables c.loop-i.low c.loop-i.i c.args.list.now _ _ c.literal_at-l.type_inv c.literal_at-l.ensures c.loop-i-test.true c.literal_fits.ensures in
    c.loop-i.invariant ∙ t ∙ simp (h, c.variable-low.ensures)

pub returns : goal.returns
returns c =
    let list = c.args.list.now in
    sym (c.loop-i.invariant ∙ rises-end c.args.variables c.loop-i.low c.loop-i.i (literals_in list) (omega (arith, literals-length list)))
