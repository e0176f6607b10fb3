-- Assumes nothing.
use Rattle.std.proofs.Common.{◌≡◌, ◌∙◌, ◌-◌, ◌≤◌, ◌<◌, ℕ, ℤ, zero, suc, pos, negsuc, true, ap, sym, rules, arith, subst, eqb, length, get_or, List, Fits, to_z, of_z, w32}
use borrow.Author.Tests.{eqb-true}
use Rattle.std.proofs.Math.Facts.{of_z-to_z}
use Rattle.spec.specs.Lists.{Bytes}
use Rattle.spec.specs.Formula.{Literal, Clause}
use Rattle.spec.specs.Assignment.{no', deny, truth}
use Rattle.spec.specs.Refutation.{variable_of, Values}
use Rattle.propagation.specs.Known.{value_in, values_in, false_byte}
use Rattle.propagation.proofs.Scan.{Scanning, in_words, ahead, read_back, passes, notes, open-one, value-told}
use Rattle.propagation.proofs.Scan.{ends-true, ends-second, ends-proving, ends-making}
use Rattle.propagation.proofs.HintTurns.{hint-fits, clause-begins, has_room, goes_on, runs-out, refuses, concludes}
use Rattle.propagation.proofs.hints.try_hints.Goals as goal
use Rattle.propagation.proofs.hints.try_hints.Goals.{then-not-has_false_byte+in-No, then-not-has_false_byte+in-Open+else-unit-ne0, else-not-has_false_byte}

pub overflow_sub-at : goal.overflow_sub-at
overflow_sub-at c =
    let f = hint-fits _ _ _ c.requires.1 c.hints-test.true in
    let e = c.number_at.ensures.0 in omega arith

pub bounds-starts-number_at : goal.bounds-starts-number_at
bounds-starts-number_at c =
    let f = hint-fits _ _ _ c.requires.1 c.hints-test.true in
    let e = c.number_at.ensures.0 in omega arith

pub loop-at-init : goal.loop-at-init
loop-at-init c =
    let f = hint-fits _ _ _ c.requires.1 c.hints-test.true in
    let e = c.number_at.ensures.0 in
    clause-begins c.hints.invariant c.requires.0 e (omega arith) (omega arith)

pub offset_bounds-words-at : goal.offset_bounds-words-at
offset_bounds-words-at c = let h = in_words c.loop-at.invariant in search rules

pub bounds-words-at : goal.bounds-words-at
bounds-words-at c = in_words c.loop-at.invariant

pub has_false_byte-requires : goal.has_false_byte-requires
has_false_byte-requires c =
    let few : length c.hints.values < 2147483648 = omega (arith, c.hints.invariant.same_values, c.requires.3) in
    let a = ahead c.loop-at.invariant c.loop-at-test.true in
    rw (read_back a few) (a.low, a.high, omega (arith, a.high))

pub truth-requires : goal.truth-requires
truth-requires c =
    let few : length c.hints.values < 2147483648 = omega (arith, c.hints.invariant.same_values, c.requires.3) in
    let a = ahead c.loop-at.invariant c.loop-at-test.true in
    rw (read_back a few) (a.low, a.high, omega (arith, a.high))

-- where an open literal was found or none, by its bits
bits : {ws : List ℤ} {known : Values} {vars : ℕ} {c : Clause} {at n : ℕ} → Fits w32 n → Scanning ws known vars c at (of_z w32 (to_z w32 n))
    → Scanning ws known vars c at n
bits {ws} {known} {vars} {c} {at} f s = subst (λ (u : ℕ). Scanning ws known vars c at u) (of_z-to_z {w = w32} f) s

-- the byte that makes a literal false is asked for first
false-told : (values : Bytes) (l : Literal) → 1 ≤ variable_of l → eqb (get_or values (variable_of l - 1) 0) (false_byte l) ≡ true
    → truth (values_in values) l ≡ no'
unfolding variable_of truth values_in false_byte value_in deny
false-told values (pos zero) h e = absurd (omega arith)
false-told values (pos (suc v)) h e =
    let q : suc v - 1 ≡ v = omega arith in
    let f : get_or values v 0 ≡ 2 = eqb-true (get_or values v 0) 2 (rw q at e) in
    ap value_in f
false-told values (negsuc v) h e =
    let q : suc v - 1 ≡ v = omega arith in
    let f : get_or values v 0 ≡ 1 = eqb-true (get_or values v 0) 1 (rw q at e) in
    ap (λ (n : ℕ). deny (value_in n)) f

pub loop-at-preserved : goal.loop-at-preserved
loop-at-preserved c =
    let few : length c.hints.values < 2147483648 = omega (arith, c.hints.invariant.same_values, c.requires.3) in
    let a = ahead (bits c.loop-at.auto.unit c.loop-at.invariant) c.loop-at-test.true in
    let b = read_back a few in
    let same = of_z-to_z {w = w32} c.loop-at.auto.unit in
    elim c.if-not-has_false_byte.branch [
      | then-not-has_false_byte+in-No w ↦ rw (w.unit-is, same) (passes a (value-told _ (rw (← b) w.truth.ensures) w.in-No.is))
      | then-not-has_false_byte+in-Open+else-unit-ne0 w ↦ rw (w.unit-is, b) (notes a few (value-told _ (rw (← b) w.truth.ensures) w.in-Open.is) w.if-unit-ne0.false)
      | else-not-has_false_byte w ↦ rw (w.unit-is, same) (passes a (false-told _ _ a.low (sym (rw b at c.has_false_byte.ensures) ∙ w.if-not-has_false_byte.false)))
    ]

pub make_true-requires : goal.make_true-requires
make_true-requires c =
    let o = open-one (bits c.loop-at.auto.unit c.loop-at.invariant).found c.if-unit-eq0.false in
    (o.low, o.high, omega (arith, o.high, c.hints.invariant.same_values, c.requires.3), has_room c.hints.invariant o)

pub overflow_add-set : goal.overflow_add-set
overflow_add-set c =
    let o = open-one (bits c.loop-at.auto.unit c.loop-at.invariant).found c.if-unit-eq0.false in
    let r = has_room c.hints.invariant o in
    let s = c.hints.invariant.same_trail in
    search rules

pub hints-preserved : goal.hints-preserved
hints-preserved c =
    let few : length c.hints.values < 2147483648 = omega (arith, c.hints.invariant.same_values, c.requires.3) in
    let s = bits c.loop-at.auto.unit c.loop-at.invariant in
    goes_on c.hints.invariant c.hints-test.true (open-one s.found c.if-unit-eq0.false)
    (ends-making s few c.loop-at-test.false c.if-unit-eq0.false) c.make_true.ensures.0 c.make_true.ensures.1

-- ---- the four ways out: no hint is left, a true literal, a second open one, and all literals false

pub returns-after-hints : goal.returns-after-hints
returns-after-hints c =
    let g = c.hints.invariant in
    (runs-out g c.hints-test.false, g.trailed, g.grown, g.behind)

pub returns-in-Yes : goal.returns-in-Yes
returns-in-Yes c =
    let g = c.hints.invariant in
    let few : length c.hints.values < 2147483648 = omega (arith, g.same_values, c.requires.3) in
    let a = ahead c.loop-at.invariant c.loop-at-test.true in
    let b = read_back a few in
    let e = ends-true a (value-told _ (rw (← b) c.truth.ensures) c.in-Yes.is) in
    (refuses g c.hints-test.true e, g.trailed, g.grown, g.behind)

pub returns-then-unit-ne0 : goal.returns-then-unit-ne0
returns-then-unit-ne0 c =
    let g = c.hints.invariant in
    let few : length c.hints.values < 2147483648 = omega (arith, g.same_values, c.requires.3) in
    let a = ahead (bits c.loop-at.auto.unit c.loop-at.invariant) c.loop-at-test.true in
    let b = read_back a few in
    let e = ends-second a (value-told _ (rw (← b) c.truth.ensures) c.in-Open.is) c.if-unit-ne0.true in
    (refuses g c.hints-test.true e, g.trailed, g.grown, g.behind)

pub returns-then-unit-eq0 : goal.returns-then-unit-eq0
returns-then-unit-eq0 c =
    let g = c.hints.invariant in
    let few : length c.hints.values < 2147483648 = omega (arith, g.same_values, c.requires.3) in
    let e = ends-proving (bits c.loop-at.auto.unit c.loop-at.invariant) few c.loop-at-test.false c.if-unit-eq0.true in
    (concludes g c.hints-test.true e, g.trailed, g.grown, g.behind)
