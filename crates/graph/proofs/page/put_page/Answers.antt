-- A turn stores a line behind those that stand.
use native.Mathlib.Omega.{arith}
use native.Mathlib.Nat.{mul_comm}
use mathlib.Core.Path.{◌≡◌, sym, ap, ◌∙◌}
use mathlib.Core.List.{◌++◌}
use Prim.Native.Nat.{ℕ, ◌+◌, ◌*◌, ◌≤◌}
use lib.ListN.{length, length-append}
use lib.Seq.{sets}
use Rattle.spec.specs.Lists.{Bytes, each, up_to, count}
use Rattle.spec.specs.Instance.{instance_of}
use Rattle.spec.specs.Plan.{plan_of}
use Rattle.spec.specs.Page.{page_line, page, page_bytes}
use Rattle.spec.specs.Held.{held}
use Rattle.laws.proofs.Stores.{stored-none, stored, stored-behind, stored_same, stored-length, stored-first}
use Rattle.demands.proofs.Pages.{lines-length, page-long}
use Rattle.listing.proofs.Lists.{each_next}
use Rattle.tables.proofs.Small.{intervals-is}
use Rattle.graph.proofs.page.put_page.Goals as goal

pub loop-interval-init : goal.loop-interval-init
unfolding up_to count each
loop-interval-init c = stored-none _ _

pub put_line-requires : goal.put_line-requires
unfolding page_bytes
put_line-requires c = (
  c.requires.0,
  c.requires.1,
  c.loop-interval-test.true,
  omega (
    arith,
    c.requires.2,
    c.loop-interval-test.true,
    intervals-is c.args.b c.requires.0.counted.passed,
    stored-length c.loop-interval.invariant,
  ),
)

pub loop-interval-preserved : goal.loop-interval-preserved
loop-interval-preserved c =
    let b = c.args.b in
    let I = instance_of (held b) in
    let p = plan_of I c.args.plan.now in
    let n = c.loop-interval.interval in
    let own : ℕ → Bytes = page_line I p in
    let passed = c.requires.0.counted.passed in
    let rows = lines-length (held b) passed.formed p in
    let h : n + 1 ≤ I.intervals = omega (arith, c.loop-interval-test.true, intervals-is b passed) in
    let more : each (up_to (n + 1)) own ≡ each (up_to n) own ++ own n = each_next own n in
    let long : 81 * (n + 1) ≡ 81 * n + length (own n)
    = omega (arith, sym (rows (n + 1) h) ∙ ap length more ∙ length-append (each (up_to n) own) _, rows n (omega arith)) in
    let next = stored c.loop-interval.page (81 * n) (own n) long
    (c.put_line.ensures ∙ ap (λ (k : ℕ). sets c.loop-interval.page k (own n)) (mul_comm n 81)) in
    stored_same (stored-behind c.loop-interval.invariant next) (sym more)

pub returns : goal.returns
unfolding page
returns c =
    let a = c.args in
    let I = instance_of (held a.b) in
    let passed = c.requires.0.counted.passed in
    let done : c.loop-interval.interval ≡ I.intervals
    = omega (arith, c.loop-interval-test.false, c.loop-interval.auto, intervals-is a.b passed) in
    let all = stored_same c.loop-interval.invariant (ap (λ (n : ℕ). each (up_to n) (page_line I (plan_of I a.plan.now))) done) in
    all.bytes ∙ stored-first _ _ (omega (arith, page-long (held a.b) passed.formed (plan_of I a.plan.now), c.requires.2))
