-- What stands ahead of the times, the times, and what stands behind them.
use native.Mathlib.Omega.{arith}
use native.Mathlib.Numerals.{add-one}
use mathlib.Core.Path.{◌≡◌, refl, sym, ap, ◌∙◌}
use mathlib.Core.List.{[], ◌++◌, append_assoc}
use Prim.Native.Nat.{ℕ, ◌+◌, ◌*◌, ◌-◌, ◌≤◌}
use lib.ListN.{length, take, drop, length-drop}
use lib.Seq.{length-take-le, take_all}
use Rattle.spec.specs.Lists.{Bytes, each, up_to, count}
use Rattle.spec.specs.Numbers.{little_endian, field}
use Rattle.spec.specs.Upgrade.{times_widened, widened_at}
use Rattle.demands.proofs.Widening.{times_more, length-times}
use Rattle.laws.proofs.Numbers.{length-little_endian}
use Rattle.laws.proofs.Stores.{Stored, stored-none, stored, stored-behind, stored_same}
use Rattle.upgrading.proofs.put_payload.Goals as goal

-- no time yet
no-times : (p : Bytes) (at : ℕ) → [] ≡ times_widened p at 0
unfolding times_widened each up_to count
no-times p at = refl

-- where i times end that stand behind what stands ahead of them
ends : (p : Bytes) (at n to i : ℕ) {before new : Bytes} {mid end : ℕ} → at + n ≤ length p → mid ≡ to + length (take at p)
    → Stored before mid (times_widened p at i) new end → end ≡ to + at + i * 2
ends p at n to i inside m s = omega (arith, s.ends, length-times p at i, m, length-take-le at p (omega arith))

-- what stands behind the times, as the slice up to the payload's end
rest-is : (p : Bytes) (behind : ℕ) → take (length p - behind) (drop behind p) ≡ drop behind p
rest-is p behind = take_all (length p - behind) (drop behind p) (omega (arith, length-drop behind p))

pub loop-i-init : goal.loop-i-init
loop-i-init c = stored_same (stored-none _ _) (no-times _ _)

pub put_pair-requires : goal.put_pair-requires
put_pair-requires c =
    (omega (arith, ends c.args.p.now _ _ _ _ c.requires.0 c.put_bytes-end.ensures.0 c.loop-i.invariant, c.requires.1), c.time.ensures.1)

pub overflow_add-end : goal.overflow_add-end
overflow_add-end c = omega (arith, ends c.args.p.now _ _ _ _ c.requires.0 c.put_bytes-end.ensures.0 c.loop-i.invariant, c.requires.1)

pub loop-i-preserved : goal.loop-i-preserved
loop-i-preserved c =
    let p = c.args.p.now in
    let at = c.args.times.at in
    let i = c.loop-i.i in
    let e : c.time.result ≡ field p (at + i * 1) 1 = c.time.ensures.0 ∙ ap (λ (k : ℕ). field p k 1) (omega arith) in
    let next = stored c.loop-i.new c.loop-i.end (little_endian 2 c.time.result) (ap (λ (k : ℕ). c.loop-i.end + k) (sym (length-little_endian 2 _)))
    c.put_pair.ensures in
    stored_same (stored-behind c.loop-i.invariant next)
    (ap (λ (k : ℕ). times_widened p at i ++ little_endian 2 k) e ∙ sym (times_more p at i) ∙ ap (times_widened p at) (sym (add-one i)))

pub put_bytes-requires : goal.put_bytes-requires
put_bytes-requires c =
    let p = c.args.p.now in
    let behind = c.args.times.at + 1 * c.args.times.count in
    omega (arith, ends p _ _ _ _ c.requires.0 c.put_bytes-end.ensures.0 c.loop-i.invariant, ap length (rest-is p behind), length-drop behind p, c.requires.1)

pub returns : goal.returns
unfolding widened_at
returns c =
    let a = c.args in
    let p = a.p.now in
    let at = a.times.at in
    let n = a.times.count in
    let rest : Bytes = take (length p - (at + 1 * n)) (drop (at + 1 * n) p) in
    let done : c.loop-i.i ≡ n = omega (arith, c.loop-i.auto, c.loop-i-test.false) in
    let ahead = stored a.new.now a.to (take at p) c.put_bytes-end.ensures.0 c.put_bytes-end.ensures.1 in
    let times = stored_same c.loop-i.invariant (ap (times_widened p at) done) in
    let last = stored c.loop-i.new c.loop-i.end rest c.put_bytes.ensures.0 c.put_bytes.ensures.1 in
    let same : at + 1 * n ≡ at + n * 1 = omega arith in
    (stored_same (stored-behind (stored-behind ahead times) last)
    (append_assoc (take at p) (times_widened p at n) rest
    ∙ ap (λ (r : Bytes). take at p ++ (times_widened p at n ++ r)) (rest-is p (at + 1 * n) ∙ ap (λ (k : ℕ). drop k p) same))).bytes
