-- The interval, the cells, blanks and the newline stand one behind the other.
use native.Mathlib.Omega.{arith}
use mathlib.Core.Path.{◌≡◌, refl, sym, ap, ◌∙◌}
use mathlib.Core.List.{◌++◌, append_assoc}
use Prim.Native.Nat.{ℕ, ◌+◌, ◌-◌, ◌≤◌}
use borrow.Rule.Slice.PartMut.{put_mid}
use lib.ListN.{length, set, take, drop, replicate, length-drop, length-replicate}
use lib.Seq.{sets, sets-eq, length-take-le}
use Rattle.std.proofs.lemmas.List.Edits.{paste_all}
use Rattle.std.proofs.lemmas.Slice.{put_mid-paste}
use Rattle.spec.specs.Lists.{Bytes, one}
use Rattle.spec.specs.Numbers.{aligned}
use Rattle.spec.specs.Instance.{instance_of}
use Rattle.spec.specs.Plan.{plan_of}
use Rattle.spec.specs.Page.{blank, newline, cells, page_line}
use Rattle.spec.specs.Held.{held, padded}
use Rattle.laws.proofs.Stores.{Stored, stored, stored-behind, stored-byte, stored_same, stored-length}
use Rattle.demands.proofs.Pages.{few-intervals, length-cells}
use Rattle.tables.proofs.Small.{trains-is, intervals-is}
use Rattle.graph.proofs.page.put_line.Goals as goal

-- a part that was filled
part-filled : (buf vs : Bytes) (a k x : ℕ) → a + k ≤ length buf → vs ≡ replicate (length (take k (drop a buf))) x
    → put_mid a k buf vs ≡ sets buf a (replicate k x)
part-filled buf vs a k x h e =
    let size : length (take k (drop a buf)) ≡ k = length-take-le k (drop a buf) (omega (arith, length-drop a buf, h)) in
    let long : k ≡ length (replicate k x) = sym (length-replicate k x) in
    put_mid-paste a k buf vs (replicate k x) k (e ∙ ap (λ (n : ℕ). replicate n x) size) refl long
    ∙ paste_all buf a (replicate k x) k long
    ∙ sym (append_assoc (take a buf) (replicate k x) (drop (a + k) buf))
    ∙ ap (λ (n : ℕ). take a buf ++ replicate k x ++ drop (a + n) buf) long
    ∙ sym (sets-eq (replicate k x) buf a (omega (arith, long, h)))

-- blanks up to the newline behind a text that stands in the buffer
line-written : {old text buf : Bytes} {at end : ℕ} (vs : Bytes) → Stored old at text buf end → end ≤ at + 80 → at + 80 ≤ length buf
    → vs ≡ replicate (length (take (at + 80 - end) (drop end buf))) blank
    → set (put_mid end (at + 80 - end) buf vs) (at + 80) newline ≡ sets old at (padded 80 blank text ++ one newline)
unfolding padded
line-written {text = text} {buf} {at} {end} vs s fits room filled =
    let k = at + 80 - end in
    let same : k ≡ 80 - length text = omega (arith, s.ends) in
    let behind = stored buf end (replicate k blank) (omega (arith, fits, length-replicate {A = ℕ} k blank)) (part-filled buf vs end k blank (omega arith) filled) in
    (stored_same (stored-byte (stored-behind s behind) newline refl) (ap (λ (n : ℕ). (text ++ replicate n blank) ++ one newline) same)).bytes

pub head_of-head-requires : goal.head_of-head-requires
head_of-head-requires c =
    let passed = c.requires.0.counted.passed in
    omega (arith, c.requires.2, few-intervals (held c.args.b) passed.formed, intervals-is c.args.b passed)

pub returns : goal.returns
unfolding page_line
returns c =
    let a = c.args in
    let I = instance_of (held a.b) in
    let text : Bytes = cells I (plan_of I a.plan.now) a.interval in
    let head = stored_same (stored a.page.now a.at c.head_of-head.result c.put_bytes-from.ensures.0 c.put_bytes-from.ensures.1) c.head_of-head.ensures in
    let long : c.put_cells-end.result ≡ c.put_bytes-from.result + length text
    = omega (arith, c.put_cells-end.ensures.0, length-cells I (plan_of I a.plan.now) a.interval, trains-is a.b c.requires.0.counted.passed) in
    let filled = stored_same (stored-behind head (stored _ _ text long c.put_cells-end.ensures.1)) (append_assoc (aligned 3 a.interval) (one blank) text) in
    line-written c.fill.new.self filled (omega (arith, c.requires.0.counted.passed.packed.counts.trains))
    (omega (arith, c.requires.3, stored-length filled)) (c.fill.ensures.after (λ y e. e))
