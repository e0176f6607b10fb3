-- The length, the kind and the payload, one behind the other. Assumes nothing.
use Rattle.std.proofs.Common.{◌≡◌, ℕ, ◌+◌, ◌*◌, ◌≤◌, ◌<◌, ◌++◌, length, sym, ap, ◌∙◌, arith}
use Rattle.std.proofs.Math.Option.{Option, some}
use Rattle.std.proofs.lemmas.List.Edits.{sets}
use Rattle.spec.specs.Lists.{Bytes}
use Rattle.spec.specs.Numbers.{little_endian}
use Rattle.spec.specs.Frames.{time_count, Kind, frame, kind_order, find_kind}
use Rattle.spec.specs.Upgrade.{widened_at, widened, widened_found}
use Rattle.laws.proofs.Numbers.{length-little_endian}
use Rattle.laws.proofs.Stores.{Stored, stored, stored-behind, stored-length}
use Rattle.demands.specs.OldFrames.{HasTimes}
use Rattle.demands.proofs.Widening.{length-frame}
use Rattle.upgrading.specs.declared.Times.{Times}
use Rattle.upgrading.specs.Widened.{times_in}
use Rattle.upgrading.proofs.Framing.{few-times, length_found}
use Rattle.upgrading.proofs.put_frame.Goals as goal

module _ (number : ℕ) (p new : Bytes) (to : ℕ) (t : Times)
    (is : t ≡ times_in (find_kind number kind_order))
    (has : (k : Kind) × (find_kind number kind_order ≡ some k) × HasTimes k p)
    (fits : to + length (frame number (widened_found (find_kind number kind_order) p)) ≤ length new) where
  -- the times are those of the kind
  times-found : t ≡ times_in (some has.0)
  times-found = is ∙ ap times_in has.1

  count-found : t.count ≡ time_count has.0
  count-found = ap (λ (x : Times). x.count) times-found

  -- the new payload, and its length
  abbrev wide : Bytes
  wide = widened_found (find_kind number kind_order) p

  grown : length wide ≡ length p + t.count
  grown = length_found p has.1 has.2 ∙ ap (λ (n : ℕ). length p + n) (sym count-found)

  room : to + (4 + (length p + t.count)) ≤ length new
  room = omega (arith, fits, length-frame number wide, grown)

  small : length p + t.count < 65536
  small = omega (arith, has.2.short, few-times has.0, count-found)

  there : t.at + t.count ≤ length p
  there = omega (arith, ap (λ (x : Times). x.at) times-found, count-found, has.2.inside)

  -- the length is stored
  first : {buf : Bytes} → buf ≡ sets new to (little_endian 2 (length p + t.count * 1)) → Stored new to (little_endian 2 (length wide)) buf (to + 2)
  first e =
      let l : length p + t.count * 1 ≡ length wide = omega (arith, grown) in
      stored _ _ _ (ap (λ (k : ℕ). to + k) (sym (length-little_endian 2 _))) (e ∙ ap (λ (n : ℕ). sets new to (little_endian 2 n)) l)

  -- the kind behind it
  opening : {buf next : Bytes} → buf ≡ sets new to (little_endian 2 (length p + t.count * 1)) → next ≡ sets buf (to + 2) (little_endian 2 number)
      → Stored new to (little_endian 2 (length wide) ++ little_endian 2 number) next (to + 4)
  opening e f = stored-behind (first e) (stored _ _ _ (omega (arith, length-little_endian 2 number)) f)

  -- the payload behind both
  whole : {buf next last : Bytes} → buf ≡ sets new to (little_endian 2 (length p + t.count * 1)) → next ≡ sets buf (to + 2) (little_endian 2 number)
      → last ≡ sets next (to + 4) (widened_at p t.at t.count)
      → Stored new to (frame number wide) last (to + 4 + (length p + t.count * 1))
  unfolding frame widened widened_found
  whole {next = next} e f g =
      let same : widened_at p t.at t.count ≡ wide =
      ap (λ (x : Times). widened_at p x.at x.count) times-found ∙ ap (λ (o : Option Kind). widened_found o p) (sym has.1) in
      stored-behind (opening e f) (stored next (to + 4) wide (omega (arith, grown)) (g ∙ ap (sets next (to + 4)) same))

pub put_pair-requires : goal.put_pair-requires
put_pair-requires c =
    let r = room c.args.kind c.args.p.now c.args.new.now c.args.to _ c.times_of-times.ensures c.requires.1 c.requires.2 in
    let s = small c.args.kind c.args.p.now c.args.new.now c.args.to _ c.times_of-times.ensures c.requires.1 c.requires.2 in
    (omega arith, omega arith)

pub put_pair-requires-2 : goal.put_pair-requires-2
put_pair-requires-2 c =
    let r = room c.args.kind c.args.p.now c.args.new.now c.args.to _ c.times_of-times.ensures c.requires.1 c.requires.2 in
    let f = first c.args.kind c.args.p.now c.args.new.now c.args.to _ c.times_of-times.ensures c.requires.1 c.requires.2 c.put_pair.ensures in
    (omega (arith, r, stored-length f), c.requires.0)

pub put_payload-requires : goal.put_payload-requires
put_payload-requires c =
    let r = room c.args.kind c.args.p.now c.args.new.now c.args.to _ c.times_of-times.ensures c.requires.1 c.requires.2 in
    let t = there c.args.kind c.args.p.now c.args.new.now c.args.to _ c.times_of-times.ensures c.requires.1 c.requires.2 in
    let o = opening c.args.kind c.args.p.now c.args.new.now c.args.to _ c.times_of-times.ensures c.requires.1 c.requires.2 c.put_pair.ensures c.put_pair-2.ensures in
    (t, omega (arith, r, stored-length o))

pub returns : goal.returns
returns c =
    let w = whole c.args.kind c.args.p.now c.args.new.now c.args.to _ c.times_of-times.ensures c.requires.1 c.requires.2
    c.put_pair.ensures c.put_pair-2.ensures c.put_payload.ensures in
    (w.ends, w.bytes)
