-- How far the frames of an old book were rewritten: `Rewriting` is the invariant of the loop over them, at its start, its next frame
-- and its end. Assumes nothing.
use mathlib.Core.Path.{◌≡◌, refl, sym, ap, ap₂, ◌∙◌}
use mathlib.Core.Option.{some}
use Prim.Native.Nat.{ℕ, ◌+◌, ◌-◌, ◌≤◌, ◌<◌}
use native.Mathlib.Omega.{arith}
use mathlib.Core.List.{[], ◌++◌, append_assoc, append-nil}
use lib.ListN.{length, take, drop, length-append, length-drop, drop_of_length-le}
use lib.Seq.{sets, drop-drop}
use lib.Dec.{T, T_not}
use Rattle.spec.specs.Lists.{Bytes}
use Rattle.spec.specs.Frames.{Kind, frame, cut_short, kind_field, payload_length, payload_of, behind, kind_order, find_kind}
use Rattle.spec.specs.Upgrade.{widened_found, frame_widened, widened_from, upgraded}
use Rattle.laws.proofs.Tests.{from-true}
use Rattle.laws.proofs.Numbers.{bytes, bytes_drop, field_lt}
use Rattle.laws.proofs.Frames.{whole-iff}
use Rattle.laws.proofs.Stores.{Stored, stored-none, stored-behind, stored-length}
use Rattle.demands.specs.OldFrames.{HasTimes}
use Rattle.demands.proofs.Widening.{WithTimes, Next, times-next, upgraded-next}
use Rattle.frames.specs.Framed.{framed_at}
use Rattle.frames.specs.declared.Frame.{Frame}
use Rattle.std.specs.Prelude.{Some, None}
use Rattle.reader.proofs.Steps.{whole_says, cut-says}
use Rattle.reader.proofs.Whole.{payload-here}

-- the frames ahead of `at` are rewritten in `new`, up to `to`
pub record Rewriting (old new₀ : Bytes) (at to : ℕ) (new : Bytes) : Type 0 where
  pub done : Bytes
  pub inside : at ≤ length old
  pub framed : WithTimes (drop at old)
  pub same : upgraded old ≡ done ++ upgraded (drop at old)
  pub bytes-there : Stored new₀ 0 done new to

-- none yet
pub rewriting-none : (old new₀ : Bytes) → WithTimes old → Rewriting old new₀ 0 0 new₀
rewriting-none old new₀ s = record { done = []; inside = omega arith; framed = s; same = refl; bytes-there = stored-none new₀ 0 }

module _ {old new₀ : Bytes} {at to : ℕ} {new : Bytes} (r : Rewriting old new₀ at to new) where
  -- all of them
  pub rewriting-all : length old ≤ at → new ≡ sets new₀ 0 (upgraded old)
  unfolding upgraded widened_from
  rewriting-all l =
      let e : drop at old ≡ [] = drop_of_length-le old l in
      let w : upgraded old ≡ r.done = r.same ∙ ap (λ (t : Bytes). r.done ++ upgraded t) e ∙ append-nil r.done in
      r.bytes-there.bytes ∙ ap (sets new₀ 0) (sym w)

  module _ (l : at < length old) where
    -- the frame that comes next
    here : Next (drop at old)
    here = times-next (drop at old) r.framed (omega (arith, length-drop at old))

    -- it is not cut short
    pub never-cut : {A : Type 0} → framed_at (drop at old) ≡ None → A
    never-cut e = absurd (T_not (cut_short (drop at old)) here.whole (from-true (cut-says (drop at old) e)))

    module _ {f : Frame} (e : framed_at (drop at old) ≡ Some f) where
      abbrev kind : ℕ
      kind = f.kind

      abbrev len : ℕ
      len = f.len

      abbrev payload : Bytes
      payload = take (at + 4 + len - (at + 4)) (drop (at + 4) old)

      abbrev next-frame : Bytes
      next-frame = frame kind (widened_found (find_kind kind kind_order) payload)

      kind-is : kind_field (drop at old) ≡ kind
      kind-is = (whole_says (drop at old) e).1

      payload-is : payload ≡ payload_of (drop at old)
      payload-is = payload-here old at e

      -- the kind is of two bytes
      pub kind-small : T (bytes old) → kind < 65536
      unfolding kind_field
      kind-small y =
          omega (arith, kind-is, field_lt (drop at old) 2 2 (bytes_drop at old y) (omega (arith, (whole-iff (drop at old)).0 here.whole)))

      -- its payload has its times
      pub has-times : (k : Kind) × (find_kind kind kind_order ≡ some k) × HasTimes k payload
      has-times =
          let n = ap length payload-is in (
            here.kind,
            ap (λ (k : ℕ). find_kind k kind_order) (sym kind-is) ∙ here.found,
            record { inside = omega (arith, n, here.times.inside); short = omega (arith, n, here.times.short) },
          )

      -- it is the next of the new book
      frame_is : next-frame ≡ frame_widened (drop at old)
      unfolding frame_widened
      frame_is = ap₂ (λ (k : ℕ) (p : Bytes). frame k (widened_found (find_kind k kind_order) p)) (sym kind-is) payload-is

      behind-is : behind (drop at old) ≡ drop (at + 4 + len) old
      unfolding behind
      behind-is =
          let n : at + (4 + payload_length (drop at old)) ≡ at + 4 + len = omega (arith, (whole_says (drop at old) e).2) in
          drop-drop (4 + payload_length (drop at old)) at old ∙ ap (λ (n : ℕ). drop n old) n

      new-same : upgraded old ≡ (r.done ++ next-frame) ++ upgraded (drop (at + 4 + len) old)
      new-same =
          r.same
          ∙ ap (λ (t : Bytes). r.done ++ t)
          (upgraded-next (drop at old) here.whole ∙ ap₂ (λ (x y : Bytes). x ++ upgraded y) (sym frame_is) behind-is)
          ∙ sym (append_assoc r.done next-frame (upgraded (drop (at + 4 + len) old)))

      -- there is room for it
      pub room-here : length (upgraded old) ≤ length new₀ → to + length next-frame ≤ length new
      room-here h =
          omega (
            arith,
            h,
            ap length new-same,
            length-append (r.done ++ next-frame) (upgraded (drop (at + 4 + len) old)),
            length-append r.done next-frame,
            r.bytes-there.ends,
            stored-length r.bytes-there,
          )

      -- and with it
      pub rewriting-next : {after : Bytes} {next : ℕ} → next ≡ to + length next-frame → after ≡ sets new to next-frame
          → Rewriting old new₀ (at + 4 + len) next after
      rewriting-next n b = record {
        done = r.done ++ next-frame;
        inside = omega (arith, (whole-iff (drop at old)).0 here.whole, length-drop at old, (whole_says (drop at old) e).2);
        framed = rw (sym behind-is) here.rest;
        same = new-same;
        bytes-there = stored-behind r.bytes-there (record { ends = n; bytes = b });
      }

  -- where no frame is left, all of them are
  pub rewriting-end : framed_at (drop at old) ≡ None → new ≡ sets new₀ 0 (upgraded old)
  rewriting-end e = let past : at < length old → ⊥ = λ l. never-cut l e in rewriting-all (omega arith)
