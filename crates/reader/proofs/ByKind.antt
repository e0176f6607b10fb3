-- The content of a frame by its kind: 4, and then the content's own answer. Assumes nothing.
use mathlib.Core.Path.{◌≡◌, refl, sym, ap, ◌∙◌}
use mathlib.Core.Logic.{◌≢◌}
use mathlib.Core.Bool.{true, false}
use mathlib.Core.Option.{Option, none, some}
use Prim.Native.Nat.{ℕ, ◌+◌, ◌-◌, ◌≤◌, ◌<◌}
use native.Mathlib.Omega.{arith}
use borrow.Author.Tests.{eq-eqb, ne_eqb, le-leb, lt-leb}
use lib.ListN.{length, get_or, take, drop, length-drop}
use lib.Seq.{length-take-le, get_or-take, get_or-drop}
use lib.Dec.{T, eqb}
use Rattle.model.specs.declared.Book.{Book as BookStruct}
use Rattle.laws.proofs.Tests.{all-iff, and-iff, leb-iff}
use Rattle.laws.proofs.Numbers.{field-one}
use Rattle.spec.specs.Lists.{Bytes, all, first_fault, Verdict, accepted, refused}
use Rattle.spec.specs.Numbers.{field}
use Rattle.spec.specs.Frames.{is_kind, kind_number, Format, Kind, train_kind, end_kind, train_fixed, train_count_at, length_fits}
use Rattle.spec.specs.Book.{Book}
use Rattle.spec.specs.Read.{grown, growing, kind_faults, content_faults, add, add_found, refuse_or, head_fits, segment_fits, call_fits}
use Rattle.spec.specs.Held.{held, packed}
use Rattle.frames.specs.declared.Kind.{Kind as KindCase}
use Rattle.frames.specs.declared.Kind.TheVariants.{Head}
use Rattle.frames.specs.Framed.{kind_in, place_of}
use Rattle.reader.specs.Added.{added, Packed, CallsFew}
use Rattle.demands.proofs.Growing.{Few, growing-parts}
use Rattle.reader.specs.BookAnswers.{added_found}

-- ---- 4, by where a kind's cursor ends

module _ (F : Format) (b : BookStruct) (w : Packed b) (s : Bytes) (at end : ℕ) (inside : end ≤ length s) where
  abbrev payload : Bytes
  payload = take (end - at) (drop at s)

  payload-length : length payload ≡ end - at
  payload-length = length-take-le (end - at) (drop at s) (omega (arith, length-drop at s))

  -- a payload that is not as long as its kind's is refused by 4
  pub wrong-length : (k : Kind) → length_fits F k payload ≡ false → refused 4 0 ≡ added_found F (held b) (some k) payload
  unfolding added_found kind_faults first_fault refuse_or
  wrong-length k f = rw f refl

  -- and any other by its content
  pub right-length : (k : Kind) → length_fits F k payload ≡ true → {r : Verdict BookStruct} → r ≡ added F k (held b) payload
      → r ≡ added_found F (held b) (some k) payload
  unfolding added added_found add_found kind_faults first_fault
  right-length k f e = rw f e

  -- a kind of n bytes
  module _ (k : Kind) (n to : ℕ) (size : length_fits F k payload ≡ eqb (length payload) n) (ends : to ≡ at + n) (order : at ≤ end) where
    pub elsewhere : to ≢ end → refused 4 0 ≡ added_found F (held b) (some k) payload
    elsewhere h = wrong-length k (size ∙ ne_eqb (length payload) n (λ (l : length payload ≡ n). h (omega (arith, l, payload-length))))

    pub there : to ≡ end → {r : Verdict BookStruct} → r ≡ added F k (held b) (take (to - at) (drop at s))
        → r ≡ added_found F (held b) (some k) payload
    there h e =
        right-length k (size ∙ eq-eqb (length payload) n (omega (arith, payload-length))) (e ∙ ap (λ (m : ℕ). added F k (held b) (take (m - at) (drop at s))) h)

    -- then the part up to there has n bytes
    pub sized : to ≡ end → length (take (to - at) (drop at s)) ≡ n
    sized h = length-take-le (to - at) (drop at s) (omega (arith, length-drop at s)) ∙ omega arith

  -- a Train, whose count says how many bytes stand behind its fixed part
  module _ (to count : ℕ) (ends : to ≡ at + train_fixed F) (order : at ≤ end) where
    pub train-long : to ≤ end → train_fixed F ≤ length payload
    train-long h = omega (arith, payload-length)

    pub train-short : end < to → length_fits F train_kind payload ≡ false
    unfolding length_fits
    train-short h = rw (lt-leb (train_fixed F) (length payload) (omega (arith, payload-length))) refl

    module _ (room : to ≤ end) (counts : count ≡ get_or s (at + train_count_at F) 0) where
      -- the count, in the payload
      count-is : field payload (train_count_at F) 1 ≡ count
      count-is =
          field-one payload (train_count_at F) (omega (arith, payload-length))
          ∙ get_or-take (end - at) (drop at s) (train_count_at F) 0 (omega arith)
          ∙ get_or-drop at s (train_count_at F) 0
          ∙ sym counts

      pub train-wrong : end ≢ to + count → length_fits F train_kind payload ≡ false
      unfolding length_fits
      train-wrong h =
          rw (le-leb (train_fixed F) (length payload) (omega (arith, payload-length)), count-is)
          (ne_eqb (length payload) (train_fixed F + count) (λ (e : length payload ≡ train_fixed F + count). h (omega (arith, e, payload-length))))

      pub train-right : end ≡ to + count → length_fits F train_kind payload ≡ true
      unfolding length_fits
      train-right h =
          rw (le-leb (train_fixed F) (length payload) (omega (arith, payload-length)), count-is)
          (eq-eqb (length payload) (train_fixed F + count) (omega (arith, payload-length)))

  -- the End adds nothing
  pub ends-right : end ≡ at → accepted b ≡ added_found F (held b) (some end_kind) payload
  unfolding added_found refuse_or kind_faults content_faults first_fault length_fits add_found add is_kind kind_number grown held
  ends-right e = rw (eq-eqb (length payload) 0 (omega (arith, payload-length))) (ap accepted w.same)

-- a case that is another than the Head
pub no-head : {k case : KindCase} → k ≡ case → place_of case ≢ 1 → k ≢ Head
no-head e h f = h (ap place_of (sym e ∙ f))

-- ---- what the functions of the kinds ask of a book as far as it was read

pub growing-metres : (b : Book) → T (growing b) → 1 ≤ b.segment_metres
unfolding head_fits
growing-metres b g = (leb-iff 1 b.segment_metres).0 (simp and-iff at (growing-parts b g).head).0.0

pub growing-segments : (b : Book) → T (growing b) → T (all (segment_fits b) b.segments)
unfolding Few
growing-segments b g = (growing-parts b g).segments.1

pub growing-calls : (b : Book) → T (growing b) → CallsFew b
unfolding Few call_fits
growing-calls b t = let g = growing-parts b t in record {
  known = (all-iff _ b.calls).1 (λ c m. (simp and-iff at ((all-iff _ b.calls).0 g.calls c m)).0.0.0);
  few = g.few_calls;
  trains = g.trains.0;
}
