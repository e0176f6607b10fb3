-- l and k as document 01 and P3 have them: what is computed is the length rounded up (`up-iff`) and the speed to the nearest segment, an
-- exact half going down (`nearest-iff`). So l and k are, of every train of a book that is read, in the format in force or the old one
-- (`trains-reach`); and a book is refused by 7 only for a train that has no such l and k (`seven-reach`). Assumes nothing.
use mathlib.Core.Path.{◌≡◌, refl, sym}
use mathlib.Core.Logic.{◌↔◌, inl, inr}
use mathlib.Core.Bool.{Bool, true, false, not, ◌||◌}
use mathlib.Core.Option.{Option, none, some}
use Prim.Native.Nat.{ℕ, ◌+◌, ◌*◌, ◌-◌, ◌/◌, ◌≤◌, ◌<◌}
use native.Mathlib.Nat.{mul-zero, div-mul-le_self, lt-div-mul-add, le_antisymm}
use native.Mathlib.Omega.{arith}
use mathlib.Core.List.{◌∷◌}
use lib.ListN.{length}
use lib.Dec.{T, eqb, T_not}
use Rattle.spec.specs.Lists.{Bytes, Fault, ◌when◌, all, accepted, refused}
use Rattle.spec.specs.Numbers.{nearest}
use Rattle.spec.specs.Frames.{Format, Kind, head_kind, node_kind, segment_kind, join_kind, train_kind, call_kind, unbreakable_kind, end_kind, kind_number, kind_order, find_kind, kind_field, payload_of, cut_short}
use Rattle.spec.specs.Book.{Book, Train, train_at, length_in_segments, speed_in_segments}
use Rattle.spec.specs.Read.{Reading, head_fits, reach_fits, between, train_in, content_faults, kind_faults, frame_faults, book_faults, unknown_kind, out_of_order, max_intervals, read_as}
use Rattle.laws.proofs.Tests.{and-iff, leb-iff, le-or-lt}
use Rattle.laws.proofs.Rounding.{multiples, Halves, nearest-halves}
use Rattle.demands.proofs.Faults.{FirstHolds, first_passes}
use Rattle.demands.proofs.Wellformed.{parts, train-fits}
use Rattle.demands.proofs.Reading.{ReadsTo, Found, finds-kind, as-refused, as-formed}
pub use Rattle.demands.specs.Claims.{RoundedUp, Nearest, Reach, apart}

-- ---- rounding

module _ (n d : ℕ) (some' : 1 ≤ d) where
  -- what lies within a half of n / d is nearest to it
  halves-nearest : (k : ℕ) → Halves n d k → Nearest n d k
  halves-nearest k h = record {
    none_nearer = λ j. elim (le-or-lt k j) [
      | inl l ↦ elim (le-or-lt j k) [ inl m ↦ rw (le_antisymm m l) (omega arith) | inr m ↦ omega (arith, h.below, multiples d m) ]
      | inr l ↦ omega (arith, lower j l)
    ];
    half_down = λ j e. elim (le-or-lt k j) [ inl l ↦ l | inr l ↦ absurd (omega (arith, lower j l, e)) ];
  }
    where
      -- a lower number is farther from it
      lower : (j : ℕ) → j < k → apart (k * d) n < apart (j * d) n
      lower j l = omega (arith, h.above, multiples d l)

  -- The computation gives the nearest whole number, an exact half going down, and nothing else is that.
  pub nearest-iff : (k : ℕ) → (k ≡ nearest n d) ↔ Nearest n d k
  nearest-iff k =
      let near = halves-nearest (nearest n d) (nearest-halves n d some') in (
        λ e. rw e near,
        λ m. let same = le_antisymm (m.none_nearer (nearest n d)) (near.none_nearer k) in
            le_antisymm (m.half_down (nearest n d) same) (near.half_down k (sym same)),
      )

  -- So it is with rounding up.
  pub up-iff : (k : ℕ) → (k ≡ (n + (d - 1)) / d) ↔ RoundedUp n d k
  up-iff k = (λ e. rw e up, λ m. le_antisymm (m.least q up.not_above) (up.least k m.not_above))
    where
      q : ℕ
      q = (n + (d - 1)) / d

      up : RoundedUp n d q
      up = record {
        not_above = omega (arith, lt-div-mul-add {a = n + (d - 1)} some');
        least = λ j h. elim (le-or-lt q j) [ inl l ↦ l | inr l ↦ absurd (omega (arith, multiples d l, div-mul-le_self (n + (d - 1)) d)) ];
      }

-- ---- a train's l and k

-- The numbers that the text allows are those computed, and 7 finds nothing exactly where there are such.
pub reach-iff : (b : Book) (t : Train) → 1 ≤ b.segment_metres → (l k : ℕ)
    → Reach b t l k ↔ ((l ≡ length_in_segments b t) × (k ≡ speed_in_segments b t) × T (reach_fits b t))
unfolding length_in_segments speed_in_segments reach_fits between
reach-iff b t some' l k =
    let up = up-iff t.metres b.segment_metres some' l in
    let near = nearest-iff (t.speed * b.interval_seconds * 5) (18 * b.segment_metres) (omega arith) k in (
      λ r. let e = up.1 r.length_up in
          let f = near.1 r.speed_nearest in
          (e, f, simp (and-iff, leb-iff) (rw e at r.length_within, rw f at r.speed_within)),
      λ h. let q = simp (and-iff, leb-iff) at h.2 in record {
        length_up = up.0 h.0;
        speed_nearest = near.0 h.1;
        length_within = rw h.0 q.0;
        speed_within = rw h.1 q.1;
      },
    )

-- where there are such, a segment has a length
reach-some : (b : Book) (t : Train) {l k : ℕ} → Reach b t l k → 1 ≤ b.segment_metres
reach-some b t {k = k} r = elim (le-or-lt 1 b.segment_metres) [
  | inl h ↦ h
  | inr h ↦
      let none' : b.segment_metres ≡ 0 = omega arith in
      let m = r.speed_nearest.half_down 0 (rw (none', mul-zero k) refl) in
      absurd (omega (arith, m, r.speed_within.0))
]

out-of-reach : (b : Book) (t : Train) → T (not (reach_fits b t)) → (l k : ℕ) → Reach b t l k → ⊥
out-of-reach b t h l k r = T_not (reach_fits b t) h ((reach-iff b t (reach-some b t r) l k).0 r).2

-- a line of a table has another number than 7, or holds only where c does
unless : Bool → Fault → Bool
unless c f = not (eqb f.number 7) || (not f.holds || c)

-- 7 is found for a frame only where it is a Train, and then for its l and k
seven-holds : (F : Format) (r : Reading) (s : Bytes) → FirstHolds 7 (frame_faults F r s)
    → (kind_field s ≡ 5) × T (not (reach_fits r.book (train_in F (payload_of s))))
unfolding frame_faults kind_faults content_faults all unless Found kind_number
seven-holds F r s h = go (find_kind (kind_field s) kind_order) (finds-kind (kind_field s) kind_order) h
  where
    b : Book
    b = r.book

    p : Bytes
    p = payload_of s

    itself : (c : Bool) → T (not c || c)
    itself true = tt
    itself false = tt

    go : (o : Option Kind) → Found (kind_field s) kind_order o
        → FirstHolds 7 (1 when cut_short s ∷ 2 when unknown_kind (kind_field s) ∷ 3 when out_of_order r.last s ∷ kind_faults F b o p)
        → (kind_field s ≡ 5) × T (not (reach_fits b (train_in F p)))
    go (some train_kind) e h =
        let c = not (reach_fits b (train_in F p)) in (e, first_passes (unless c) 7 _ ((and-iff (not c || c) true).1 (itself c, tt)) h)
    go none e h = absurd (first_passes (unless false) 7 _ tt h)
    go (some head_kind) e h = absurd (first_passes (unless false) 7 _ tt h)
    go (some node_kind) e h = absurd (first_passes (unless false) 7 _ tt h)
    go (some segment_kind) e h = absurd (first_passes (unless false) 7 _ tt h)
    go (some join_kind) e h = absurd (first_passes (unless false) 7 _ tt h)
    go (some call_kind) e h = absurd (first_passes (unless false) 7 _ tt h)
    go (some unbreakable_kind) e h = absurd (first_passes (unless false) 7 _ tt h)
    go (some end_kind) e h = absurd (first_passes (unless false) 7 _ tt h)

-- ---- from arbitrary bytes, in a format

module _ (F : Format) (s : Bytes) where
  -- Every train of a book that is read has l and k as the text has them.
  pub trains-reach : F.greatest_t ≤ max_intervals → (b : Book) → read_as F s ≡ accepted b → (i : ℕ) → i < length b.trains
      → Reach b (train_at b i) (length_in_segments b (train_at b i)) (speed_in_segments b (train_at b i))
  unfolding head_fits
  trains-reach few b e i l =
      let formed = as-formed F s b few e in
      let rs = (simp (and-iff, leb-iff) at (parts b formed).head).0.0 in
      (reach-iff b (train_at b i) rs _ _).1 (refl, refl, (train-fits b formed i l).1)

  -- A book is refused by 7 only at a Train frame whose train has no such l and k.
  pub seven-reach : (d : ℕ) → read_as F s ≡ refused 7 d
      → (r : Reading) × (s' : Bytes) × ReadsTo F s r s' × (kind_field s' ≡ 5)
      × ((l k : ℕ) → Reach r.book (train_in F (payload_of s')) l k → ⊥)
  unfolding book_faults all unless
  seven-reach d e =
      let h = (as-refused F s 7 d e).1 in
      elim h.3 [
        | inl f ↦
            let t = seven-holds F h.0 h.1 f in
            (h.0, h.1, h.2, t.0, out-of-reach _ _ t.1)
        | inr f ↦ absurd (first_passes (unless false) 7 _ tt f.2)
      ]
