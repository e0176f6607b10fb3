-- Refusal 9, segment by segment: a TTD may be divided exactly where one of its segments has an end that may have a border and
-- that a segment of the TTD before it touches. And the marks of an array after a segment's ends are marked. Assumes nothing.
use mathlib.Core.Path.{◌≡◌, refl, sym, ap, ◌∙◌}
use mathlib.Core.Logic.{◌⊎◌, inl, inr, ⊎_elim}
use mathlib.Core.Bool.{Bool, true, false, not, ◌&&◌, ◌||◌, or_assoc, or-true, or-false}
use Prim.Native.Nat.{ℕ, zero, suc, ◌+◌, ◌≤◌, ◌<◌}
use native.Mathlib.Numerals.{add-one}
use native.Mathlib.Omega.{arith}
use borrow.Author.Tests.{eqb-false, eq-eqb, ne_eqb}
use mathlib.Core.List.{List}
use lib.ListN.{length, get_or, set, take, replicate, length-set, length-take}
use lib.Seq.{get_or-set_same, get_or-set_other}
use lib.Dec.{T, eqb, eqb_refl, eqb→eq}
use lib.Arith.{lt_of_le-ne}
use Rattle.model.specs.declared.Book.{Book as BookStruct}
use Rattle.spec.specs.Lists.{any, all, up_to, count, range}
use Rattle.spec.specs.Book.{Book, Segment, segment_at, node_kind_at, denies_border, touches, share_node}
use Rattle.spec.specs.Read.{segment_fits, may_divide}
use Rattle.spec.specs.Held.{held, zero_segment, CountsFit}
use Rattle.laws.proofs.Tests.{meaning, and-iff, or-iff, eqb-iff, any-up_to, bool-ext, le-or-lt, decide, true_of, denied-of, all-at}
use Rattle.laws.proofs.Rows.{any_append, any-one}
use Rattle.laws.proofs.Parts.{up_to-suc}
use Rattle.network.proofs.Held.{kind_at}
use Rattle.network.proofs.Rests.{any-range-next, any-range-end, any-range-all}

-- a segment's ends are what it touches
touches-a : (s : Segment) → T (touches s s.a)
unfolding touches
touches-a s = (or-iff (eqb s.a s.a) (eqb s.b s.a)).1 (inl (eqb_refl s.a))

touches-b : (s : Segment) → T (touches s s.b)
unfolding touches
touches-b s = (or-iff (eqb s.a s.b) (eqb s.b s.b)).1 (inr (eqb_refl s.b))

an-end : (s : Segment) (m : ℕ) → T (touches s m) → (s.a ≡ m) ⊎ (s.b ≡ m)
unfolding touches
an-end s m h = ⊎_elim (λ e. inl (eqb→eq _ _ e)) (λ e. inr (eqb→eq _ _ e)) ((or-iff (eqb s.a m) (eqb s.b m)).0 h)

-- some segment of the TTD below t touches the node
unfoldable pub touched : Book → ℕ → ℕ → ℕ → Bool
touched b ttd t m = any (λ s. eqb (segment_at b s).ttd ttd && touches (segment_at b s) m) (up_to t)

-- the node may have a border, and some segment of the TTD below t touches it
unfoldable pub opens : Book → ℕ → ℕ → ℕ → Bool
opens b ttd t m = not (denies_border (node_kind_at b m)) && touched b ttd t m

-- the segment is of the TTD, and an end of it is such a node
unfoldable pub hits : Book → ℕ → ℕ → Bool
hits b ttd t = eqb (segment_at b t).ttd ttd && (opens b ttd t (segment_at b t).a || opens b ttd t (segment_at b t).b)

module _ (b : Book) (ttd : ℕ) where
  touched_none : (m : ℕ) → touched b ttd 0 m ≡ false
  unfolding touched any up_to count
  touched_none m = refl

  touched-next : (t m : ℕ)
      → touched b ttd (t + 1) m ≡ (touched b ttd t m || (eqb (segment_at b t).ttd ttd && touches (segment_at b t) m))
  unfolding touched
  touched-next t m = rw (add-one, up_to-suc) (any_append _ (up_to t) _ ∙ simp any-one)

  -- a node that may have a border, and a segment of the TTD that touches it
  opens_of : (t m s : ℕ) → (T (denies_border (node_kind_at b m)) → ⊥) → s < t → (segment_at b s).ttd ≡ ttd → T (touches (segment_at b s) m)
      → T (opens b ttd t m)
  unfolding opens touched
  opens_of t m s k l o h = simp meaning (k, (s, l, (o, h)))

  opened : (t m : ℕ) → T (opens b ttd t m)
      → (T (denies_border (node_kind_at b m)) → ⊥) × ((s : ℕ) × (s < t) × (((segment_at b s).ttd ≡ ttd) × T (touches (segment_at b s) m)))
  unfolding opens touched
  opened t m h = simp meaning at h

  -- two segments of the TTD at such a node: the later of them is hit
  pair-hits : (m s t : ℕ) → s < t → (T (denies_border (node_kind_at b m)) → ⊥) → (segment_at b s).ttd ≡ ttd → (segment_at b t).ttd ≡ ttd
      → T (touches (segment_at b s) m) → T (touches (segment_at b t) m) → T (hits b ttd t)
  unfolding hits
  pair-hits m s t l k os ot hs ht =
      let o = opens_of t m s k l os hs in
      (and-iff (eqb (segment_at b t).ttd ttd) (opens b ttd t (segment_at b t).a || opens b ttd t (segment_at b t).b)).1 (
        (eqb-iff (segment_at b t).ttd ttd).1 ot,
        (or-iff (opens b ttd t (segment_at b t).a) (opens b ttd t (segment_at b t).b)).1
            (⊎_elim (λ e. inl (rw e o)) (λ e. inr (rw e o)) (an-end (segment_at b t) m ht)),
      )

  pair-hit : (m s t : ℕ) → s < length b.segments → t < length b.segments → (s ≡ t → ⊥) → (T (denies_border (node_kind_at b m)) → ⊥)
      → (segment_at b s).ttd ≡ ttd → (segment_at b t).ttd ≡ ttd → T (touches (segment_at b s) m) → T (touches (segment_at b t) m)
      → T (any (hits b ttd) (up_to (length b.segments)))
  pair-hit m s t ls lt ne k os ot hs ht =
      (any-up_to (hits b ttd) (length b.segments)).1
      (⊎_elim
      (λ l. (s, ls, pair-hits m t s (lt_of_le-ne l (λ e. ne (sym e))) k ot os ht hs))
      (λ l. (t, lt, pair-hits m s t l k os ot hs ht))
      (le-or-lt t s))

  -- so a TTD that may be divided has a segment that is hit
  divide-hits : T (may_divide b ttd) → T (any (hits b ttd) (up_to (length b.segments)))
  unfolding may_divide share_node
  divide-hits h =
      let r = simp meaning at h in
      let q = r.2.1 in
      let w = q.2.1 in
      pair-hit r.0 q.0 w.0 q.1 w.1 w.2.0.0.0 r.2.0 q.2.0 (rw w.2.0.0.1 at q.2.0) w.2.0.1 w.2.1

  -- a node that a segment of the TTD touches, and touched before: the TTD may be divided there
  meet-divide : (m t : ℕ) → m < length b.nodes → t < length b.segments → (segment_at b t).ttd ≡ ttd → T (touches (segment_at b t) m)
      → T (opens b ttd t m) → T (may_divide b ttd)
  unfolding may_divide share_node
  meet-divide m t lm lt ot ht o =
      let r = opened t m o in
      let s = r.1.0 in
      let l = r.1.1 in
      let os = r.1.2.0 in
      simp meaning (m, lm, (r.0, (s, omega arith, (os, (t, lt, (((λ e. omega arith, os ∙ sym ot), r.1.2.1), ht))))))

  -- the ends of a segment that fits
  module _ (fits : T (all (segment_fits b) b.segments)) (t : ℕ) (l : t < length b.segments) where
    ends : ((segment_at b t).a < length b.nodes) × ((segment_at b t).b < length b.nodes)
    unfolding segment_at segment_fits
    ends = let f = simp meaning at (all-at (segment_fits b) b.segments t (record { a = 0; b = 0; ttd = 0 }) fits l) in f.0.0

    end-a : (segment_at b t).a < length b.nodes
    end-a = ends.0

    end-b : (segment_at b t).b < length b.nodes
    end-b = ends.1

    hit-divides : T (hits b ttd t) → T (may_divide b ttd)
    unfolding hits
    hit-divides h =
        let s = segment_at b t in
        let r = (and-iff (eqb s.ttd ttd) (opens b ttd t s.a || opens b ttd t s.b)).0 h in
        let o = eqb→eq s.ttd ttd r.0 in
        ⊎_elim
        (meet-divide s.a t end-a l o (touches-a s))
        (meet-divide s.b t end-b l o (touches-b s))
        ((or-iff (opens b ttd t s.a) (opens b ttd t s.b)).0 r.1)

  divide-by-segment : T (all (segment_fits b) b.segments) → may_divide b ttd ≡ any (hits b ttd) (up_to (length b.segments))
  divide-by-segment fits =
      bool-ext (may_divide b ttd) (any (hits b ttd) (up_to (length b.segments)))
      divide-hits
      (λ h. let r = (any-up_to (hits b ttd) (length b.segments)).0 h in hit-divides fits r.0 r.1 r.2)

-- a node is marked: it is marked now, and the others as they were
marked : (seen : List Bool) (a m : ℕ) → a < length seen → get_or (set seen a true) m false ≡ (get_or seen m false || eqb a m)
marked seen a m l =
    decide (eqb a m)
    (λ t.
    let e : get_or (set seen a true) m false ≡ true = ap (λ (k : ℕ). get_or (set seen a true) k false) (sym (eqb→eq a m t)) ∙ get_or-set_same seen a true false l in
    let h = true_of (eqb a m) t in
    simp (e, h, or-true))
    (λ t.
    let h = denied-of (eqb a m) t in
    let e = get_or-set_other seen a m true false (λ q. eqb-false a m h (sym q)) in
    simp (e, h, or-false))

-- both ends of a segment are marked: what it touches is marked now, and the others as they were
marked-ends : (seen : List Bool) (s : Segment) (m : ℕ) → s.a < length seen → s.b < length seen
    → get_or (set (set seen s.a true) s.b true) m false ≡ (get_or seen m false || touches s m)
unfolding touches
marked-ends seen s m la lb =
    marked (set seen s.a true) s.b m (rw length-set lb)
    ∙ ap (λ (x : Bool). x || eqb s.b m) (marked seen s.a m la)
    ∙ or_assoc (get_or seen m false) (eqb s.a m) (eqb s.b m)

-- ---- the same of a book's struct, at its segment i

-- the marks are of the nodes that a segment of the TTD below i touches
abbrev pub Marks : BookStruct → ℕ → ℕ → List Bool → Type 0
Marks b ttd i seen = (m : ℕ) → get_or seen m false ≡ touched (held b) ttd i m

-- the node may have a border, and is marked
abbrev pub open_here : BookStruct → List Bool → ℕ → Bool
open_here b seen m = not (denies_border (get_or b.nodes m 0)) && get_or seen m false

get_or-unmarked : (n m : ℕ) → get_or (replicate n false) m false ≡ false
get_or-unmarked zero m = refl
get_or-unmarked (suc n) zero = refl
get_or-unmarked (suc n) (suc m) = get_or-unmarked n m

pub marks-none : (b : BookStruct) (ttd n : ℕ) → Marks b ttd 0 (replicate n false)
marks-none b ttd n m = rw (get_or-unmarked n m, touched_none (held b) ttd m)

-- the array's segments, as far as the book has any
abbrev pub row : BookStruct → List Segment
row b = take b.segment_count b.segments

-- whether a segment from i on is hit
abbrev pub hit_from : BookStruct → ℕ → ℕ → Bool
hit_from b ttd i = any (hits (held b) ttd) (range i (length (row b)))

pub hit-whole : (b : BookStruct) (ttd : ℕ) → T (all (segment_fits (held b)) (held b).segments) → may_divide (held b) ttd ≡ hit_from b ttd 0
unfolding held
hit-whole b ttd fits = divide-by-segment (held b) ttd fits ∙ any-range-all (hits (held b) ttd) (length (row b))

pub hit-none : (b : BookStruct) (ttd i : ℕ) → length (row b) ≤ i → hit_from b ttd i ≡ false
hit-none b ttd i h = any-range-end (hits (held b) ttd) (length (row b)) i h

module _ (b : BookStruct) (i : ℕ) (l : i < length (row b)) (fits : T (all (segment_fits (held b)) (held b).segments)) where
  abbrev x : Segment
  x = get_or (row b) i zero_segment

  -- its ends are nodes of the book
  ends-inside : (x.a < b.node_count) × (x.b < b.node_count)
  unfolding held segment_at
  ends-inside =
      let e = length-take b.node_count b.nodes in
      let la = end-a (held b) 0 fits i l in
      let lb = end-b (held b) 0 fits i l in
      (omega arith, omega arith)

  pub ends-fit : CountsFit b → (x.a < 96) × (x.b < 96)
  ends-fit c = (omega (arith, c.nodes, ends-inside), omega (arith, c.nodes, ends-inside))

  module _ (ttd : ℕ) (seen : List Bool) (known : Marks b ttd i seen) where
    open_at : (m : ℕ) → m < b.node_count → opens (held b) ttd i m ≡ open_here b seen m
    unfolding opens
    open_at m h =
        ap (λ (k : ℕ). not (denies_border k) && touched (held b) ttd i m) (kind_at b m h)
        ∙ ap (λ (t : Bool). not (denies_border (get_or b.nodes m 0)) && t) (sym (known m))

    hits-here : hits (held b) ttd i ≡ (eqb x.ttd ttd && (open_here b seen x.a || open_here b seen x.b))
    unfolding hits held segment_at
    hits-here = rw (open_at x.a ends-inside.0, open_at x.b ends-inside.1)

    -- whether one from i on is hit: it is of the TTD, and an end may have a border and is marked, or one behind it is hit
    turn : hit_from b ttd i ≡ (eqb x.ttd ttd && (open_here b seen x.a || open_here b seen x.b) || hit_from b ttd (i + 1))
    turn =
        any-range-next (hits (held b) ttd) (length (row b)) i l
        ∙ ap (λ (h : Bool). h || hit_from b ttd (i + 1)) hits-here

    -- a segment of the TTD, whose ends are m and k
    module _ (o : x.ttd ≡ ttd) (m k : ℕ) (em : m ≡ x.a) (ek : k ≡ x.b) where
      pub turn-of : hit_from b ttd i ≡ (open_here b seen m || open_here b seen k || hit_from b ttd (i + 1))
      turn-of = let h = eq-eqb x.ttd ttd o in rw (em, ek) (turn ∙ simp h)

      pub marks-of : m < length seen → k < length seen → Marks b ttd (i + 1) (set (set seen m true) k true)
      unfolding held segment_at
      marks-of lm lk j =
          let h = eq-eqb x.ttd ttd o in
          rw (em, ek) (marked-ends seen x j (rw em at lm) (rw ek at lk))
          ∙ ap (λ (t : Bool). t || touches x j) (known j)
          ∙ sym (touched-next (held b) ttd i j ∙ simp h)

    -- and a segment of another TTD
    module _ (o : x.ttd ≡ ttd → ⊥) where
      pub turn-other : hit_from b ttd i ≡ hit_from b ttd (i + 1)
      turn-other = let h = ne_eqb x.ttd ttd o in turn ∙ simp h

      pub marks-other : Marks b ttd (i + 1) seen
      unfolding held segment_at
      marks-other m = let e = ne_eqb x.ttd ttd o in known m ∙ sym (touched-next (held b) ttd i m ∙ simp (e, or-false))
