-- Trains that share a section, by the labels of segments: a run touches a marked label exactly where it shares a section with a run
-- that was marked; and rule 6 train by train. Assumes nothing.
use mathlib.Core.Path.{◌≡◌, sym, ap, ◌∙◌, subst}
use mathlib.Core.Bool.{Bool, not, ◌||◌}
use Prim.Native.Nat.{ℕ, ◌+◌, ◌-◌, ◌/◌, ◌≤◌, ◌<◌}
use native.Mathlib.Omega.{arith}
use mathlib.Core.List.Memᴰ
use mathlib.Core.List.{List, [], ◌++◌, map, map-map, Memᴰ}
use lib.ListN.{length, get_or, replicate, length-map, length-replicate}
use lib.Seq.{slice}
use lib.Dec.{T, eqb, ltb}
use Rattle.model.specs.declared.Book.{Book as BookStruct}
use Rattle.spec.specs.Lists.{Bytes, all, any, has, up_to, range, one}
use Rattle.spec.specs.Book.{segment_of}
use Rattle.spec.specs.Instance.{Instance, instance_of}
use Rattle.spec.specs.Sections.{together, share_section}
use Rattle.spec.specs.Plan.{Plan, if_run, is_move, plan_of, trains_meet, apart_in}
use Rattle.spec.specs.Held.{held}
use Rattle.laws.proofs.Tests.{meaning, bool-ext, eqb-iff, ltb_iff, all-iff, any-iff, get_or-mem}
use Rattle.laws.proofs.Rows.{any-map, any_append, any-one}
use Rattle.demands.proofs.Wellformed.{map_at}
use Rattle.listing.proofs.Successors.{get_or-slice, length_part}
use Rattle.layout.specs.declared.moves.Move.{Move as HeldMove}
use Rattle.layout.specs.Moves.{held_move}
use Rattle.listing.specs.Listed.{table_bytes, place_at}
use Rattle.tables.proofs.Small.{segments-is}
use Rattle.plan_rules.specs.declared.apart.Stretch.{Stretch}
use Rattle.plan_rules.specs.Marks.{PlanLabelled, StretchFits, stretch_of, labels_of, is_marked, marking, touched}
use Rattle.plan_rules.proofs.Marking.{marked_by, unmarked, length-marking}
use Rattle.plan_rules.proofs.Ready.{own-here, few-own}
use Rattle.plan_rules.proofs.Stretches.{stretch-inside, stretch-segments, stretch-known}

-- ---- rule 6, train by train

-- no two of n pairs, the earlier first or the later first
pub pairs-reordered : (share : ℕ → ℕ → Bool) (n : ℕ)
    → all (λ i. all (λ j. not (share i j)) (range (i + 1) n)) (up_to n) ≡ all (λ j. not (any (λ i. share i j) (up_to j))) (up_to n)
pairs-reordered share n =
    bool-ext
    (all (λ i. all (λ j. not (share i j)) (range (i + 1) n)) (up_to n))
    (all (λ j. not (any (λ i. share i j) (up_to j))) (up_to n))
    (λ h. let k = simp meaning at h in simp meaning (λ j l r. k r.0 (omega (arith, r.1)) j (omega (arith, r.1)) l r.2))
    (λ h. let k = simp meaning at h in simp meaning (λ i l j a z shares. k j z (i, omega arith, shares)))

-- in an interval: no train meets an earlier one
pub apart-iff : (I : Instance) (p : Plan) (t : ℕ) → apart_in I p t ≡ all (λ j. not (any (λ i. trains_meet I p t i j) (up_to j))) (up_to I.trains)
unfolding apart_in
apart-iff I p t = pairs-reordered (trains_meet I p t) I.trains

-- ---- a plan with labels

-- exactly the labels that these trains touch are marked
abbrev pub Marked : Instance → Plan → ℕ → List ℕ → List ℕ → Bytes → Type 0
Marked I p t labels trains marks =
    (length marks ≡ 64)
    × ((l : ℕ) → is_marked marks l ≡ any (λ i. has l (map (λ s. get_or labels s 0) (touched I p t i))) trains)

module _ {b : BookStruct} {counts : List ℕ} {runs : Bytes} {labels : List ℕ} (plan : Bytes)
    (ready : PlanLabelled b counts runs labels plan) (t : ℕ) (inside : t < b.intervals) where
  abbrev I : Instance
  I = instance_of (held b)

  abbrev p : Plan
  p = plan_of I plan

  -- a segment's label
  abbrev label : ℕ → ℕ
  label s = get_or labels s 0

  -- what a train's run touches, and where the table holds it
  abbrev here : ℕ → List ℕ
  here i = touched I p t i

  abbrev stretch : ℕ → Stretch
  stretch i = stretch_of runs i (p.move i t)

  few : I.segments ≤ 64
  few = let passed = ready.0.counted.passed in omega (arith, segments-is b passed, passed.packed.counts.segments)

  module _ (i : ℕ) (known : i < b.train_count) where
    valid : T (is_move I i (p.move i t))
    valid = own-here (record { passed = ready.0.counted.passed; known = known; fits = ready.1 }) t inside

    pub here-known : (s : ℕ) → Memᴰ s (here i) → s < I.segments
    unfolding touched
    here-known = stretch-known ready.0 i known (p.move i t) valid

    segments-here : map segment_of (place_at runs (stretch i).at (stretch i).size) ≡ here i
    unfolding touched
    segments-here = stretch-segments ready.0 i known (p.move i t) valid

    pub labels-here : {s : Stretch} → s ≡ stretch i → labels_of labels runs s ≡ map label (here i)
    unfolding labels_of
    labels-here e =
        ap (labels_of labels runs) e
        ∙ sym (map-map label segment_of (place_at runs (stretch i).at (stretch i).size))
        ∙ ap (map label) segments-here

    -- the segment at k
    segment-at : (k : ℕ) → (stretch i).at ≤ k → k < (stretch i).at + (stretch i).size → get_or runs k 0 / 2 < I.segments
    unfolding place_at segment_of
    segment-at k a z =
        let at = (stretch i).at in
        let size = (stretch i).size in
        let fits = stretch-inside ready.0 i known (p.move i t) valid in
        let long = length_part runs at size fits in
        let below : k - at < length (slice at (at + size) runs) = omega (arith, long) in
        let back : at + (k - at) ≡ k = omega arith in
        let same : get_or (map segment_of (slice at (at + size) runs)) (k - at) 0 ≡ get_or runs k 0 / 2 =
        map_at segment_of (slice at (at + size) runs) (k - at) 0 0 below
        ∙ ap segment_of (get_or-slice runs at size (k - at) 0 (omega arith) ∙ ap (λ (n : ℕ). get_or runs n 0) back) in
        here-known (get_or runs k 0 / 2)
        (subst (λ (s : ℕ). Memᴰ s (here i)) same
        (subst (λ (ss : List ℕ). Memᴰ (get_or (map segment_of (slice at (at + size) runs)) (k - at) 0) ss) segments-here
        (get_or-mem _ (k - at) 0 (rw length-map below))))

    pub fits-here : {s : Stretch} → s ≡ stretch i → StretchFits labels runs s
    fits-here e =
        subst (StretchFits labels runs) (sym e) (record {
          fits = stretch-inside ready.0 i known (p.move i t) valid;
          inside = λ k a z. omega (arith, segment-at k a z, ready.2.long, few);
          below = λ k a z. omega (arith, ready.2.below _ (segment-at k a z), few);
        })

    -- the same of the move and the stretch that the code has
    module _ (m : HeldMove) (moved : held_move m ≡ p.move i t) where
      -- what `apart::stretch_of` asks
      pub stretch-asks : (i < 8) × (length runs ≡ table_bytes) × T (if_run (held_move m) (λ r. ltb r 256))
      stretch-asks = (
        omega (arith, known, ready.0.counted.passed.packed.counts.trains),
        ready.0.long,
        few-own (record { passed = ready.0.counted.passed; known = known; fits = ready.1 }) m t inside moved,
      )

      module _ {s : Stretch} (found : s ≡ stretch_of runs i (held_move m)) where
        abbrev is : s ≡ stretch i
        is = found ∙ ap (stretch_of runs i) moved

        pub stretch-fits : StretchFits labels runs s
        stretch-fits = fits-here is

        pub stretch-labels : labels_of labels runs s ≡ map label (here i)
        stretch-labels = labels-here is

    -- its labels are labels of marks
    pub labels-few : T (all (λ l. ltb l 64) (map label (here i)))
    labels-few =
        (all-iff _ _).1 (λ l m.
        let r = Memᴰ.of_map label (here i) m in
        (ltb_iff l 64).1 (omega (arith, r.2, ready.2.below r.0 (here-known r.0 r.1), few)))

  pub marked-none : Marked I p t labels [] (replicate 64 0)
  unfolding any
  marked-none = (length-replicate {A = ℕ} 64 0, λ l. unmarked 64 l)

  -- one train more
  pub marked_next : (trains : List ℕ) (k : ℕ) → k < b.train_count → (marks : Bytes) → Marked I p t labels trains marks
      → Marked I p t labels (trains ++ one k) (marking marks (map label (here k)))
  marked_next trains k known marks h = (
    length-marking (map label (here k)) marks ∙ h.0,
    λ l.
        marked_by (map label (here k)) marks l (rw h.0 (labels-few k known))
        ∙ ap (λ (x : Bool). x || has l (map label (here k))) (h.1 l)
        ∙ ap (λ (x : Bool). any (λ i. has l (map label (here i))) trains || x) (sym (any-one (λ i. has l (map label (here i))) k))
        ∙ sym (any_append (λ i. has l (map label (here i))) trains (one k)),
  )

  -- a train touches a marked label where it meets one of those trains
  module _ (trains : List ℕ) (all_Known : (i : ℕ) → Memᴰ i trains → i < b.train_count) (j : ℕ) (known : j < b.train_count)
      (marks : Bytes) (h : Marked I p t labels trains marks) where
    touch_meets : T (any (is_marked marks) (map label (here j))) → T (any (λ i. trains_meet I p t i j) trains)
    unfolding trains_meet share_section touched has
    touch_meets m =
        let u = (any-iff (λ s. is_marked marks (label s)) (here j)).0 (rw any-map at m) in
        let i = (any-iff (λ i. has (label u.0) (map label (here i))) trains).0 (rw (h.1 (label u.0)) at u.2) in
        let s = (any-iff (λ s. eqb (label u.0) (label s)) (here i.0)).0 (rw any-map at i.2) in
        let ks = here-known i.0 (all_Known i.0 i.1) s.0 s.1 in
        let ku = here-known j known u.0 u.1 in
        let same = rw (ready.2.same s.0 u.0 ks ku) at ((eqb-iff (label s.0) (label u.0)).1 (sym ((eqb-iff _ _).0 s.2))) in
        (any-iff (λ i. trains_meet I p t i j) trains).1 (
          i.0,
          i.1,
          (any-iff (λ s. any (together I p.border s) (here j)) (here i.0)).1
              (s.0, s.1, (any-iff (together I p.border s.0) (here j)).1 (u.0, u.1, same)),
        )

    meets-touch : T (any (λ i. trains_meet I p t i j) trains) → T (any (is_marked marks) (map label (here j)))
    unfolding trains_meet share_section touched has
    meets-touch m =
        let i = (any-iff (λ i. trains_meet I p t i j) trains).0 m in
        let s = (any-iff (λ s. any (together I p.border s) (here j)) (here i.0)).0 i.2 in
        let u = (any-iff (together I p.border s.0) (here j)).0 s.2 in
        let ks = here-known i.0 (all_Known i.0 i.1) s.0 s.1 in
        let ku = here-known j known u.0 u.1 in
        let same = (eqb-iff (label s.0) (label u.0)).0 (rw (ready.2.same s.0 u.0 ks ku) u.2) in
        let has' : T (any (eqb (label u.0)) (map label (here i.0))) =
        rw any-map ((any-iff (λ s. eqb (label u.0) (label s)) (here i.0)).1 (s.0, s.1, (eqb-iff _ _).1 (sym same))) in
        let marked : T (is_marked marks (label u.0)) =
        rw (h.1 (label u.0)) ((any-iff (λ i. has (label u.0) (map label (here i))) trains).1 (i.0, i.1, has')) in
        rw any-map ((any-iff (λ s. is_marked marks (label s)) (here j)).1 (u.0, u.1, marked))

    touch_is : any (is_marked marks) (map label (here j)) ≡ any (λ i. trains_meet I p t i j) trains
    touch_is = bool-ext _ _ touch_meets meets-touch

    -- as the code answers it
    pub touch-answer : (m : HeldMove) {s : Stretch} {answer : Bool} → held_move m ≡ p.move j t → s ≡ stretch_of runs j (held_move m)
        → answer ≡ any (is_marked marks) (labels_of labels runs s) → answer ≡ any (λ i. trains_meet I p t i j) trains
    touch-answer m moved found e = e ∙ ap (any (is_marked marks)) (stretch-labels j known m moved found) ∙ touch_is
