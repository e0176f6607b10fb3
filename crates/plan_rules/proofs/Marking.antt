-- Marks of labels: marking a stretch label by label, and that after it exactly its labels are marked besides those that were. Assumes
-- nothing.
use mathlib.Core.Path.{◌≡◌, refl, sym, ap, ◌∙◌}
use mathlib.Core.Logic.{inl, inr}
use mathlib.Core.Bool.{Bool, true, false, ◌||◌, or_assoc}
use Prim.Native.Nat.{ℕ, zero, suc, ◌+◌, ◌/◌, ◌≤◌, ◌<◌}
use mathlib.Core.List.{List, [], ◌∷◌, map}
use native.Mathlib.Numerals.{add-one}
use native.Mathlib.Omega.{arith}
use lib.ListN.{length, get_or, set, drop, replicate, length-set, drop_of_length-le}
use lib.Seq.{drop-cons, get_or-set_same, get_or-set_other}
use Rattle.std.proofs.lemmas.List.{get_or_default}
use lib.Dec.{T, ltb, eqb}
use Rattle.spec.specs.Lists.{Bytes, all, any, has}
use Rattle.laws.proofs.Tests.{and-iff, or-iff, not_iff, ltb_iff, eqb-iff, decide, bool-ext}
use Rattle.listing.specs.Listed.{place_at}
use Rattle.listing.proofs.Filled.{lent, part-lent}
use Rattle.listing.proofs.Successors.{get_or-slice, length_part}
use Rattle.plan_rules.specs.declared.apart.Stretch.{Stretch}
use Rattle.plan_rules.specs.Marks.{StretchFits, is_marked, marking}

-- the segments of a stretch, as a slice that is lent: each has a label, and it is one of 64
module _ {labels : List ℕ} {runs : Bytes} {s : Stretch} (h : StretchFits labels runs s) where
  abbrev segments : List ℕ
  segments = lent s.at s.size runs

  pub place-is : place_at runs s.at s.size ≡ segments
  unfolding place_at
  place-is = let fits = h.fits in sym (part-lent s.at s.size runs (omega arith))

  pub label-in : (k : ℕ) {x : ℕ} (d : ℕ) → k < length segments → x ≡ get_or segments k d → (x / 2 < length labels) × (get_or labels (x / 2) 0 < 64)
  unfolding place_at
  label-in k {x} d l e =
      let long : length segments ≡ s.size = ap length (sym place-is) ∙ length_part runs s.at s.size h.fits in
      let same : get_or runs (s.at + k) 0 ≡ x =
      sym (e ∙ get_or_default segments k d 0 l ∙ ap (λ (xs : List ℕ). get_or xs k 0) (sym place-is) ∙ get_or-slice runs s.at s.size k 0 (omega arith)) in
      rw (← same) (h.inside (s.at + k) (omega arith) (omega arith), h.below (s.at + k) (omega arith) (omega arith))

-- the next label of a list of segments, and none behind the last
module _ (f : ℕ → ℕ) (marks segments : Bytes) (k : ℕ) where
  pub marking-next : k < length segments
      → marking marks (map f (drop k segments)) ≡ marking (set marks (f (get_or segments k 0)) 1) (map f (drop (k + 1) segments))
  unfolding marking
  marking-next l =
      let next : drop k segments ≡ get_or segments k 0 ∷ drop (k + 1) segments = rw add-one (drop-cons segments k 0 l) in
      ap (λ (ds : List ℕ). marking marks (map f ds)) next

  pub marking-end : length segments ≤ k → marking marks (map f (drop k segments)) ≡ marks
  unfolding marking
  marking-end l = ap (λ (ds : List ℕ). marking marks (map f ds)) (drop_of_length-le segments l)

-- one label more is marked
marked-set : (marks : Bytes) (x l : ℕ) → x < length marks → is_marked (set marks x 1) l ≡ (is_marked marks l || eqb l x)
unfolding is_marked
marked-set marks x l h =
    let either = or-iff (eqb (get_or marks l 0) 1) (eqb l x) in
    decide (eqb l x)
    (λ e. bool-ext _ _
    (λ _. either.1 (inr e))
    (λ _. (eqb-iff _ 1).1 (ap (λ (n : ℕ). get_or (set marks x 1) n 0) ((eqb-iff l x).0 e) ∙ get_or-set_same marks x 1 0 h)))
    (λ n.
    let same = get_or-set_other marks x l 1 0 (λ e. (not_iff (eqb l x)).0 n ((eqb-iff l x).1 e)) in
    bool-ext _ _
    (λ t. either.1 (inl (rw same at t)))
    (λ t. rw same (elim (either.0 t) [ inl m ↦ m | inr e ↦ absurd ((not_iff (eqb l x)).0 n e) ])))

-- after marking, a label is marked where it was or is one of the stretch's
pub marked_by : (ls : List ℕ) (marks : Bytes) (l : ℕ) → T (all (λ x. ltb x (length marks)) ls)
    → is_marked (marking marks ls) l ≡ (is_marked marks l || has l ls)
unfolding marking has any all
marked_by [] marks l h = sym (or-none (is_marked marks l))
  where
    or-none : (b : Bool) → (b || false) ≡ b
    or-none true = refl
    or-none false = refl
marked_by (x ∷ ls) marks l h =
    let p = (and-iff (ltb x (length marks)) (all (λ y. ltb y (length marks)) ls)).0 h in
    let fits : T (all (λ y. ltb y (length (set marks x 1))) ls) = rw length-set p.1 in
    marked_by ls (set marks x 1) l fits
    ∙ ap (λ (t : Bool). t || has l ls) (marked-set marks x l ((ltb_iff x (length marks)).0 p.0))
    ∙ or_assoc (is_marked marks l) (eqb l x) (has l ls)

-- nothing is marked at first
pub unmarked : (n l : ℕ) → is_marked (replicate {A = ℕ} n 0) l ≡ false
unfolding is_marked
unmarked n l = ap (λ (x : ℕ). eqb x 1) (zeros n l)
  where
    zeros : (n l : ℕ) → get_or (replicate {A = ℕ} n 0) l 0 ≡ 0
    zeros zero l = refl
    zeros (suc n) zero = refl
    zeros (suc n) (suc l) = zeros n l

-- there are as many marks as before
pub length-marking : (ls : List ℕ) (marks : Bytes) → length (marking marks ls) ≡ length marks
unfolding marking
length-marking [] marks = refl
length-marking (l ∷ ls) marks = length-marking ls (set marks l 1) ∙ length-set marks l 1
