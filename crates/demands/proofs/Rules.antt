-- A plan that is coded by a valuation which satisfies the formula keeps the six rules. Assumes nothing.
use mathlib.Core.Path.{◌≡◌, refl, sym, subst}
use mathlib.Core.Logic.{◌⊎◌, inl, inr}
use mathlib.Core.Bool.{Bool, ◌&&◌}
use Prim.Native.Nat.{ℕ, ◌+◌, ◌-◌, ◌≤◌, ◌<◌}
use native.Mathlib.Omega.{arith}
use mathlib.Core.List.Memᴰ
use mathlib.Core.List.{Memᴰ}
use lib.Dec.{T}
use Rattle.laws.proofs.Tests.{and-iff, any-up_to, any-range, le-or-lt, decide, not_iff}
use Rattle.spec.specs.Instance.{Instance, in_window, served_at_departure}
use Rattle.spec.specs.Sections.{Chain, here, link}
use Rattle.spec.specs.Plan.{Plan, Move, run, absent, gone, is_absent, is_gone, runs, if_run, of_run, rule1, rule2, rule3, rule4, rule5, rule6, served_by, keeps_rules}
use Rattle.spec.specs.Formula.{run_var, claim_var}
use Rattle.demands.proofs.Sections.{neighbours-iff, together-chain}
use Rattle.demands.proofs.Meaning.{Families, means_a, means_b, means_c, means_d, means_e, means_f, means_g, means_h, means_i}
use Rattle.demands.proofs.Coding.{Codes}
use Rattle.demands.proofs.Moves.{from-kept, means1, means2, means3, means4, means5, means6, a_run, is_away, has_left, which, run_of, gone_of, absent-of, run-true, true-run, gone-true, true-gone}

-- a run is neither absent nor gone, and absent is not gone
pub run≢absent : {m : Move} {r : ℕ} {X : Type 0} → m ≡ run r → m ≡ absent → X
run≢absent p q = let z : ◌≡◌ {A = ℕ} 0 1 = cc in let no' : ⊥ = omega arith in absurd no'

pub run≢gone : {m : Move} {r : ℕ} {X : Type 0} → m ≡ run r → m ≡ gone → X
run≢gone p q = let z : ◌≡◌ {A = ℕ} 0 1 = cc in let no' : ⊥ = omega arith in absurd no'

pub absent≢gone : {m : Move} {X : Type 0} → m ≡ absent → m ≡ gone → X
absent≢gone p q = let z : ◌≡◌ {A = ℕ} 0 1 = cc in let no' : ⊥ = omega arith in absurd no'

module _ (I : Instance) (α : ℕ → Bool) (p : Plan) (code : Codes I α p) (fam : Families I α)
    (departs : (i : ℕ) → i < I.trains → I.departure i < I.intervals) where
  keeps1 : T (rule1 I p)
  keeps1 = (means1 I p).1 λ n l.
      let a = (means_a I α).0 fam.A n l in
      let e = code.borders n l in
      ((λ d b. a.0 d (subst T (sym e) b)), (λ f. subst T e (a.1 f)))

  -- before the departure a train is absent
  away : (i : ℕ) → i < I.trains → (t : ℕ) → t < I.departure i → p.move i t ≡ absent
  away i l t early =
      let h : t < I.intervals = omega (arith, departs i l) in
      let none_of = (means_b I α).0 fam.B i l t early in
      elim (which (p.move i t)) [
        | a_run r e ↦ (let k = true-run I α p code i l t h r e in absurd (none_of.0 r k.0 k.1))
        | is_away e ↦ e
        | has_left e ↦ absurd (none_of.1 (true-gone I α p code i l t h e))
      ]

  -- from the departure on it is not
  present : (i : ℕ) → i < I.trains → (t : ℕ) → I.departure i ≤ t → t < I.intervals → p.move i t ≡ absent → ⊥
  present i l t late h e =
      elim ((means_c I α).0 fam.C i l t late h).0 [
        | inl a ↦ (let k = (any-up_to (λ r. α (run_var I i t r)) (I.runs i)).0 a in
            run≢absent (run-true I α p code i l t h k.0 k.1 k.2) e)
        | inr a ↦ absent≢gone e (gone-true I α p code i l t h a)
      ]

  -- at the departure it runs from the given place
  starts : (i : ℕ) → i < I.trains → T (runs (p.move i (I.departure i)) (I.given i))
  unfolding runs
  starts i l =
      let d = departs i l in
      let k = (means_d I α).0 fam.D i l in
      elim (which (p.move i (I.departure i))) [
        | a_run r e ↦ (let a = true-run I α p code i l _ d r e in
            rw e (decide (I.given i r) (λ g. g) (λ n. absurd (k.0 r a.0 ((not_iff (I.given i r)).0 n) a.1))))
        | is_away e ↦ absurd (present i l (I.departure i) (omega arith) d e)
        | has_left e ↦ absurd (k.1 (true-gone I α p code i l _ d e))
      ]

  keeps2 : T (rule2 I p)
  unfolding is_absent
  keeps2 = (means2 I p).1 λ i l. (
    (
      (λ t early. rw (away i l t early) tt),
      (λ t late h a. present i l t late h (absent-of a)),
    ),
    starts i l,
  )

  -- not gone up to the departure
  staying : (i : ℕ) → i < I.trains → (t : ℕ) → t < I.departure i + 1 → p.move i t ≡ gone → ⊥
  staying i l t k e =
      elim (le-or-lt (I.departure i) t) [
        | inl late ↦ (let same : t ≡ I.departure i = omega arith in
            let r = run_of _ _ (starts i l) in run≢gone r.1 (rw (← same) e))
        | inr early ↦ absent≢gone (away i l t early) e
      ]

  -- a run is followed by a run from its end, or by gone where it may leave
  after_run : (i : ℕ) → i < I.trains → (t : ℕ) → t < I.intervals - 1 → (r : ℕ) → p.move i t ≡ run r
      → ((q : ℕ) × (p.move i (t + 1) ≡ run q) × T (I.follows i r q)) ⊎ ((p.move i (t + 1) ≡ gone) × T (I.leaves i r))
  after_run i l t h r e =
      let h' : t < I.intervals = omega arith in
      let h'' : t + 1 < I.intervals = omega arith in
      let a = true-run I α p code i l t h' r e in
      elim (le-or-lt (I.departure i) t) [
        | inr early ↦ run≢absent e (away i l t early)
        | inl late ↦ elim (((means_e I α).0 fam.E i l t late h).0 r a.0 a.1) [
          | inl f ↦ (let k = (any-up_to (λ q. I.follows i r q && α (run_var I i (t + 1) q)) (I.runs i)).0 f in
              let b = (and-iff (I.follows i r k.0) _).0 k.2 in
              inl (k.0, run-true I α p code i l (t + 1) h'' k.0 k.1 b.1, b.0))
          | inr g ↦ (let b = (and-iff (I.leaves i r) _).0 g in inr (gone-true I α p code i l (t + 1) h'' b.1, b.0))
        ]
      ]

  -- gone is followed by gone
  after-gone : (i : ℕ) → i < I.trains → (t : ℕ) → t < I.intervals - 1 → p.move i t ≡ gone → p.move i (t + 1) ≡ gone
  after-gone i l t h e =
      let h' : t < I.intervals = omega arith in
      let h'' : t + 1 < I.intervals = omega arith in
      elim (le-or-lt (I.departure i) t) [
        | inr early ↦ absent≢gone (away i l t early) e
        | inl late ↦ gone-true I α p code i l (t + 1) h'' (((means_e I α).0 fam.E i l t late h).1 (true-gone I α p code i l t h' e))
      ]

  -- gone comes after gone, or after a run that may leave
  before-gone : (i : ℕ) → i < I.trains → (t : ℕ) → t < I.intervals - 1 → p.move i (t + 1) ≡ gone
      → T (is_gone (p.move i t)) ⊎ T (runs (p.move i t) (I.leaves i))
  unfolding is_gone runs
  before-gone i l t h e =
      elim (which (p.move i t)) [
        | a_run r k ↦ elim (after_run i l t h r k) [ inl f ↦ run≢gone f.1 e | inr f ↦ inr (rw k f.1) ]
        | is_away k ↦ (elim (le-or-lt (I.departure i) t)
            [ inl late ↦ absurd (present i l t late (omega arith) k) | inr early ↦ absurd (staying i l (t + 1) (omega arith) e) ])
        | has_left k ↦ inl (rw k tt)
      ]

  keeps3 : T (rule3 I p)
  unfolding is_gone
  keeps3 = (means3 I p).1 λ i l. (
    (λ t k g. staying i l t k (gone_of g)),
    (λ t h. ((λ g. before-gone i l t h (gone_of g)), (λ g. rw (after-gone i l t h (gone_of g)) tt))),
  )

  -- a run that follows a run starts at its end, whatever the two moves are
  in_row : (i : ℕ) → i < I.trains → (t : ℕ) → t < I.intervals - 1 → (m n : Move) → p.move i t ≡ m → p.move i (t + 1) ≡ n
      → T (if_run m λ r. if_run n λ q. I.follows i r q)
  unfolding if_run
  in_row i l t h (run r) (run q) e f =
      elim (after_run i l t h r e)
      [ inl k ↦ (let same : k.0 ≡ q = cc in subst (λ (x : ℕ). T (I.follows i r x)) same k.2) | inr k ↦ run≢gone f k.0 ]
  in_row i l t h (run r) absent e f = tt
  in_row i l t h (run r) gone e f = tt
  in_row i l t h absent n e f = tt
  in_row i l t h gone n e f = tt

  keeps4 : T (rule4 I p)
  keeps4 = (means4 I p).1 λ i l t h. in_row i l t h (p.move i t) (p.move i (t + 1)) refl refl

  keeps5 : T (rule5 I p)
  unfolding served_by runs
  keeps5 = (means5 I p).1 λ i l c k. decide (served_at_departure I i c) (λ s. inl s) λ n.
      let f = (means_f I α).0 fam.F i l c k ((not_iff (served_at_departure I i c)).0 n) in
      let s = f.3.1 in
      inr ((any-range (λ t. in_window I i c (t + 1) && runs (p.move i t) (I.serves i c)) (I.departure i) I.intervals).1 (
        f.0,
        f.1,
        f.2,
        (and-iff (in_window I i c (f.0 + 1)) _).1
            (f.3.0, rw (run-true I α p code i l f.0 f.2 s.0 s.1 s.2.1) s.2.0),
      ))

  -- a run's segments are claimed
  claimed : (i : ℕ) → i < I.trains → (t : ℕ) → t < I.intervals → (m : Move) → p.move i t ≡ m
      → (s : ℕ) → Memᴰ s (of_run m (I.path i)) → T (α (claim_var I i t s))
  unfolding of_run
  claimed i l t h (run r) e s m =
      let a = true-run I α p code i l t h r e in (means_g I α).0 fam.G i l t h r a.0 s m a.1
  claimed i l t h absent e s m = absurd (Memᴰ.not-nil m)
  claimed i l t h gone e s m = absurd (Memᴰ.not-nil m)

  -- a claim reaches along a chain
  reaches : (i : ℕ) → i < I.trains → (t : ℕ) → t < I.intervals → (s u : ℕ) → Chain I p.border s u
      → T (α (claim_var I i t s)) → T (α (claim_var I i t u))
  reaches i l t h s u here a = a
  reaches i l t h s u (link {t = v} hv hu k c) a =
      let n = (neighbours-iff I p.border v u).0 k in
      elim ((means_h I α).0 fam.H i l t h n.0 n.1 v hv u hu n.3 (reaches i l t h s v c a))
      [ inl b ↦ absurd ((not_iff (p.border n.0)).0 n.2 (subst T (code.borders n.0 n.1) b)) | inr b ↦ b ]

  module _ (inside : (i : ℕ) → i < I.trains → (r : ℕ) → r < I.runs i → (s : ℕ) → Memᴰ s (I.path i r) → s < I.segments) where
    -- a run's segments are segments of the book
    pub in-book : (i : ℕ) → i < I.trains → (t : ℕ) → t < I.intervals → (m : Move) → p.move i t ≡ m
        → (s : ℕ) → Memᴰ s (of_run m (I.path i)) → s < I.segments
    unfolding of_run
    in-book i l t h (run r) e s m = inside i l r (true-run I α p code i l t h r e).0 s m
    in-book i l t h absent e s m = absurd (Memᴰ.not-nil m)
    in-book i l t h gone e s m = absurd (Memᴰ.not-nil m)

    keeps6 : T (rule6 I p)
    keeps6 = (means6 I p).1 λ t h i l j k l' both.
        let (s, ms, rest) = both in
        let (u, mu, together-su) = rest in
        let hs = in-book i l t h (p.move i t) refl s ms in
        let hu = in-book j l' t h (p.move j t) refl u mu in
        let chain = (together-chain I p.border s u hs hu).0 together-su in
        (means_i I α).0 fam.J t h i l j k l' u hu
        (reaches i l t h s u chain (claimed i l t h (p.move i t) refl s ms)) (claimed j l' t h (p.move j t) refl u mu)

    pub satisfied-keeps : T (keeps_rules I p)
    satisfied-keeps =
        from-kept I p (record { one = keeps1; two = keeps2; three = keeps3; four = keeps4; five = keeps5; six = keeps6 })
