-- Where trains meet (document 02, P5): an interval and a pair are found exactly where rule 6 is broken (`earliest-is`), and they are the first, as
-- the text has it (`first-meeting`); rule 6 as the text has it (`rule-six`). Assumes nothing.
use mathlib.Core.Path.{◌≡◌, refl, sym, subst}
use mathlib.Core.Logic.{◌↔◌, ⊎_elim}
use mathlib.Core.Bool.{Bool, not}
use Prim.Native.Nat.{ℕ, ◌+◌, ◌-◌, ◌≤◌, ◌<◌}
use native.Mathlib.Omega.{arith}
use mathlib.Core.List.Memᴰ
use mathlib.Core.List.{List, Memᴰ}
use lib.Dec.{T, eqb}
use Rattle.spec.specs.Lists.{all, up_to, least_from}
use Rattle.spec.specs.Book.{Book}
use Rattle.spec.specs.Read.{well_formed}
use Rattle.spec.specs.Instance.{Instance, instance_of}
use Rattle.spec.specs.Sections.{share_section}
use Rattle.spec.specs.Plan.{Plan, Move, run, absent, gone, of_run, is_move, IsPlan, trains_meet, apart_in, rule6}
use Rattle.spec.specs.Carriers.{earliest, meets_higher, lower_train, higher_train}
use Rattle.laws.proofs.Tests.{meaning, bool-ext, not_iff, eqb-iff, ltb_iff, any-iff, any-range, all-up_to, decide, le-or-lt}
use Rattle.laws.proofs.Least.{least-from, least-holds, least_first}
pub use Rattle.demands.specs.Carriers.{Meet, FirstMeeting}
use Rattle.demands.proofs.Sections.{together-chain, chain-together}
use Rattle.demands.proofs.Wellformed.{sound}
use Rattle.demands.proofs.Rules.{run≢absent, run≢gone}

-- ---- what is searched for is found

-- the least number that fails a test, where not all pass
least-failing : (f : ℕ → Bool) (n : ℕ) → T (not (all f (up_to n))) → least_from (λ k. not (f k)) 0 n < n
least-failing f n h = ⊎_elim (λ l. absurd ((not_iff (all f (up_to n))).0 h (passing l))) (λ l. l) (le-or-lt n (least_from (λ k. not (f k)) 0 n))
  where
    passing : n ≤ least_from (λ k. not (f k)) 0 n → T (all f (up_to n))
    passing l = (all-up_to f n).1 λ k m.
        decide (f k) (λ t. t) (λ t. let first = least_first (λ k. not (f k)) 0 n k (omega arith) (omega arith) t in let no' : ⊥ = omega arith in absurd no')

module _ (I : Instance) (p : Plan) where
  -- no two trains meet in an interval
  pub apart-means : (t : ℕ) → T (apart_in I p t)
      ↔ ((i : ℕ) → i < I.trains → (j : ℕ) → i + 1 ≤ j → j < I.trains → T (trains_meet I p t i j) → ⊥)
  unfolding apart_in
  apart-means t = simp meaning (λ h. h, λ h. h)

  -- a train meets a higher one
  pub meets-iff : (t i : ℕ) → T (meets_higher I p t i) ↔ ((j : ℕ) × (i + 1 ≤ j) × (j < I.trains) × T (trains_meet I p t i j))
  unfolding meets_higher
  meets-iff t i = any-range (trains_meet I p t i) (i + 1) I.trains

  -- ---- of an interval in which some meet

  module _ (t : ℕ) where
    pub lower-first : (i : ℕ) → i < I.trains → T (meets_higher I p t i) → lower_train I p t ≤ i
    unfolding lower_train
    lower-first i l h = least_first (meets_higher I p t) 0 I.trains i (omega arith) (omega arith) h

    pub lower-below : T (not (apart_in I p t)) → lower_train I p t < I.trains
    lower-below h = ⊎_elim (λ l. absurd ((not_iff (apart_in I p t)).0 h (apart l))) (λ l. l) (le-or-lt I.trains (lower_train I p t))
      where
        apart : I.trains ≤ lower_train I p t → T (apart_in I p t)
        apart l = (apart-means t).1 λ i k j above m h. let first = lower-first i k ((meets-iff t i).1 (j, above, m, h)) in omega arith

    pub lower-meets : lower_train I p t < I.trains → T (meets_higher I p t (lower_train I p t))
    unfolding lower_train
    lower-meets l = least-holds (meets_higher I p t) 0 I.trains (omega arith)

    module _ (i : ℕ) where
      pub higher-first : (j : ℕ) → i + 1 ≤ j → j < I.trains → T (trains_meet I p t i j) → higher_train I p t i ≤ j
      unfolding higher_train
      higher-first j above l h = least_first (trains_meet I p t i) (i + 1) (I.trains - (i + 1)) j above (omega arith) h

      pub higher-above : i + 1 ≤ higher_train I p t i
      unfolding higher_train
      higher-above = (least-from (trains_meet I p t i) (i + 1) (I.trains - (i + 1))).0

      pub higher-below : T (meets_higher I p t i) → higher_train I p t i < I.trains
      higher-below h = let m = (meets-iff t i).0 h in omega (arith, higher-first m.0 m.1 m.2 m.3, m.2)

      pub higher-meets : higher_train I p t i < I.trains → T (trains_meet I p t i (higher_train I p t i))
      unfolding higher_train
      higher-meets l = least-holds (trains_meet I p t i) (i + 1) (I.trains - (i + 1)) (omega (arith, higher-above, l))

  -- ---- of a plan that breaks rule 6

  pub earliest-below : T (not (rule6 I p)) → earliest I p < I.intervals
  unfolding rule6 earliest
  earliest-below h = least-failing (apart_in I p) I.intervals h

  pub earliest-meets : earliest I p < I.intervals → T (not (apart_in I p (earliest I p)))
  unfolding earliest
  earliest-meets l = least-holds (λ t. not (apart_in I p t)) 0 I.intervals (omega arith)

  pub earliest-first : (t : ℕ) → t < I.intervals → T (not (apart_in I p t)) → earliest I p ≤ t
  unfolding earliest
  earliest-first t l h = least_first (λ t. not (apart_in I p t)) 0 I.intervals t (omega arith) (omega arith) h

  -- one that keeps it has none to find
  pub earliest-none : T (rule6 I p) → earliest I p ≡ I.intervals
  unfolding rule6 earliest
  earliest-none h =
      let most = (least-from (λ t. not (apart_in I p t)) 0 I.intervals).1 in
      ⊎_elim (λ l. omega (arith, most, l))
      (λ l. absurd ((not_iff (apart_in I p (earliest I p))).0 (earliest-meets l) ((all-up_to (apart_in I p) I.intervals).0 h (earliest I p) l)))
      (le-or-lt I.intervals (earliest I p))

  pub earliest-is : eqb (earliest I p) I.intervals ≡ rule6 I p
  earliest-is =
      bool-ext _ _
      (λ h. decide (rule6 I p) (λ t. t) (λ broken. let e = (eqb-iff (earliest I p) I.intervals).0 h in absurd (omega (arith, e, earliest-below broken))))
      (λ h. (eqb-iff (earliest I p) I.intervals).1 (earliest-none h))

-- ---- as the text has it

run-same : {r q : ℕ} → run r ≡ run q → r ≡ q
run-same e = cc

-- what is in the list of a move is in that of its run
of-run : (m : Move) (f : ℕ → List ℕ) (x : ℕ) → Memᴰ x (of_run m f) ↔ ((r : ℕ) × (m ≡ run r) × Memᴰ x (f r))
unfolding of_run
of-run (run r) f x = (λ m. (r, refl, m), λ h. subst (λ (q : ℕ). Memᴰ x (f q)) (sym (run-same h.1)) h.2)
of-run absent f x = (λ m. absurd (Memᴰ.not-nil m), λ h. run≢absent h.1 refl)
of-run gone f x = (λ m. absurd (Memᴰ.not-nil m), λ h. run≢gone h.1 refl)

module _ (b : Book) (formed : T (well_formed b)) (p : Plan) (fits : IsPlan (instance_of b) p) where
  abbrev I : Instance
  I = instance_of b

  -- a segment that a train's run touches is one of the book
  inside : (t i r s : ℕ) → t < I.intervals → i < I.trains → p.move i t ≡ run r → Memᴰ s (I.path i r) → s < I.segments
  unfolding is_move
  inside t i r s lt li e m =
      let known = (ltb_iff r (I.runs i)).0 (subst (λ (x : Move). T (is_move I i x)) e (fits i li t lt)) in
      (sound b formed).inside i r li known s m

  pub meet-iff : (t i j : ℕ) → t < I.intervals → i < I.trains → j < I.trains → T (trains_meet I p t i j) ↔ Meet I p t i j
  unfolding trains_meet share_section
  meet-iff t i j lt li lj = (
    (λ h.
        let s = (any-iff _ _).0 h in
        let u = (any-iff _ _).0 s.2 in
        let a = (of-run (p.move i t) _ s.0).0 s.1 in
        let c = (of-run (p.move j t) _ u.0).0 u.1 in
        record {
          run-i = a.0;
          run-j = c.0;
          runs-i = a.1;
          runs-j = c.1;
          segment-i = s.0;
          segment-j = u.0;
          touches-i = a.2;
          touches-j = c.2;
          together = (together-chain I p.border s.0 u.0 (inside t i _ _ lt li a.1 a.2) (inside t j _ _ lt lj c.1 c.2)).0 u.2;
        }),
    (λ m.
        (any-iff _ _).1 (
          m.segment-i,
          (of-run (p.move i t) _ _).1 (m.run-i, m.runs-i, m.touches-i),
          (any-iff _ _).1 (m.segment-j, (of-run (p.move j t) _ _).1 (m.run-j, m.runs-j, m.touches-j), chain-together I p.border m.together),
        )),
  )

  -- rule 6, "In each interval no section holds segments of two trains' runs": no two trains meet
  pub rule-six : T (rule6 I p) ↔ ((t : ℕ) → t < I.intervals → (i j : ℕ) → i < j → j < I.trains → Meet I p t i j → ⊥)
  unfolding rule6
  rule-six = (
    (λ h t lt i j li lj m.
        (apart-means I p t).0 ((all-up_to (apart_in I p) I.intervals).0 h t lt) i (omega arith) j (omega arith) lj
        ((meet-iff t i j lt (omega arith) lj).1 m)),
    (λ h. (all-up_to (apart_in I p) I.intervals).1 λ t lt. (apart-means I p t).1 λ i li j above lj m.
        h t lt i j (omega arith) lj ((meet-iff t i j lt li lj).0 m)),
  )

  pub first-meeting : T (not (rule6 I p))
      → FirstMeeting I p (earliest I p) (lower_train I p (earliest I p)) (higher_train I p (earliest I p) (lower_train I p (earliest I p)))
  first-meeting broken = record {
    interval = there;
    lower = omega (arith, higher-above I p t i);
    higher = higher;
    meet = (meet-iff t i j there lower higher).0 (higher-meets I p t i higher);
    earliest = λ u k l kl lt m. ⊎_elim (λ h. omega (arith, h, there)) (λ lu. earliest-first I p u lu (meeting u k l lu kl lt m)) (le-or-lt I.intervals u);
    least-lower = λ k l kl lt m. lower-first I p t k (omega arith) ((meets-iff I p t k).1 (l, omega arith, lt, (meet-iff t k l there (omega arith) lt).1 m));
    least-higher = λ l il lt m. higher-first I p t i l (omega arith) lt ((meet-iff t i l there lower lt).1 m);
  }
    where
      t : ℕ
      t = earliest I p

      there : t < I.intervals
      there = earliest-below I p broken

      i : ℕ
      i = lower_train I p t

      lower : i < I.trains
      lower = lower-below I p t (earliest-meets I p there)

      j : ℕ
      j = higher_train I p t i

      higher : j < I.trains
      higher = higher-below I p t i (lower-meets I p t lower)

      meeting : (u k l : ℕ) → u < I.intervals → k < l → l < I.trains → Meet I p u k l → T (not (apart_in I p u))
      meeting u k l lu kl lt m = (not_iff (apart_in I p u)).1 λ h.
          (apart-means I p u).0 h k (omega arith) l (omega arith) lt ((meet-iff u k l lu (omega arith) lt).1 m)
