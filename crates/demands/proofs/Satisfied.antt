-- A plan that keeps the six rules satisfies the formula, through every valuation that codes it and claims exactly the
-- sections that its runs touch. Assumes nothing.
use mathlib.Core.Path.{◌≡◌, sym, subst}
use mathlib.Core.Logic.{◌⊎◌, inl, inr}
use mathlib.Core.Bool.{Bool, ◌&&◌}
use Prim.Native.Nat.{ℕ, ◌+◌, ◌-◌, ◌≤◌, ◌<◌}
use native.Mathlib.Omega.{arith}
use mathlib.Core.List.{Memᴰ}
use lib.Dec.{T}
use Rattle.laws.proofs.Tests.{and-iff, any-iff, any-up_to, any-range, le-or-lt, decide}
use Rattle.spec.specs.Lists.{any, up_to}
use Rattle.spec.specs.Instance.{Instance, in_window}
use Rattle.spec.specs.Sections.{together}
use Rattle.spec.specs.Plan.{Plan, Move, run, absent, gone, is_absent, is_gone, runs, if_run, of_run, served_by}
use Rattle.spec.specs.Formula.{run_var, gone_var, claim_var, own_variables, formula, family_a, family_b, family_c, family_d, family_e, family_f, family_g, family_h, family_i}
use Rattle.spec.specs.Cap.{cap_clauses}
use Rattle.spec.specs.Assignment.{satisfies, claims}
use Rattle.demands.proofs.Sections.{neighbours-iff, together-refl, together-sym, together-trans, together-step}
use Rattle.demands.proofs.Meaning.{from-families, means_a, means_b, means_c, means_d, means_e, means_f, means_g, means_h, means_i}
use Rattle.demands.proofs.Coding.{Codes}
use Rattle.demands.proofs.Moves.{Kept, means1, means2, means3, means4, means5, means6, a_run, is_away, has_left, which, run_of, gone_of, absent-of, run-true, true-run, gone-true, true-gone}
use Rattle.demands.proofs.Rules.{run≢absent, run≢gone, absent≢gone}

-- a valuation claims exactly the sections that the plan's runs touch
abbrev pub Claiming : Instance → (ℕ → Bool) → Plan → Type 0
Claiming I α p = (i : ℕ) → i < I.trains → (t : ℕ) → t < I.intervals → (s : ℕ) → s < I.segments → α (claim_var I i t s) ≡ claims I p i t s

module _ (I : Instance) (α : ℕ → Bool) (p : Plan) (code : Codes I α p) (rules : Kept I p)
    (departs : (i : ℕ) → i < I.trains → I.departure i < I.intervals) where
  satisfies_a : T (satisfies α (family_a I))
  satisfies_a = (means_a I α).1 λ n l.
      let a = (means1 I p).0 rules.one n l in
      let e = code.borders n l in
      ((λ d b. a.0 d (subst T e b)), (λ f. subst T (sym e) (a.1 f)))

  away : (i : ℕ) → i < I.trains → (t : ℕ) → t < I.departure i → p.move i t ≡ absent
  away i l t early = absent-of (((means2 I p).0 rules.two i l).0.0 t early)

  present : (i : ℕ) → i < I.trains → (t : ℕ) → I.departure i ≤ t → t < I.intervals → p.move i t ≡ absent → ⊥
  unfolding is_absent
  present i l t late h e = ((means2 I p).0 rules.two i l).0.1 t late h (rw e tt)

  satisfies_b : T (satisfies α (family_b I))
  satisfies_b = (means_b I α).1 λ i l t early.
      let h : t < I.intervals = omega (arith, departs i l) in (
        (λ r k a. run≢absent (run-true I α p code i l t h r k a) (away i l t early)),
        (λ a. absent≢gone (away i l t early) (gone-true I α p code i l t h a)),
      )

  -- a move from the departure on is a run or gone
  some-move : (i : ℕ) → i < I.trains → (t : ℕ) → I.departure i ≤ t → t < I.intervals
      → T (any (λ r. α (run_var I i t r)) (up_to (I.runs i))) ⊎ T (α (gone_var I i t))
  some-move i l t late h =
      elim (which (p.move i t)) [
        | a_run r e ↦ (let a = true-run I α p code i l t h r e in inl ((any-up_to (λ r. α (run_var I i t r)) (I.runs i)).1 (r, a.0, a.1)))
        | is_away e ↦ absurd (present i l t late h e)
        | has_left e ↦ inr (true-gone I α p code i l t h e)
      ]

  -- a lower move is a run, and rules a higher one out
  no-two : (i : ℕ) → i < I.trains → (t : ℕ) → t < I.intervals → (m : ℕ) → m < I.runs i + 1 → (n : ℕ) → m + 1 ≤ n → n < I.runs i + 1
      → T (α (run_var I i t m)) → T (α (run_var I i t n)) → ⊥
  unfolding run_var gone_var
  no-two i l t h m hm n mn hn a b =
      let first = run-true I α p code i l t h m (omega arith) a in
      elim (le-or-lt (I.runs i) n) [
        | inl last ↦ (let e : n ≡ I.runs i = omega arith in run≢gone first (gone-true I α p code i l t h (rw (← e) b)))
        | inr is_run ↦ (let second = run-true I α p code i l t h n is_run b in let e : m ≡ n = cc in omega arith)
      ]

  satisfies_c : T (satisfies α (family_c I))
  satisfies_c = (means_c I α).1 λ i l t late h. (some-move i l t late h, no-two i l t h)

  satisfies_d : T (satisfies α (family_d I))
  satisfies_d = (means_d I α).1 λ i l.
      let r = run_of (p.move i (I.departure i)) (I.given i) ((means2 I p).0 rules.two i l).1 in (
        (λ q k n a. let e = run-true I α p code i l _ (departs i l) q k a in
            let same : r.0 ≡ q = cc in n (subst (λ (x : ℕ). T (I.given i x)) same r.2)),
        (λ a. run≢gone r.1 (gone-true I α p code i l _ (departs i l) a)),
      )

  -- rule 4, of two runs in a row
  following : (i : ℕ) → i < I.trains → (t : ℕ) → t < I.intervals - 1 → (r q : ℕ) → p.move i t ≡ run r → p.move i (t + 1) ≡ run q
      → T (I.follows i r q)
  unfolding if_run
  following i l t h r q e f =
      subst (λ (n : Move). T (if_run n λ q. I.follows i r q)) f
      (subst (λ (m : Move). T (if_run m λ r. if_run (p.move i (t + 1)) λ q. I.follows i r q)) e ((means4 I p).0 rules.four i l t h))

  -- rule 3, of a run before gone
  leaving : (i : ℕ) → i < I.trains → (t : ℕ) → t < I.intervals - 1 → (r : ℕ) → p.move i t ≡ run r → p.move i (t + 1) ≡ gone
      → T (I.leaves i r)
  unfolding is_gone runs
  leaving i l t h r e f =
      elim ((((means3 I p).0 rules.three i l).1 t h).0 (rw f tt))
      [ inl g ↦ run≢gone e (gone_of g) | inr k ↦ subst (λ (m : Move). T (runs m (I.leaves i))) e k ]

  satisfies_e : T (satisfies α (family_e I))
  unfolding is_gone
  satisfies_e = (means_e I α).1 λ i l t late h.
      let h' : t < I.intervals = omega arith in
      let h'' : t + 1 < I.intervals = omega arith in (
        (λ r k a. let e = run-true I α p code i l t h' r k a in
            elim (which (p.move i (t + 1))) [
              | a_run q f ↦ (let b = true-run I α p code i l (t + 1) h'' q f in
                  inl ((any-up_to (λ q. I.follows i r q && α (run_var I i (t + 1) q)) (I.runs i)).1
                  (q, b.0, (and-iff (I.follows i r q) _).1 (following i l t h r q e f, b.1))))
              | is_away f ↦ absurd (present i l (t + 1) (omega arith) h'' f)
              | has_left f ↦ inr ((and-iff (I.leaves i r) _).1 (leaving i l t h r e f, true-gone I α p code i l (t + 1) h'' f))
            ]),
        (λ a. let e = gone-true I α p code i l t h' a in
            true-gone I α p code i l (t + 1) h'' (gone_of ((((means3 I p).0 rules.three i l).1 t h).1 (rw e tt)))),
      )

  satisfies_f : T (satisfies α (family_f I))
  unfolding served_by
  satisfies_f = (means_f I α).1 λ i l c k n.
      elim ((means5 I p).0 rules.five i l c k) [
        | inl s ↦ absurd (n s)
        | inr s ↦ (let f = (any-range (λ t. in_window I i c (t + 1) && runs (p.move i t) (I.serves i c)) (I.departure i) I.intervals).0 s in
            let b = (and-iff (in_window I i c (f.0 + 1)) _).0 f.3 in
            let r = run_of (p.move i f.0) (I.serves i c) b.1 in
            let a = true-run I α p code i l f.0 f.2 r.0 r.1 in
            (f.0, f.1, f.2, (b.0, (r.0, a.0, (r.2, a.1)))))
      ]

  module _ (claiming : Claiming I α p)
      (inside : (i : ℕ) → i < I.trains → (r : ℕ) → r < I.runs i → (s : ℕ) → Memᴰ s (I.path i r) → s < I.segments)
      (meets : (n s t : ℕ) → T (I.meet n s t) → T (I.meet n t s)) where
    satisfies_g : T (satisfies α (family_g I))
    unfolding claims of_run
    satisfies_g = (means_g I α).1 λ i l t h r k s m a.
        let e = run-true I α p code i l t h r k a in
        subst T (sym (claiming i l t h s (inside i l r k s m)))
        ((any-iff (λ u. together I p.border u s) (of_run (p.move i t) (I.path i))).1
        (s, rw e m, together-refl I p.border s))

    -- a touched segment, as a statement
    touched : (i : ℕ) → i < I.trains → (t : ℕ) → t < I.intervals → (s : ℕ) → s < I.segments → T (α (claim_var I i t s))
        → (u : ℕ) × Memᴰ u (of_run (p.move i t) (I.path i)) × T (together I p.border u s)
    unfolding claims
    touched i l t h s hs a =
        (any-iff (λ u. together I p.border u s) (of_run (p.move i t) (I.path i))).0 (subst T (claiming i l t h s hs) a)

    satisfies_h : T (satisfies α (family_h I))
    unfolding claims
    satisfies_h = (means_h I α).1 λ i l t h n hn s hs u hu m a. decide (p.border n)
        (λ b. inl (subst T (sym (code.borders n hn)) b))
        (λ b. let v = touched i l t h s hs a in
        let near = (neighbours-iff I p.border s u).1 (n, hn, b, m) in
        inr (subst T (sym (claiming i l t h u hu))
        ((any-iff (λ v. together I p.border v u) (of_run (p.move i t) (I.path i))).1
        (v.0, v.1, together-step I p.border v.0 s u hs v.2 near))))

    satisfies_i : T (satisfies α (family_i I))
    satisfies_i = (means_i I α).1 λ t h i l j k l' s hs a b.
        let v = touched i l t h s hs a in
        let w = touched j l' t h s hs b in
        (means6 I p).0 rules.six t h i l j k l' (
          v.0,
          v.1,
          (
            w.0,
            w.1,
            together-trans I p.border v.0 s w.0 hs v.2 (together-sym I p.border meets w.0 s w.2),
          ),
        )

    pub kept-satisfies : T (satisfies α (cap_clauses I (own_variables I))) → T (satisfies α (formula I))
    kept-satisfies extra =
        from-families I α
        (record {
          A = satisfies_a;
          B = satisfies_b;
          C = satisfies_c;
          D = satisfies_d;
          E = satisfies_e;
          F = satisfies_f;
          G = satisfies_g;
          H = satisfies_h;
          J = satisfies_i;
          extra = extra;
        })
