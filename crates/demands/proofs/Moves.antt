-- What each plan rule says, and what a valuation that codes a plan says of each move. Assumes nothing.
use mathlib.Core.Path.{◌≡◌, refl, sym, ap, ◌∙◌, subst}
use mathlib.Core.Logic.Iff
use mathlib.Core.Logic.{◌↔◌, ◌⊎◌}
use mathlib.Core.Bool.{Bool, not-not}
use Prim.Native.Nat.{ℕ, ◌+◌, ◌-◌, ◌≤◌, ◌<◌}
use native.Mathlib.Omega.{arith}
use mathlib.Core.List.{Memᴰ}
use lib.ListN.{length}
use lib.Dec.{T, eqb, eqb_refl}
use Rattle.laws.proofs.Tests.{meaning, and-iff, or-iff, any-iff, all-up_to, eqb-iff, ltb_iff}
use Rattle.spec.specs.Lists.{Bytes, all, passes, faultless}
use Rattle.spec.specs.Instance.{Instance, served_at_departure}
use Rattle.spec.specs.Sections.{together, share_section}
use Rattle.spec.specs.Plan.{Plan, Move, run, absent, gone, is_absent, is_gone, runs, if_run, of_run, is_move, IsPlan, plan_fits, plan_length, plan_of, rule1, absent_before, departs, rule2, leaves_rightly, rule3, runs_on, rule4, keeps_calls, rule5, trains_meet, apart_in, rule6, served_by, rule_faults, keeps_rules}
use Rattle.spec.specs.Formula.{run_var, gone_var}
use Rattle.demands.proofs.Coding.{Codes}

-- ---- the rules

module _ (I : Instance) (p : Plan) where
  pub means1 : T (rule1 I p) ↔ ((n : ℕ) → n < I.nodes
      → (T (I.denied n) → T (p.border n) → ⊥) × (T (I.forced n) → T (p.border n)))
  unfolding rule1
  means1 = simp meaning Iff.rfl

  pub means2 : T (rule2 I p) ↔ ((i : ℕ) → i < I.trains
      → (((t : ℕ) → t < I.departure i → T (is_absent (p.move i t)))
      × ((t : ℕ) → I.departure i ≤ t → t < I.intervals → T (is_absent (p.move i t)) → ⊥))
      × T (runs (p.move i (I.departure i)) (I.given i)))
  unfolding rule2 departs absent_before
  means2 = simp meaning Iff.rfl

  pub means3 : T (rule3 I p) ↔ ((i : ℕ) → i < I.trains
      → ((t : ℕ) → t < I.departure i + 1 → T (is_gone (p.move i t)) → ⊥)
      × ((t : ℕ) → t < I.intervals - 1
      → (T (is_gone (p.move i (t + 1))) → T (is_gone (p.move i t)) ⊎ T (runs (p.move i t) (I.leaves i)))
      × (T (is_gone (p.move i t)) → T (is_gone (p.move i (t + 1))))))
  unfolding rule3 leaves_rightly
  means3 = simp meaning (simp or-iff Iff.rfl)

  pub means4 : T (rule4 I p) ↔ ((i : ℕ) → i < I.trains → (t : ℕ) → t < I.intervals - 1
      → T (if_run (p.move i t) λ r. if_run (p.move i (t + 1)) λ q. I.follows i r q))
  unfolding rule4 runs_on
  means4 = simp meaning Iff.rfl

  pub means5 : T (rule5 I p) ↔ ((i : ℕ) → i < I.trains → (c : ℕ) → c < I.calls i
      → T (served_at_departure I i c) ⊎ T (served_by I p i c))
  unfolding rule5 keeps_calls
  means5 = simp meaning (simp or-iff Iff.rfl)

  pub means6 : T (rule6 I p) ↔ ((t : ℕ) → t < I.intervals → (i : ℕ) → i < I.trains → (j : ℕ) → i + 1 ≤ j → j < I.trains
      → ((s : ℕ) × Memᴰ s (of_run (p.move i t) (I.path i))
      × ((u : ℕ) × Memᴰ u (of_run (p.move j t) (I.path j)) × T (together I p.border s u))) → ⊥)
  unfolding rule6 apart_in trains_meet share_section
  means6 = simp (meaning, any-iff) Iff.rfl

  -- the six rules, by name
  pub record Kept : Type 0 where
    pub one : T (rule1 I p)
    pub two : T (rule2 I p)
    pub three : T (rule3 I p)
    pub four : T (rule4 I p)
    pub five : T (rule5 I p)
    pub six : T (rule6 I p)

  pub kept : T (keeps_rules I p) → Kept
  unfolding keeps_rules rule_faults faultless passes all
  kept h =
      let k = simp (not-not, and-iff) at h in
      record { one = k.0; two = k.1.0; three = k.1.1.0; four = k.1.1.1.0; five = k.1.1.1.1.0; six = k.1.1.1.1.1.0 }

  pub from-kept : Kept → T (keeps_rules I p)
  unfolding keeps_rules rule_faults faultless passes all
  from-kept k = simp (not-not, and-iff) (k.one, (k.two, (k.three, (k.four, (k.five, (k.six, tt))))))

-- ---- moves

-- a move is a run, absent or gone
pub data IsMove (m : Move) : Type 0 where
  a_run : (r : ℕ) → m ≡ run r → IsMove m
  is_away : m ≡ absent → IsMove m
  has_left : m ≡ gone → IsMove m

pub which : (m : Move) → IsMove m
which (run r) = a_run r refl
which absent = is_away refl
which gone = has_left refl

pub run_of : (m : Move) (f : ℕ → Bool) → T (runs m f) → (r : ℕ) × (m ≡ run r) × T (f r)
unfolding runs
run_of (run r) f h = (r, refl, h)
run_of absent f h = absurd h
run_of gone f h = absurd h

pub gone_of : {m : Move} → T (is_gone m) → m ≡ gone
unfolding is_gone
gone_of {m = run r} h = absurd h
gone_of {m = absent} h = absurd h
gone_of {m = gone} h = refl

pub absent-of : {m : Move} → T (is_absent m) → m ≡ absent
unfolding is_absent
absent-of {m = run r} h = absurd h
absent-of {m = absent} h = refl
absent-of {m = gone} h = absurd h

pub is-run : (f : ℕ → Bool) {m : Move} {r : ℕ} → m ≡ run r → T (f r) → T (runs m f)
unfolding runs
is-run f e h = subst (λ (m : Move). T (runs m f)) (sym e) h

pub is-gone : {m : Move} → m ≡ gone → T (is_gone m)
unfolding is_gone
is-gone e = subst (λ (m : Move). T (is_gone m)) (sym e) tt

pub is-absent : {m : Move} → m ≡ absent → T (is_absent m)
unfolding is_absent
is-absent e = subst (λ (m : Move). T (is_absent m)) (sym e) tt

-- ---- bytes that 15 finds nothing wrong with

module _ (I : Instance) (s : Bytes) (fits : T (plan_fits I s)) where
  pub plan-long : length s ≡ plan_length I
  unfolding plan_fits
  plan-long = (simp (and-iff, eqb-iff) at fits).0.0

  pub nodes-inside : I.nodes ≤ length s
  unfolding plan_length
  nodes-inside = omega (arith, plan-long)

  -- they stand for a choice of moves
  pub fitting : IsPlan I (plan_of I s)
  unfolding plan_fits
  fitting i l t h = (simp (and-iff, all-up_to) at fits).1 i l t h

-- ---- what a valuation that codes a plan says

module _ (I : Instance) (α : ℕ → Bool) (p : Plan) (code : Codes I α p) (i : ℕ) (l : i < I.trains) (t : ℕ) (h : t < I.intervals) where
  -- a run's variable is true exactly where the move is that run
  pub run-true : (r : ℕ) → r < I.runs i → T (α (run_var I i t r)) → p.move i t ≡ run r
  run-true r k a =
      let found = run_of (p.move i t) (eqb r) (subst T (code.runs_same i l t h r k) a) in
      found.1 ∙ ap run (sym ((eqb-iff r found.0).0 found.2))

  pub true-run : (r : ℕ) → p.move i t ≡ run r → (r < I.runs i) × T (α (run_var I i t r))
  unfolding is_move runs
  true-run r e =
      let k : r < I.runs i = (ltb_iff r (I.runs i)).0 (subst (λ (m : Move). T (is_move I i m)) e (code.moves i l t h)) in
      (k, subst T (sym (code.runs_same i l t h r k ∙ ap (λ (m : Move). runs m (eqb r)) e)) (eqb_refl r))

  -- gone's variable is true exactly where the move is gone
  pub gone-true : T (α (gone_var I i t)) → p.move i t ≡ gone
  gone-true a = gone_of (subst T (code.gone_same i l t h) a)

  pub true-gone : p.move i t ≡ gone → T (α (gone_var I i t))
  unfolding is_gone
  true-gone e = subst T (sym (code.gone_same i l t h ∙ ap is_gone e)) tt
