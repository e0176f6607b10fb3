-- The rules of one train in the form of the loops that check them: one test an interval, of its move and the one before. Assumes
-- nothing.
use mathlib.Core.Path.{◌≡◌, sym, ap, ◌∙◌}
use mathlib.Core.Bool.{Bool, true, false, not, ◌&&◌, ◌||◌, cond}
use mathlib.Core.Logic.{inl, inr}
use Prim.Native.Nat.{ℕ, zero, suc, ◌+◌, ◌-◌, ◌≤◌, ◌<◌}
use native.Mathlib.Numerals.{add-one}
use native.Mathlib.Omega.{arith}
use lib.Dec.{T, ltb}
use Rattle.spec.specs.Lists.{all, up_to, range}
use Rattle.spec.specs.Instance.{Instance}
use Rattle.spec.specs.Plan.{Plan, Move, absent, is_absent, is_gone, runs, if_run, absent_before, leaves_rightly, runs_on}
use Rattle.laws.proofs.Tests.{bool-ext, and-iff, not_iff, implies-iff, ltb_iff, all-up_to, all-range, decide, true_of, denied-of}
use Rattle.laws.proofs.Tests.{le-or-lt}
use Rattle.laws.proofs.Loops.{all_start, all-turn, all-broken}

-- a turn of a loop that leaves with the first number that fails, by what a function answered of it
module _ (f : ℕ → Bool) {n k : ℕ} {whole answer : Bool} (h : whole ≡ all f (range k n)) (l : k < n) (e : answer ≡ f k) where
  pub all-fails : answer ≡ false → false ≡ whole
  all-fails t = all-broken f h l (sym e ∙ t)

  pub all-goes : answer ≡ true → whole ≡ all f (range (k + 1) n)
  all-goes t = all-turn f h l (sym e ∙ t)

not-below : (t d : ℕ) → T (not (ltb t d)) → d ≤ t
not-below t d b = elim (le-or-lt d t) [ inl x ↦ x | inr x ↦ absurd ((not_iff (ltb t d)).0 b ((ltb_iff t d).1 x)) ]

-- one test below d, another from d on
module _ (f g : ℕ → Bool) (d n : ℕ) (within : d ≤ n) where
  abbrev before : Bool
  before = all f (up_to d)

  abbrev after : Bool
  after = all g (range d n)

  abbrev whole : Bool
  whole = all (λ t. cond (ltb t d) (f t) (g t)) (up_to n)

  to : T (before && after) → T whole
  to k =
      let p = (and-iff before after).0 k in
      (all-up_to (λ t. cond (ltb t d) (f t) (g t)) n).1 λ t l.
      decide (ltb t d)
      (λ b. rw (true_of (ltb t d) b) ((all-up_to f d).0 p.0 t ((ltb_iff t d).0 b)))
      (λ b. rw (denied-of (ltb t d) b) ((all-range g d n).0 p.1 t (not-below t d b) l))

  back : T whole → T (before && after)
  back k =
      let each = (all-up_to (λ t. cond (ltb t d) (f t) (g t)) n).0 k in
      (and-iff before after).1 (
        (all-up_to f d).1 (λ t l. rw (true_of (ltb t d) ((ltb_iff t d).1 l)) at (each t (omega arith))),
        (all-range g d n).1 (λ t a l.
            let not-before = (not_iff (ltb t d)).1 (λ b. let x = (ltb_iff t d).0 b in omega arith) in
            rw (denied-of (ltb t d) not-before) at (each t l)),
      )

  pub merged : (before && after) ≡ whole
  merged = bool-ext (before && after) whole to back

-- ---- a move and the one before

module _ (m : ℕ → Move) where
  -- the move before an interval's, or absent before the first
  abbrev pub prior : ℕ → Move
  prior zero = absent
  prior (suc t) = m t

  pub prior-next : (t : ℕ) → prior (t + 1) ≡ m t
  prior-next t = ap prior (add-one t)

  -- a turn of a loop that holds the move before
  pub next-move : (f : ℕ → Bool) {n k : ℕ} {whole answer : Bool} → whole ≡ all f (range k n) → k < n → answer ≡ f k
      → {x : Move} → x ≡ m k → answer ≡ true → (whole ≡ all f (range (k + 1) n)) × (x ≡ prior (k + 1))
  next-move f {k = k} h l e moved t = (all-goes f h l e t, moved ∙ sym (prior-next k))

  -- what holds of absent and of every move holds of it
  pub prior-all : (P : Move → Type 0) → P absent → (n : ℕ) → ((t : ℕ) → t < n → P (m t)) → (t : ℕ) → t ≤ n → P (prior t)
  prior-all P a n each zero l = a
  prior-all P a n each (suc t) l = each t (omega arith)

  -- a test of each move and the one behind it, where nothing is asked of the first
  module _ (g : Move → Move → Bool) (n : ℕ) (free : (x : Move) → T (g absent x)) where
    abbrev behind : Bool
    behind = all (λ t. g (m t) (m (t + 1))) (up_to (n - 1))

    abbrev before' : Bool
    before' = all (λ t. g (prior t) (m t)) (up_to n)

    at_each : T behind → (t : ℕ) → t < n → T (g (prior t) (m t))
    at_each k zero l = free (m zero)
    at_each k (suc t) l = rw add-one at ((all-up_to (λ t. g (m t) (m (t + 1))) (n - 1)).0 k t (omega arith))

    at_next : T before' → (t : ℕ) → t < n - 1 → T (g (m t) (m (t + 1)))
    at_next k t l = rw add-one ((all-up_to (λ t. g (prior t) (m t)) n).0 k (suc t) (omega arith))

    pub shifted : behind ≡ before'
    shifted =
        bool-ext behind before'
        (λ k. (all-up_to (λ t. g (prior t) (m t)) n).1 (at_each k))
        (λ k. (all-up_to (λ t. g (m t) (m (t + 1))) (n - 1)).1 (at_next k))

-- ---- the rules of one train

-- rule 3, of a move and the one before: `leaves` says after which gone may follow
abbrev pub gone_step : (Move → Bool) → ℕ → ℕ → Move → Move → Bool
gone_step leaves d t was now = (not (is_gone now) || (ltb d t && (is_gone was || leaves was))) && (not (is_gone was) || is_gone now)

module _ (m : ℕ → Move) (leaves : Move → Bool) (d n : ℕ) (within : d < n) where
  abbrev early : ℕ → Bool
  early t = not (is_gone (m t))

  abbrev pair : ℕ → Bool
  pair t = (not (is_gone (m (t + 1))) || (is_gone (m t) || leaves (m t))) && (not (is_gone (m t)) || is_gone (m (t + 1)))

  abbrev step : ℕ → Bool
  step t = gone_step leaves d t (prior m t) (m t)

  abbrev rule : Bool
  rule = all early (up_to (d + 1)) && all pair (up_to (n - 1))

  -- gone is after the departure
  late : T (all early (up_to (d + 1))) → (t : ℕ) → T (is_gone (m t)) → T (ltb d t)
  late k t g =
      elim (le-or-lt t d)
      [ inl l ↦ absurd ((not_iff (is_gone (m t))).0 ((all-up_to early (d + 1)).0 k t (omega arith)) g) | inr l ↦ (ltb_iff d t).1 l ]

  step_of : T rule → (t : ℕ) → t < n → T (step t)
  unfolding is_gone
  step_of k zero l =
      let p = (and-iff (all early (up_to (d + 1))) (all pair (up_to (n - 1)))).0 k in
      let none = (all-up_to early (d + 1)).0 p.0 0 (omega arith) in
      simp (and-iff, implies-iff) (λ g. absurd ((not_iff (is_gone (m 0))).0 none g), λ g. absurd g)
  step_of k (suc t) l =
      let p = (and-iff (all early (up_to (d + 1))) (all pair (up_to (n - 1)))).0 k in
      let q = simp (add-one, and-iff, implies-iff) at ((all-up_to pair (n - 1)).0 p.1 t (omega arith)) in
      simp (and-iff, implies-iff) (λ g. (late p.0 (suc t) g, q.0 g), q.1)

  rule-of : T (all step (up_to n)) → T rule
  rule-of k =
      let each = (all-up_to step n).0 k in
      (and-iff (all early (up_to (d + 1))) (all pair (up_to (n - 1)))).1 (
        (all-up_to early (d + 1)).1 (λ t l. (not_iff (is_gone (m t))).1 (λ g.
            let s = simp (and-iff, implies-iff) at (each t (omega arith)) in
            let x = (ltb_iff d t).0 (s.0 g).0 in
            omega arith)),
        (all-up_to pair (n - 1)).1 (λ t l.
            let s = simp (and-iff, implies-iff) at (each (suc t) (omega arith)) in
            simp (add-one, and-iff, implies-iff) (λ g. (s.0 g).1, s.1)),
      )

  pub gone-steps : rule ≡ all step (up_to n)
  gone-steps = bool-ext rule (all step (up_to n)) (λ k. (all-up_to step n).1 (step_of k)) rule-of

module _ (I : Instance) (p : Plan) (i : ℕ) where
  abbrev m' : ℕ → Move
  m' = p.move i

  -- rule 2: whether an interval is absent exactly where it is before the departure
  abbrev pub absent_step : ℕ → ℕ → Bool
  absent_step d t = cond (ltb t d) (is_absent (m' t)) (not (is_absent (m' t)))

  pub absent-steps : {d n : ℕ} → I.departure i ≡ d → I.intervals ≡ n → d ≤ n → absent_before I p i ≡ all (absent_step d) (range 0 n)
  unfolding absent_before
  absent-steps {d} {n} e f l =
      rw (e, f) (merged (λ t. is_absent (m' t)) (λ t. not (is_absent (m' t))) d n l ∙ all_start (absent_step d) n)

  -- rule 3
  abbrev pub leave_step : ℕ → ℕ → Bool
  leave_step d t = gone_step (λ x. runs x (λ r. I.leaves i r)) d t (prior m' t) (m' t)

  pub leave-steps : {d n : ℕ} → I.departure i ≡ d → I.intervals ≡ n → d < n → leaves_rightly I p i ≡ all (leave_step d) (range 0 n)
  unfolding leaves_rightly
  leave-steps {d} {n} e f l = rw (e, f) (gone-steps m' (λ x. runs x (λ r. I.leaves i r)) d n l ∙ all_start (leave_step d) n)

  -- rule 4
  abbrev pub run_step : Move → Move → Bool
  run_step was now = if_run was (λ r. if_run now (λ q. I.follows i r q))

  free : (x : Move) → T (run_step absent x)
  unfolding if_run
  free x = tt

  pub run-steps : {n : ℕ} → I.intervals ≡ n → runs_on I p i ≡ all (λ t. run_step (prior m' t) (m' t)) (range 0 n)
  unfolding runs_on
  run-steps {n} f = rw f (shifted m' run_step n free ∙ all_start (λ t. run_step (prior m' t) (m' t)) n)
