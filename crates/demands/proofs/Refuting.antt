-- The step rule and the list of steps: the computed rule is the declarative one, a proved step follows from the clauses
-- before it, and so no valuation satisfies the clauses of an accepted file. Assumes nothing.
use mathlib.Core.Path.{◌≡◌, refl, sym, ap, ◌∙◌, subst, fun_ext}
use mathlib.Core.Logic.{◌↔◌, ◌⊎◌, inl, inr, ◌≢◌}
use mathlib.Core.Bool.{Bool, true, false, not, cond, true≢false, false≢true}
use Prim.Native.Nat.{ℕ, zero, suc, ◌+◌, ◌-◌, ◌<◌}
use native.Mathlib.Omega.{arith}
use mathlib.Core.List.{List, [], ◌∷◌, ◌++◌, append-nil}
use mathlib.Core.List.Memᴰ
use mathlib.Core.List.{Memᴰ}
use mathlib.Core.Option.{Option, none, some}
use lib.ListN.{length}
use lib.IntN.{pos, negsuc}
use lib.Dec.{T, leb, ltb, eqb, eqb→eq, eqb_refl, T_not, not_T}
use Rattle.spec.specs.Lists.{Bytes, any, all, only, pick, empty, first_fault, Verdict, accepted, refused}
use Rattle.spec.specs.Frames.{step_kind, step_length_fits, kind_field, payload_of, behind, cut_short}
use Rattle.spec.specs.Formula.{Literal, Clause}
use Rattle.spec.specs.Assignment.{Value, open', yes', no', deny, truth, is_yes, value_of, is_true, holds, satisfies}
use Rattle.spec.specs.Refutation.{ProofStep, variable_of, rises_from, literals_fit, hints_fit, Lent, clauses_fit}
use Rattle.spec.specs.Refutation.{Values, make_true, make_false, refuting, is_no, is_open, clause_at, not_false}
use Rattle.spec.specs.Refutation.{Hinted, proves, makes, useless, hinted, go_through, follows_rule}
use Rattle.spec.specs.Refutation.{AllFalse, Forces, Proves, at_last, onward, TakenFalse}
use Rattle.spec.specs.Refutation.{is_bad, step_faults, step_detail, check_steps, check_file}
pub use Rattle.demands.specs.Reasons.{step_at, added}
use Rattle.demands.proofs.Faults.{passes, first-none, clear_first}
use Rattle.laws.proofs.Tests.{and-iff, leb-iff, ltb_iff, eqb-iff, any-iff, decide, true_of, false_of, from-true, neither-iff, not-not-iff, all-at}
use Rattle.laws.proofs.Rows.{all_append, all_one}
use Rattle.laws.proofs.Frames.{length-behind}

-- a test is true or false
pub split {ℓ} : {X : Type ℓ} (b : Bool) → (b ≡ true → X) → (b ≡ false → X) → X
split true f g = f refl
split false f g = g refl

-- ---- the literals that are not false

-- a value is false or not
pub no-or-not : (v : Value) → (v ≡ no') ⊎ (not (is_no v) ≡ true)
unfolding is_no
no-or-not open' = inr refl
no-or-not yes' = inr refl
no-or-not no' = inl refl

open_is : (v : Value) → T (is_open v) → v ≡ open'
unfolding is_open
open_is open' h = refl
open_is yes' h = absurd h
open_is no' h = absurd h

is_open_lem : {v : Value} → v ≡ open' → is_open v ≡ true
unfolding is_open
is_open_lem e = ap is_open e

module _ (known : Values) where
  -- a false literal is passed over, any other is kept
  pub passed : (l : Literal) (c : Clause) → truth known l ≡ no' → not_false known (l ∷ c) ≡ not_false known c
  unfolding not_false pick only is_no
  passed l c e = rw e refl

  pub kept : (l : Literal) (c : Clause) → not (is_no (truth known l)) ≡ true → not_false known (l ∷ c) ≡ l ∷ not_false known c
  unfolding not_false pick only
  kept l c e = rw e refl

  false-nil : AllFalse known []
  false-nil l m = absurd (Memᴰ.not-nil m)

  false-cons : (l : Literal) (c : Clause) → truth known l ≡ no' → AllFalse known c → AllFalse known (l ∷ c)
  false-cons l c e f k m = elim (Memᴰ.cases_cons m) [ inl q ↦ rw q e | inr n ↦ f k n ]

  -- where all are false, none is left
  front-passed : (c d : Clause) → AllFalse known c → not_false known (c ++ d) ≡ not_false known d
  front-passed [] d f = refl
  front-passed (l ∷ c) d f = passed l (c ++ d) (f l (Memᴰ.head refl)) ∙ front-passed c d (λ k m. f k (Memᴰ.tail m))

  none_left : (c : Clause) → AllFalse known c → not_false known c ≡ []
  unfolding not_false pick
  none_left c f = ap (not_false known) (sym (append-nil c)) ∙ front-passed c [] f

  -- where none is left, all are false
  all-false : (c : Clause) → not_false known c ≡ [] → AllFalse known c
  all-false [] e = false-nil
  all-false (l ∷ c) e =
      elim (no-or-not (truth known l)) [
        | inl n ↦ false-cons l c n (all-false c (sym (passed l c n) ∙ e))
        | inr y ↦ (let q = sym (kept l c y) ∙ e in let z : ◌≡◌ {A = ℕ} 0 1 = cc in absurd (omega arith))
      ]

  -- where one is left and open, it is forced
  one-forced : (c : Clause) (l : Literal) → not_false known c ≡ l ∷ [] → truth known l ≡ open' → Forces known c l
  unfolding not_false pick
  one-forced [] l e o = let z : ◌≡◌ {A = ℕ} 0 1 = cc in absurd (omega arith)
  one-forced (k ∷ c) l e o =
      elim (no-or-not (truth known k)) [
        | inl n ↦ (let r = one-forced c l (sym (passed k c n) ∙ e) o in record {
          left = k ∷ r.left;
          right = r.right;
          parts = ap (λ (d : Clause). k ∷ d) r.parts;
          left_false = false-cons k r.left n r.left_false;
          right_false = r.right_false;
          is_open = o;
        })
        | inr y ↦ (let q = sym (kept k c y) ∙ e in let h : k ≡ l = cc in let t : not_false known c ≡ [] = cc in record {
          left = [];
          right = c;
          parts = ap (λ (m : Literal). m ∷ c) h;
          left_false = false-nil;
          right_false = all-false c t;
          is_open = o;
        })
      ]

  -- where one is forced, it is left alone
  forced-one : (c : Clause) (l : Literal) → Forces known c l → not_false known c ≡ l ∷ []
  unfolding is_no
  forced-one c l r =
      ap (not_false known) r.parts
      ∙ front-passed r.left (l ∷ r.right) r.left_false
      ∙ kept l r.right (ap (λ (v : Value). not (is_no v)) r.is_open)
      ∙ ap (λ (d : Clause). l ∷ d) (none_left r.right r.right_false)

-- ---- the computed rule is the declarative one

-- how the walk goes on behind a hint
after_hint : List Clause → Values → List ℕ → Hinted → Bool
after_hint cs known hs x = elim x [ proves ↦ empty hs | makes l ↦ go_through cs (make_true known l) hs | useless ↦ false ]

-- the walk at a hint, by the literals that are not false
at-hint : (cs : List Clause) (known : Values) (h : ℕ) (hs : List ℕ) {ms : Clause} → not_false known (clause_at cs h) ≡ ms
    → go_through cs known (h ∷ hs) ≡ after_hint cs known hs (hinted known ms)
unfolding go_through after_hint
at-hint cs known h hs e = ap (λ (k : Clause). after_hint cs known hs (hinted known k)) e

-- a single literal, by whether it is open
hinted-one : (known : Values) (l : Literal) (b : Bool) → is_open (truth known l) ≡ b
    → hinted known (l ∷ []) ≡ elim b [ true ↦ makes l | false ↦ useless ]
unfolding hinted
hinted-one known l b e = ap (λ (x : Bool). elim x as (λ y. Hinted) [ true ↦ makes l | false ↦ useless ]) e

hint-to : (cs : List Clause) (known : Values) (h : ℕ) (hs : List ℕ) (ms : Clause) → not_false known (clause_at cs h) ≡ ms
    → ((l : Literal) → T (go_through cs (make_true known l) hs) → Proves cs (make_true known l) hs)
    → T (after_hint cs known hs (hinted known ms)) → Proves cs known (h ∷ hs)
unfolding after_hint hinted empty
hint-to cs known h [] [] e next t = at_last (all-false known (clause_at cs h) e)
hint-to cs known h (g ∷ hs) [] e next t = absurd t
hint-to cs known h hs (l ∷ []) e next t = split (is_open (truth known l))
    (λ o. onward l (one-forced known (clause_at cs h) l e (open_is (truth known l) (from-true o)))
    (next l (rw (hinted-one known l true o) at t)))
    (λ o. absurd (rw (hinted-one known l false o) at t))
hint-to cs known h hs (l ∷ m ∷ ms) e next t = absurd t

through-to : (cs : List Clause) (known : Values) (hs : List ℕ) → T (go_through cs known hs) → Proves cs known hs
unfolding go_through
through-to cs known [] t = absurd t
through-to cs known (h ∷ hs) t =
    hint-to cs known h hs (not_false known (clause_at cs h)) refl (λ l. through-to cs (make_true known l) hs)
    (subst T (at-hint cs known h hs refl) t)

through-from : {cs : List Clause} {known : Values} {hs : List ℕ} → Proves cs known hs → T (go_through cs known hs)
unfolding after_hint hinted empty
through-from {cs} (at_last {known} {h} f) = rw (at-hint cs known h [] (none_left known (clause_at cs h) f)) tt
through-from {cs} (onward {known} {h} {hs} l f p) =
    rw (at-hint cs known h hs (forced-one known (clause_at cs h) l f), hinted-one known l true (is_open_lem f.is_open)) (through-from p)

pub through-iff : (cs : List Clause) (known : Values) (hs : List ℕ) → T (go_through cs known hs) ↔ Proves cs known hs
through-iff cs known hs = (through-to cs known hs, through-from)

-- ---- the values at the start of a step

-- a value that is put at one variable
put_same : (known : Values) (v : ℕ) (x : Value) → cond (eqb v v) x (known v) ≡ x
put_same known v x = rw (true_of (eqb v v) (eqb_refl v)) refl

put_other : (known : Values) (u v : ℕ) (x : Value) → u ≢ v → cond (eqb u v) x (known u) ≡ known u
put_other known u v x n = rw (false_of (eqb u v) (λ t. n (eqb→eq u v t))) refl

make_false-other : (known : Values) (l : Literal) (v : ℕ) → variable_of l ≢ suc v → make_false known l v ≡ known v
unfolding make_false variable_of
make_false-other known (pos zero) v n = refl
make_false-other known (pos (suc u)) v n = put_other known v u no' (λ e. n (ap suc (sym e)))
make_false-other known (negsuc u) v n = put_other known v u yes' (λ e. n (ap suc (sym e)))

-- the literal that is made false is false
make_false-false : (known : Values) (l : Literal) → truth (make_false known l) l ≡ no'
unfolding make_false truth deny
make_false-false known (pos zero) = refl
make_false-false known (pos (suc v)) = put_same known v no'
make_false-false known (negsuc v) = ap deny (put_same known v yes')

-- a literal of another variable stays as it is
make_false-keeps : (known : Values) (k l : Literal) → variable_of k ≢ variable_of l → truth (make_false known k) l ≡ truth known l
unfolding truth variable_of
make_false-keeps known k (pos zero) n = refl
make_false-keeps known k (pos (suc v)) n = make_false-other known k v n
make_false-keeps known k (negsuc v) n = ap deny (make_false-other known k v n)

-- rising literals are all above the one before
rises-above : (vars low : ℕ) (c : Clause) → T (rises_from vars low c) → (l : Literal) → Memᴰ l c → low < variable_of l
unfolding rises_from
rises-above vars low [] h l m = absurd (Memᴰ.not-nil m)
rises-above vars low (x ∷ c) h l m =
    let p = simp (and-iff, ltb_iff) at h in
    elim (Memᴰ.cases_cons m)
    [ inl e ↦ rw e p.0.0 | inr n ↦ (let r = rises-above vars (variable_of x) c p.1 l n in omega (arith, p.0.0)) ]

refuting-false : (vars low : ℕ) (c : Clause) → T (rises_from vars low c) → AllFalse (refuting c) c
unfolding rises_from refuting
refuting-false vars low [] h = false-nil (refuting [])
refuting-false vars low (x ∷ c) h =
    let p = simp and-iff at h in
    false-cons (refuting (x ∷ c)) x c (make_false-false (refuting c) x) λ l m.
    let r = rises-above vars (variable_of x) c p.1 l m in
    make_false-keeps (refuting c) x l (omega arith) ∙ refuting-false vars (variable_of x) c p.1 l m

refuting-open : (c : Clause) (v : ℕ) → ((l : Literal) → Memᴰ l c → variable_of l ≢ suc v) → refuting c v ≡ open'
unfolding refuting
refuting-open [] v h = refl
refuting-open (x ∷ c) v h =
    make_false-other (refuting c) x v (h x (Memᴰ.head refl)) ∙ refuting-open c v (λ l m. h l (Memᴰ.tail m))

-- "take each literal of the step false, every other variable open": the computed values are so
pub refuting-taken : (vars : ℕ) (c : Clause) → T (literals_fit vars c) → TakenFalse c (refuting c)
unfolding literals_fit
refuting-taken vars c h = record { all_false = refuting-false vars 0 c h; others_open = refuting-open c }

deny-deny : (x : Value) → deny (deny x) ≡ x
unfolding deny
deny-deny open' = refl
deny-deny yes' = refl
deny-deny no' = refl

deny-same : (x y : Value) → deny x ≡ deny y → x ≡ y
deny-same x y e = sym (deny-deny x) ∙ ap deny e ∙ deny-deny y

-- two rows of values in which a literal is false agree at its variable
false_same : (k k' : Values) (l : Literal) (v : ℕ) → variable_of l ≡ suc v → truth k l ≡ no' → truth k' l ≡ no' → k v ≡ k' v
unfolding truth variable_of
false_same k k' (pos zero) v e a b = absurd (omega arith)
false_same k k' (pos (suc u)) v e a b = let p : u ≡ v = omega arith in rw (← p) (a ∙ sym b)
false_same k k' (negsuc u) v e a b = let p : u ≡ v = omega arith in rw (← p) (deny-same (k u) (k' u) (a ∙ sym b))

-- there is one such row only
pub taken-unique : (c : Clause) (k k' : Values) → TakenFalse c k → TakenFalse c k' → k ≡ k'
taken-unique c k k' a b = fun_ext λ v.
    let of_v : Literal → Bool = λ l. eqb (variable_of l) (suc v) in
    decide (any of_v c)
    (λ t. let r = (any-iff of_v c).0 t in
    false_same k k' r.0 v (eqb→eq (variable_of r.0) (suc v) r.2) (a.all_false r.0 r.1) (b.all_false r.0 r.1))
    (λ n. let other : (l : Literal) → Memᴰ l c → variable_of l ≢ suc v
    = λ l m e. T_not (any of_v c) n ((any-iff of_v c).1 (l, m, (eqb-iff (variable_of l) (suc v)).1 e)) in
    a.others_open v other ∙ sym (b.others_open v other))

-- the computed step rule is the declarative one, both ways
pub rule-iff : (vars : ℕ) (cs : List Clause) (s : ProofStep) → T (literals_fit vars s.literals)
    → T (follows_rule cs s) ↔ ((start : Values) × TakenFalse s.literals start × Proves cs start s.hints)
unfolding follows_rule
rule-iff vars cs s fit = (
  λ t. (refuting s.literals, refuting-taken vars s.literals fit, through-to cs _ s.hints t),
  λ r. let e = taken-unique s.literals r.0 _ r.1 (refuting-taken vars s.literals fit) in
      through-from (subst (λ (k : Values). Proves cs k s.hints) e r.2),
)

-- ---- a proved step follows from the clauses

-- the values that a valuation gives
abbrev valuation : (ℕ → Bool) → Values
valuation α = λ v. value_of (α v)

-- what is known is so
Agrees : (ℕ → Bool) → Values → Type 0
Agrees α known = (v : ℕ) → (known v ≡ open') ⊎ (known v ≡ value_of (α v))

yes-is : (v : Value) → T (is_yes v) → v ≡ yes'
unfolding is_yes
yes-is open' h = absurd h
yes-is yes' h = refl
yes-is no' h = absurd h

module _ (α : ℕ → Bool) where
  -- a literal that is known to be false is false
  agrees-false : (known : Values) → Agrees α known → (l : Literal) → truth known l ≡ no' → truth (valuation α) l ≡ no'
  unfolding Agrees truth deny
  agrees-false known a (pos zero) h = refl
  agrees-false known a (pos (suc v)) h =
      elim (a v) [ inl e ↦ (let z : ◌≡◌ {A = ℕ} 0 1 = cc in absurd (omega arith)) | inr e ↦ sym e ∙ h ]
  agrees-false known a (negsuc v) h =
      elim (a v)
      [ inl e ↦ (let p = sym (ap deny e) ∙ h in let z : ◌≡◌ {A = ℕ} 0 1 = cc in absurd (omega arith)) | inr e ↦ ap deny (sym e) ∙ h ]

  agrees-put : (known : Values) (v : ℕ) (x : Value) → x ≡ value_of (α v) → Agrees α known
      → Agrees α (λ u. cond (eqb u v) x (known u))
  unfolding Agrees
  agrees-put known v x e a u = split (eqb u v)
      (λ p. let q = eqb→eq u v (from-true p) in rw p (inr (rw q e)))
      (λ p. rw p (a u))

  agrees-make_true : (known : Values) (l : Literal) → truth (valuation α) l ≡ yes' → Agrees α known → Agrees α (make_true known l)
  unfolding make_true truth deny
  agrees-make_true known (pos zero) e a = a
  agrees-make_true known (pos (suc v)) e a = agrees-put known v yes' (sym e) a
  agrees-make_true known (negsuc v) e a = agrees-put known v no' (deny-same no' (value_of (α v)) (sym e)) a

  agrees-make_false : (known : Values) (l : Literal) → truth (valuation α) l ≡ no' → Agrees α known → Agrees α (make_false known l)
  unfolding make_false truth deny
  agrees-make_false known (pos zero) e a = a
  agrees-make_false known (pos (suc v)) e a = agrees-put known v no' (sym e) a
  agrees-make_false known (negsuc v) e a = agrees-put known v yes' (deny-same yes' (value_of (α v)) (sym e)) a

  -- where a valuation makes the step false, the values at its start agree with it
  agrees-refuting : (c : Clause) → AllFalse (valuation α) c → Agrees α (refuting c)
  unfolding refuting Agrees
  agrees-refuting [] h = λ v. inl refl
  agrees-refuting (l ∷ c) h =
      agrees-make_false (refuting c) l (h l (Memᴰ.head refl)) (agrees-refuting c (λ k m. h k (Memᴰ.tail m)))

  -- a literal that is not true is false
  not-true : (l : Literal) → T (not (is_true α l)) → truth (valuation α) l ≡ no'
  unfolding is_true truth is_yes value_of deny
  not-true (pos zero) h = refl
  not-true (pos (suc v)) h = split (α v) (λ e. absurd (rw e at h)) (λ e. rw e refl)
  not-true (negsuc v) h = split (α v) (λ e. rw e refl) (λ e. absurd (rw e at h))

  -- and so is each literal of a clause that does not hold
  not-holds : (c : Clause) → T (not (holds α c)) → AllFalse (valuation α) c
  unfolding holds
  not-holds c n l m = not-true l (not_T (is_true α l) (λ t. T_not (holds α c) n ((any-iff (is_true α) c).1 (l, m, t))))

  -- a clause with a true literal is not all false
  not-all-false : (c : Clause) → T (holds α c) → AllFalse (valuation α) c → ⊥
  unfolding holds is_true is_yes
  not-all-false c h f =
      let r = (any-iff (is_true α) c).0 h in
      let e = f r.0 r.1 in rw e at r.2

  -- the one literal of a true clause that is not known to be false is true
  forced-true : (known : Values) (c : Clause) (l : Literal) → Agrees α known → T (holds α c) → Forces known c l
      → truth (valuation α) l ≡ yes'
  unfolding is_true
  forced-true known c l a h r = decide (is_true α l) (yes-is (truth (valuation α) l))
      (λ n. absurd (not-all-false c h λ k m.
      elim (Memᴰ.append_cases r.left (subst (Memᴰ k) r.parts m)) [
        | inl q ↦ agrees-false known a k (r.left_false k q)
        | inr q ↦ elim (Memᴰ.cases_cons q)
            [ inl e ↦ rw e (not-true l n) | inr t ↦ agrees-false known a k (r.right_false k t) ]
      ]))

  module _ (cs : List Clause) (sat : T (satisfies α cs)) where
    -- a clause that a hint may name is true
    named-true : (h : ℕ) → T (leb 1 h) × T (ltb h (length cs + 1)) → T (holds α (clause_at cs h))
    unfolding clause_at satisfies
    named-true h b = let p = simp leb-iff at b in all-at (holds α) cs (h - 1) [] sat (omega arith)

    -- hints never prove a step from values that agree with a valuation of all the clauses
    never-proves : {known : Values} {hs : List ℕ} → Proves cs known hs → T (hints_fit (length cs + 1) hs) → Agrees α known → ⊥
    unfolding hints_fit all
    never-proves (at_last {known} {h} f) b a =
        let p = simp and-iff at b in
        not-all-false (clause_at cs h) (named-true h p.0) (λ l m. agrees-false known a l (f l m))
    never-proves (onward {known} {h} {hs} l f p) b a =
        let q = simp and-iff at b in
        never-proves p q.1 (agrees-make_true known l (forced-true known (clause_at cs h) l a (named-true h q.0) f) a)

  -- the step rule is sound
  pub step-sound : (cs : List Clause) (s : ProofStep) → T (follows_rule cs s) → T (hints_fit (length cs + 1) s.hints)
      → T (satisfies α cs) → T (holds α s.literals)
  unfolding follows_rule
  step-sound cs s r b sat = decide (holds α s.literals) (λ t. t)
      (λ n. absurd (never-proves cs sat (through-to cs _ s.hints r) b (agrees-refuting s.literals (not-holds s.literals n))))

-- ---- a file that is accepted

-- What a step that passes has: its frame is whole and of its kind, and no fault holds.
pub record Passes (lent : Lent) (vars : ℕ) (cs : List Clause) (s : Bytes) : Type 0 where
  pub whole : T (not (cut_short s))
  pub kind : kind_field s ≡ step_kind
  pub sized : T (step_length_fits (payload_of s))
  pub literals_good : T (literals_fit vars (step_at s).literals)
  pub hints_good : T (hints_fit (length cs + 1) (step_at s).hints)
  pub room : T (clauses_fit lent (added cs s))
  pub rule : T (follows_rule cs (step_at s))

passes-iff : (lent : Lent) (vars : ℕ) (cs : List Clause) (s : Bytes)
    → first_fault (step_faults lent vars cs s) ≡ none ↔ Passes lent vars cs s
unfolding step_faults is_bad all passes
passes-iff lent vars cs s = (
  λ e. let p = simp (and-iff, neither-iff, not-not-iff, eqb-iff) at (first-none (step_faults lent vars cs s) e) in record {
    whole = p.0.0.0;
    kind = p.0.0.1;
    sized = p.0.1;
    literals_good = p.1.0;
    hints_good = p.1.1.0;
    room = p.1.1.1.0;
    rule = p.1.1.1.1.0;
  },
  λ r. clear_first (step_faults lent vars cs s) (simp (and-iff, neither-iff, not-not-iff, eqb-iff)
      (((r.whole, r.kind), r.sized), (r.literals_good, (r.hints_good, (r.room, (r.rule, tt)))))),
)

-- The steps of an accepted file, from the clauses that the first of them may name.
pub data Accepts (lent : Lent) (vars : ℕ) : List Clause → Bytes → Type 0 where
  last_step : {cs : List Clause} {s : Bytes} → Passes lent vars cs s → (step_at s).literals ≡ [] → behind s ≡ []
      → Accepts lent vars cs s
  more_steps : {cs : List Clause} {s : Bytes} → Passes lent vars cs s → (step_at s).literals ≢ []
      → Accepts lent vars (added cs s) (behind s) → Accepts lent vars cs s

-- ---- the walk over the steps

-- `check_steps` at one step, by the four tests that it makes
unfoldable pub one_step : Lent → ℕ → ℕ → ℕ → List Clause → Bytes → Bool → Option ℕ → Bool → Bool → Verdict (Unit {0})
one_step lent vars fuel step cs s none' fault last' end' =
    elim none' [
      | true ↦ refused 21 0
      | false ↦ elim fault [
        | some n ↦ refused n (step_detail n step)
        | none ↦ elim last' [
          | true ↦ elim end' [ true ↦ accepted tt | false ↦ refused 21 0 ]
          | false ↦ check_steps lent vars fuel (suc step) (added cs s) (behind s)
        ]
      ]
    ]

refused-not : {n d : ℕ} → ◌≡◌ {A = Verdict (Unit {0})} (refused n d) (accepted tt) → ⊥
refused-not h = let z : ◌≡◌ {A = ℕ} 0 1 = cc in absurd (omega arith)

nil-empty {ℓ} : {A : Type ℓ} {xs : List A} → xs ≡ [] → empty xs ≡ true
unfolding empty
nil-empty e = ap empty e

empty-nil {ℓ} : {A : Type ℓ} (xs : List A) → empty xs ≡ true → xs ≡ []
unfolding empty
empty-nil [] e = refl
empty-nil (x ∷ xs) e = absurd (false≢true e)

empty-cons {ℓ} : {A : Type ℓ} (xs : List A) → empty xs ≡ false → xs ≢ []
empty-cons xs e n = true≢false (sym (nil-empty n) ∙ e)

cons-empty {ℓ} : {A : Type ℓ} (xs : List A) → xs ≢ [] → empty xs ≡ false
unfolding empty
cons-empty [] n = absurd (n refl)
cons-empty (x ∷ xs) n = refl

-- a whole frame has some bytes
whole-some : (s : Bytes) → T (not (cut_short s)) → empty s ≡ false
unfolding cut_short empty
whole-some [] h = absurd h
whole-some (x ∷ s) h = refl

module _ (lent : Lent) (vars : ℕ) where
  -- the four tests at the start of s, with what they give
  pub record Tested (cs : List Clause) (s : Bytes) (none' : Bool) (fault : Option ℕ) (last' end' : Bool) : Type 0 where
    pub no_step : empty s ≡ none'
    pub faults : first_fault (step_faults lent vars cs s) ≡ fault
    pub is_last : empty (step_at s).literals ≡ last'
    pub is_end : empty (behind s) ≡ end'

  tested : (cs : List Clause) (s : Bytes)
      → Tested cs s (empty s) (first_fault (step_faults lent vars cs s)) (empty (step_at s).literals) (empty (behind s))
  tested cs s = record { no_step = refl; faults = refl; is_last = refl; is_end = refl }

  pub at-step : (fuel step : ℕ) (cs : List Clause) (s : Bytes) {n : Bool} {f : Option ℕ} {l e : Bool} → Tested cs s n f l e
      → check_steps lent vars (suc fuel) step cs s ≡ one_step lent vars fuel step cs s n f l e
  unfolding check_steps one_step
  at-step fuel step cs s t = λ i. one_step lent vars fuel step cs s (t.no_step i) (t.faults i) (t.is_last i) (t.is_end i)

  -- one step of what is accepted
  accept-one : (fuel step : ℕ) (cs : List Clause) (s : Bytes) (n : Bool) (f : Option ℕ) (l e : Bool) → Tested cs s n f l e
      → (check_steps lent vars fuel (suc step) (added cs s) (behind s) ≡ accepted tt → Accepts lent vars (added cs s) (behind s))
      → one_step lent vars fuel step cs s n f l e ≡ accepted tt → Accepts lent vars cs s
  unfolding one_step
  accept-one fuel step cs s true f l e t next h = absurd (refused-not h)
  accept-one fuel step cs s false (some k) l e t next h = absurd (refused-not h)
  accept-one fuel step cs s false none true true t next h =
      last_step ((passes-iff lent vars cs s).0 t.faults) (empty-nil _ t.is_last) (empty-nil (behind s) t.is_end)
  accept-one fuel step cs s false none true false t next h = absurd (refused-not h)
  accept-one fuel step cs s false none false e t next h =
      more_steps ((passes-iff lent vars cs s).0 t.faults) (empty-cons _ t.is_last) (next h)

  -- what is accepted has steps that pass
  pub accept-to : (fuel step : ℕ) (cs : List Clause) (s : Bytes) → check_steps lent vars fuel step cs s ≡ accepted tt
      → Accepts lent vars cs s
  unfolding check_steps
  accept-to zero step cs s h = absurd (refused-not h)
  accept-to (suc fuel) step cs s h =
      let t = tested cs s in
      accept-one fuel step cs s _ _ _ _ t (accept-to fuel (suc step) (added cs s) (behind s)) (sym (at-step fuel step cs s t) ∙ h)

  -- and the other way, where there is fuel enough
  pub accept-from : (fuel step : ℕ) {cs : List Clause} {s : Bytes} → Accepts lent vars cs s → length s < fuel
      → check_steps lent vars fuel step cs s ≡ accepted tt
  unfolding one_step
  accept-from zero step a h = absurd (omega arith)
  accept-from (suc fuel) step (last_step {cs} {s} p l b) h =
      at-step fuel step cs s (record
      { no_step = whole-some s p.whole; faults = (passes-iff lent vars cs s).1 p; is_last = nil-empty l; is_end = nil-empty b })
  accept-from (suc fuel) step (more_steps {cs} {s} p l a) h =
      at-step fuel step cs s (record
      { no_step = whole-some s p.whole; faults = (passes-iff lent vars cs s).1 p; is_last = cons-empty _ l; is_end = refl })
      ∙ accept-from fuel (suc step) a (let r = length-behind s p.whole in omega arith)

  -- one step with other fuel
  same-one : (f g step : ℕ) (cs : List Clause) (s : Bytes) (n : Bool) (fault : Option ℕ) (l e : Bool) → Tested cs s n fault l e
      → (T (not (cut_short s))
      → check_steps lent vars f (suc step) (added cs s) (behind s) ≡ check_steps lent vars g (suc step) (added cs s) (behind s))
      → one_step lent vars f step cs s n fault l e ≡ one_step lent vars g step cs s n fault l e
  unfolding one_step
  same-one f g step cs s true fault l e t next = refl
  same-one f g step cs s false (some k) l e t next = refl
  same-one f g step cs s false none true e t next = refl
  same-one f g step cs s false none false e t next = next ((passes-iff lent vars cs s).0 t.faults).whole

  -- fuel never matters: a frame has four bytes at least
  pub fuel-free : (f g step : ℕ) (cs : List Clause) (s : Bytes) → length s < f → length s < g
      → check_steps lent vars f step cs s ≡ check_steps lent vars g step cs s
  fuel-free zero g step cs s a b = absurd (omega arith)
  fuel-free (suc f) zero step cs s a b = absurd (omega arith)
  fuel-free (suc f) (suc g) step cs s a b =
      let t = tested cs s in
      at-step f step cs s t
      ∙ same-one f g step cs s _ _ _ _ t
      (λ w. let r = length-behind s w in fuel-free f g (suc step) (added cs s) (behind s) (omega arith) (omega arith))
      ∙ sym (at-step g step cs s t)

  -- the steps of an accepted file leave no valuation
  never-accepts : {cs : List Clause} {s : Bytes} → Accepts lent vars cs s → (α : ℕ → Bool) → T (satisfies α cs) → ⊥
  unfolding satisfies holds any
  never-accepts (last_step {cs} {s} p l b) α sat =
      rw l at (step-sound α cs (step_at s) p.rule p.hints_good sat)
  never-accepts (more_steps {cs} {s} p l a) α sat =
      never-accepts a α (simp (all_append, all_one, and-iff) (sat, step-sound α cs (step_at s) p.rule p.hints_good sat))

  -- an accepted file refutes the clauses
  pub refuted : (cs : List Clause) (s : Bytes) → check_file lent vars cs s ≡ accepted tt → (α : ℕ → Bool) → T (satisfies α cs) → ⊥
  unfolding check_file
  refuted cs s h = never-accepts (accept-to (suc (length s)) 1 cs s h)
