-- What a variable of the numbering stands for, by the numbers that the code finds it with: the interval of a train that it is in, and
-- its place there. Assumes nothing.
use mathlib.Core.Path.{◌≡◌, refl, sym, ap, ◌∙◌, subst}
use mathlib.Core.Logic.{inl, inr}
use mathlib.Core.Option.{Option}
use Prim.Native.Nat.{ℕ, zero, suc, ◌+◌, ◌*◌, ◌-◌, ◌/◌, ◌%◌, ◌≤◌, ◌<◌}
use native.Mathlib.Nat.{div-lt_iff_lt-mul, div-mul-le_self, lt-suc_self, suc-mul, mul-zero, div-add-mod', mod-lt}
use native.Mathlib.Omega.{arith}
use lib.ListN.{get_or}
use Rattle.spec.specs.Lists.{accepted}
use Rattle.spec.specs.Instance.{Instance, free_nodes_of, under}
use Rattle.spec.specs.Cap.{counter_of, count_var}
use Rattle.spec.specs.Formula.{width, first_var, base, border_var, run_var, gone_var, claim_var, own_variables, variables}
use Rattle.spec.specs.Library.{Meaning, border, run, gone, claim, counted, no_variable, meaning_of}
use Rattle.gentupag.specs.Answers.{variable_answer}
use Rattle.demands.proofs.Variables.{border-stands, run-stands, gone-stands, claim-stands, count-stands, none-stands}

-- a number among m rows of w, the first of which starts at x: the row that it is in
module _ (x w m at : ℕ) (wide : 0 < w) (from : x ≤ at) (below : at < x + m * w) where
  pub row_inside : (at - x) / w < m
  row_inside = (div-lt_iff_lt-mul wide).1 (omega arith)

  pub row_from : x + (at - x) / w * w ≤ at
  row_from = omega (arith, div-mul-le_self (at - x) w)

  pub row-to : at < x + (at - x) / w * w + w
  row-to = omega (arith, (div-lt_iff_lt-mul wide).0 (lt-suc_self ((at - x) / w)), suc-mul ((at - x) / w) w)

-- the answer, from what the variable stands for
pub answered : {m n : Meaning} → m ≡ n → variable_answer (accepted n) ≡ variable_answer (accepted m)
answered e = ap (λ (m : Meaning). variable_answer (accepted m)) (sym e)

-- a cap moves no interval's variables
module _ (cap : Option ℕ) (I : Instance) where
  pub base-under : (i t : ℕ) → base I i t ≡ base (under cap I) i t
  unfolding base first_var width
  base-under i t = refl

  pub width-under : (i : ℕ) → width I i ≡ width (under cap I) i
  unfolding width
  width-under i = refl

-- rows that hold a number are not empty
pub some-spare : (most spare p : ℕ) → p < most * spare → 0 < spare
some-spare most zero p h = let z = mul-zero most in let no' : ⊥ = omega (arith, h, z) in absurd no'
some-spare most (suc s) p h = omega arith

module _ (I : Instance) where
  -- no variable, and a border
  pub none-at : (v : ℕ) → v ≡ 0 → meaning_of I v ≡ no_variable
  none-at v e = (none-stands I v).1 (inl e)

  pub none-behind : (v : ℕ) → variables I < v → meaning_of I v ≡ no_variable
  none-behind v h = (none-stands I v).1 (inr h)

  -- a variable of the counter, behind the `own` others: its row and its place there
  pub count_at : (own at : ℕ) {most spare : ℕ} → own ≡ own_variables I → most ≡ (counter_of I).most → spare ≡ (counter_of I).spare → own ≤ at
      → at - own < most * spare
      → meaning_of I (suc at) ≡ counted (get_or (free_nodes_of I) ((at - own) / spare + (at - own) % spare) 0) (suc ((at - own) / spare))
  unfolding count_var
  count_at own at {most} {spare} o m s from below =
      let p = at - own in
      let j = p / spare in
      let k = p % spare in
      let wide : 0 < spare = some-spare most spare p below in
      let row : j < most = (div-lt_iff_lt-mul wide).1 below in
      let place : j * spare + k ≡ p = div-add-mod' p spare in
      ap (λ (k : ℕ). meaning_of I (suc k)) (omega (arith, place, o, from))
      ∙ subst (λ (n : ℕ). meaning_of I (suc (own_variables I + (j * n + k))) ≡ counted (get_or (free_nodes_of I) (j + k) 0) (suc j)) (sym s)
      (count-stands I j (subst (λ (n : ℕ). j < n) m row) k (subst (λ (n : ℕ). k < n) s (mod-lt p {m = spare} wide)))

  pub border-at : (v : ℕ) → 0 < v → v - 1 < I.nodes → meaning_of I v ≡ border (v - 1)
  unfolding border_var
  border-at v h k = ap (meaning_of I) (omega arith) ∙ border-stands I (v - 1) k

  -- a variable of the interval t of train i, which has n runs; x is the interval's first variable
  module _ (i t at : ℕ) (l : i < I.trains) (h : t < I.intervals) {n x : ℕ} (e : n ≡ I.runs i) (f : x ≡ base I i t) where
    pub run_at : x ≤ at → at < x + n → meaning_of I (suc at) ≡ run i t (at - x)
    unfolding run_var
    run_at a z = ap (λ (k : ℕ). meaning_of I (suc k)) (omega arith) ∙ run-stands I i l t h (at - x) (omega arith)

    pub gone_at : at ≡ x + n → meaning_of I (suc at) ≡ gone i t
    unfolding gone_var
    gone_at a = ap (λ (k : ℕ). meaning_of I (suc k)) (omega arith) ∙ gone-stands I i l t h

    pub claim-at : {y : ℕ} → y ≡ x + (n + 1) → x + n < at → at < x + width I i → meaning_of I (suc at) ≡ claim i t (at - y)
    unfolding claim_var width
    claim-at {y} c a z = ap (λ (k : ℕ). meaning_of I (suc k)) (omega arith) ∙ claim-stands I i l t h (at - y) (omega arith)
