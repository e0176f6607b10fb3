-- What a variable stands for is what the formula's numbering has there: a border, a run, gone or a claim is the meaning of its own
-- variable (`border-stands`, `run-stands`, `gone-stands`, `claim-stands`, under a cap `count-stands`), and no number but these has a meaning (`none-stands`).
-- `meaning_of` counts from 1 and the numbering from 0. Assumes nothing.
use mathlib.Core.Path.{◌≡◌, refl, sym, ap, ap₂, ◌∙◌, subst}
use mathlib.Core.Logic.{◌↔◌, ◌⊎◌, inl, inr}
use mathlib.Core.Bool.{Bool, true, false}
use mathlib.Core.Option.{Option}
use Prim.Native.Nat.{ℕ, zero, suc, ◌+◌, ◌*◌, ◌<◌}
use native.Mathlib.Nat.{add-zero}
use native.Mathlib.Omega.{arith}
use mathlib.Core.List.{List, ◌∷◌, ◌++◌, map, append_assoc}
use lib.ListN.{length, get_or, length-append, length-map, get_or-append, get_or-eq_default}
use lib.Seq.{get_or-append-add}
use lib.Dec.{T}
use Rattle.laws.proofs.Tests.{meaning, all-at, le-or-lt}
use Rattle.laws.proofs.Rows.{rows}
use Rattle.laws.proofs.Parts.{Part, part-here, part-behind, part_in, part_at, part-each, length-each, length-up_to, sum-constant, map_at}
use Rattle.spec.specs.Lists.{all, up_to, each, sum_to}
use Rattle.spec.specs.Instance.{Instance, free_nodes_of, under}
use Rattle.spec.specs.Cap.{counter_of, cap_variables, count_var}
use Rattle.spec.specs.Formula.{width, first_var, base, border_var, run_var, gone_var, claim_var, own_variables, variables}
use Rattle.spec.specs.Library.{Meaning, border, run, gone, claim, counted, no_variable, meanings_in, cap_meanings, meanings, meaning_of}

-- a row of values has as many as there are numbers
length-values {ℓ} : {B : Type ℓ} (f : ℕ → B) (n : ℕ) → length (map f (up_to n)) ≡ n
length-values f n = length-map (up_to n) f ∙ length-up_to n

-- the meaning of a variable that there is
stands : Meaning → Bool
stands (border n) = true
stands (run i t r) = true
stands (gone i t) = true
stands (claim i t s) = true
stands (counted n j) = true
stands no_variable = false

module _ (I : Instance) where
  -- ---- how many meanings there are

  length-interval : (i t : ℕ) → length (meanings_in I i t) ≡ width I i
  unfolding meanings_in width
  length-interval i t =
      length-append (map (run i t) (up_to (I.runs i))) _
      ∙ ap₂ (λ (a b : ℕ). a + suc b) (length-values (run i t) (I.runs i)) (length-values (claim i t) I.segments)
      ∙ omega arith

  length-train : (i : ℕ) → length (each (up_to I.intervals) (meanings_in I i)) ≡ I.intervals * width I i
  length-train i = length-each (meanings_in I i) (λ _. width I i) (length-interval i) I.intervals ∙ sum-constant (width I i) I.intervals

  length-count : (j : ℕ) → length (map (λ k. counted (get_or (free_nodes_of I) (j + k) 0) (suc j)) (up_to (counter_of I).spare)) ≡ (counter_of I).spare
  length-count j = length-values (λ k. counted (get_or (free_nodes_of I) (j + k) 0) (suc j)) (counter_of I).spare

  length-cap : length (cap_meanings I) ≡ cap_variables I
  unfolding cap_meanings cap_variables
  length-cap =
      length-each (λ j. map (λ k. counted (get_or (free_nodes_of I) (j + k) 0) (suc j)) (up_to (counter_of I).spare)) (λ _. (counter_of I).spare) length-count (counter_of I).most
      ∙ sum-constant (counter_of I).spare (counter_of I).most

  length-trains : length (each (up_to I.trains) λ i. each (up_to I.intervals) (meanings_in I i)) ≡ sum_to (λ i. I.intervals * width I i) I.trains
  length-trains = length-each (λ i. each (up_to I.intervals) (meanings_in I i)) (λ i. I.intervals * width I i) length-train I.trains

  -- one a variable
  pub length-meanings : length (meanings I) ≡ variables I
  unfolding variables meanings own_variables first_var
  length-meanings =
      length-append (map border (up_to I.nodes)) _
      ∙ ap₂ ◌+◌ (length-values border I.nodes) (length-append (each (up_to I.trains) λ i. each (up_to I.intervals) (meanings_in I i)) (cap_meanings I) ∙ ap₂ ◌+◌ length-trains length-cap)
      ∙ omega arith

  -- those of document 01's variables come first
  abbrev own_meanings : List Meaning
  own_meanings = map border (up_to I.nodes) ++ each (up_to I.trains) λ i. each (up_to I.intervals) (meanings_in I i)

  length-own : length own_meanings ≡ own_variables I
  unfolding own_variables first_var
  length-own = length-append (map border (up_to I.nodes)) _ ∙ ap₂ ◌+◌ (length-values border I.nodes) length-trains

  own_first : (at : ℕ) → at < own_variables I → meaning_of I (suc at) ≡ get_or own_meanings at no_variable
  unfolding meaning_of meanings
  own_first at h =
      ap (λ (ms : List Meaning). get_or ms at no_variable)
      (sym (append_assoc (map border (up_to I.nodes)) (each (up_to I.trains) λ i. each (up_to I.intervals) (meanings_in I i)) (cap_meanings I)))
      ∙ get_or-append own_meanings (cap_meanings I) no_variable at (rw length-own h)

  -- ---- a border

  pub border-stands : (n : ℕ) → n < I.nodes → meaning_of I (suc (border_var I n)) ≡ border n
  unfolding meaning_of meanings border_var
  border-stands n h =
      get_or-append (map border (up_to I.nodes)) _ no_variable n (rw (length-values border I.nodes) h)
      ∙ map_at border I.nodes n no_variable h

  -- ---- the variables of a train's interval

  -- where its meanings stand
  part-interval : (i : ℕ) → i < I.trains → (t : ℕ) → t < I.intervals → Part (meanings I) (base I i t) (meanings_in I i t)
  unfolding meanings base first_var
  part-interval i l t h =
      let place = ap₂ (λ (a b : ℕ). a + (0 + (sum_to (λ j. I.intervals * width I j) i + b))) (length-values border I.nodes) (sum-constant (width I i) t) in
      subst (λ (k : ℕ). Part (meanings I) k (meanings_in I i t)) (place ∙ omega arith)
      (part_in (part-behind (map border (up_to I.nodes)) _)
      (part_in (part-here (each (up_to I.trains) λ i. each (up_to I.intervals) (meanings_in I i)) (cap_meanings I))
      (part_in (part-each (λ i. each (up_to I.intervals) (meanings_in I i)) (λ i. I.intervals * width I i) length-train I.trains i l)
      (part-each (meanings_in I i) (λ _. width I i) (length-interval i) I.intervals t h))))

  module _ (i : ℕ) (l : i < I.trains) (t : ℕ) (h : t < I.intervals) where
    at_place : (j : ℕ) → j < width I i → meaning_of I (suc (base I i t + j)) ≡ get_or (meanings_in I i t) j no_variable
    unfolding meaning_of
    at_place j k = part_at (part-interval i l t h) j no_variable (rw (length-interval i t) k)

    -- behind its runs
    behind-runs : (j : ℕ) → get_or (meanings_in I i t) (I.runs i + j) no_variable
        ≡ get_or (gone i t ∷ map (claim i t) (up_to I.segments)) j no_variable
    unfolding meanings_in
    behind-runs j =
        ap (λ (n : ℕ). get_or (meanings_in I i t) (n + j) no_variable) (sym (length-values (run i t) (I.runs i)))
        ∙ get_or-append-add (map (run i t) (up_to (I.runs i))) _ j no_variable

    pub run-stands : (r : ℕ) → r < I.runs i → meaning_of I (suc (run_var I i t r)) ≡ run i t r
    unfolding run_var width meanings_in
    run-stands r k =
        at_place r (omega arith)
        ∙ get_or-append (map (run i t) (up_to (I.runs i))) _ no_variable r (rw (length-values (run i t) (I.runs i)) k)
        ∙ map_at (run i t) (I.runs i) r no_variable k

    pub gone-stands : meaning_of I (suc (gone_var I i t)) ≡ gone i t
    unfolding gone_var width
    gone-stands =
        at_place (I.runs i) (omega arith)
        ∙ ap (λ (n : ℕ). get_or (meanings_in I i t) n no_variable) (sym (add-zero (I.runs i)))
        ∙ behind-runs 0

    pub claim-stands : (s : ℕ) → s < I.segments → meaning_of I (suc (claim_var I i t s)) ≡ claim i t s
    unfolding claim_var width
    claim-stands s k =
        at_place (I.runs i + 1 + s) (omega arith)
        ∙ ap (λ (n : ℕ). get_or (meanings_in I i t) n no_variable) (omega arith)
        ∙ behind-runs (suc s)
        ∙ map_at (claim i t) I.segments s no_variable k

  -- ---- the cap's variables: of the nodes of kind 1 up to this one at least so many are set

  pub count-stands : (j : ℕ) → j < (counter_of I).most → (k : ℕ) → k < (counter_of I).spare
      → meaning_of I (suc (count_var I (own_variables I) j k)) ≡ counted (get_or (free_nodes_of I) (j + k) 0) (suc j)
  unfolding meaning_of meanings cap_meanings count_var own_variables first_var
  count-stands j l k h =
      let part = part_in (part_in (part-behind (map border (up_to I.nodes)) _)
      (part-behind (each (up_to I.trains) λ i. each (up_to I.intervals) (meanings_in I i)) (cap_meanings I)))
      (part-each (λ j. map (λ k. counted (get_or (free_nodes_of I) (j + k) 0) (suc j)) (up_to (counter_of I).spare)) (λ _. (counter_of I).spare) length-count (counter_of I).most j l) in
      let there : I.nodes + sum_to (λ i. I.intervals * width I i) I.trains + (j * (counter_of I).spare + k)
      ≡ length (map border (up_to I.nodes)) + length (each (up_to I.trains) λ i. each (up_to I.intervals) (meanings_in I i)) + sum_to (λ _. (counter_of I).spare) j + k =
      omega (arith, length-values border I.nodes, length-trains, sum-constant (counter_of I).spare j) in
      ap (λ (n : ℕ). get_or (meanings I) n no_variable) there
      ∙ part_at part k no_variable (rw (length-count j) h)
      ∙ map_at (λ k. counted (get_or (free_nodes_of I) (j + k) 0) (suc j)) (counter_of I).spare k no_variable h

  -- ---- no variable

  all-stand : T (all stands (meanings I))
  unfolding meanings meanings_in cap_meanings stands
  all-stand = simp (rows, meaning) ((λ n h. tt), ((λ i l t h. ((λ r k. tt), (tt, λ s k. tt))), λ j l k h. tt))

  -- 0 and the numbers above the last variable, and no other
  pub none-stands : (v : ℕ) → (meaning_of I v ≡ no_variable) ↔ ((v ≡ 0) ⊎ (variables I < v))
  unfolding meaning_of stands
  none-stands zero = (λ _. inl refl, λ _. refl)
  none-stands (suc v) = (
    (λ e. elim (le-or-lt (length (meanings I)) v) [
      | inl h ↦ inr (omega (arith, length-meanings))
      | inr h ↦ absurd (subst (λ (m : Meaning). T (stands m)) e (all-at stands (meanings I) v no_variable all-stand h))
    ]),
    λ h. get_or-eq_default (meanings I) no_variable (elim h [
      | inl e ↦ omega arith
      | inr k ↦ omega (arith, length-meanings)
    ]),
  )

-- a cap changes the meaning of none of document 01's variables
pub own-stands : (cap : Option ℕ) (I : Instance) (at : ℕ) → at < own_variables I → meaning_of (under cap I) (suc at) ≡ meaning_of I (suc at)
unfolding own_variables first_var width meanings_in
own-stands cap I at h = own_first (under cap I) at h ∙ sym (own_first I at h)
