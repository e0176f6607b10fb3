-- The combined verdict by its parts: room, the verdict on the assignment and on n, and that on the refutation. Assumes nothing.
use mathlib.Core.Path.{◌≡◌, refl, sym, ap, ◌∙◌}
use mathlib.Core.Bool.{Bool, true, false}
use mathlib.Core.Option.{some}
use Prim.Native.Nat.{ℕ, suc}
use lib.Dec.{eqb}
use Rattle.spec.specs.Lists.{Bytes, Verdict, accepted, refused, and_then, empty}
use Rattle.spec.specs.Instance.{Instance, under}
use Rattle.spec.specs.Cap.{set_count}
use Rattle.spec.specs.Assignment.{assigned, decoded}
use Rattle.spec.specs.Formula.{variables}
use Rattle.spec.specs.Refutation.{Lent, clauses_fit}
use Rattle.spec.specs.Entry.{demand, judge_assignment, formula_fits, fewest_fits, refuted_for, fewer_refuted, fewest_for}
use Rattle.refutation_steps.specs.declared.one_step.Extent.{Extent}
use Rattle.refutations.specs.Standing.{extent_of}
use Rattle.fewest.specs.Counted.{counted_for, room_for}

-- two parts and what comes behind them
then-assoc : {A B C : Type 0} (v : Verdict A) (f : A → Verdict B) (g : B → Verdict C)
    → and_then (and_then v f) g ≡ and_then v (λ a. and_then (f a) g)
unfolding and_then
then-assoc (accepted a) f g = refl
then-assoc (refused n d) f g = refl

module _ (I : Instance) (s r : Bytes) (lent : Lent) where
  -- room, then the assignment and n, then the refutation
  parts : (n : ℕ) → fewest_for I n s r lent ≡ and_then (demand (fewest_fits lent I n) 12) λ _. and_then (counted_for I n s) λ _. fewer_refuted I n r lent
  unfolding fewest_for counted_for
  parts n =
      ap (λ (v : Verdict (Unit {0})). and_then (demand (fewest_fits lent I n) 12) λ _. v)
      (sym (then-assoc (judge_assignment I s) (λ _. demand (eqb (set_count I (decoded I (assigned s)).border) n) 22) λ _. fewer_refuted I n r lent))

  module _ {n m : ℕ} (is : suc m ≡ n) where
    for-n : {v : Verdict (Unit {0})} → fewest_for I (suc m) s r lent ≡ v → fewest_for I n s r lent ≡ v
    for-n e = ap (λ (k : ℕ). fewest_for I k s r lent) (sym is) ∙ e

    counted : {v : Verdict (Unit {0})} → counted_for I n s ≡ v → counted_for I (suc m) s ≡ v
    counted e = ap (λ (k : ℕ). counted_for I k s) is ∙ e

    pub no_room : formula_fits lent (under (some m) I) ≡ false → fewest_for I n s r lent ≡ refused 12 0
    unfolding fewest_fits demand and_then
    no_room h = for-n (parts (suc m) ∙ rw (h, demand, and_then) refl)

    module _ (h : formula_fits lent (under (some m) I) ≡ true) where
      pub counts-wrong : {k d : ℕ} → counted_for I n s ≡ refused k d → fewest_for I n s r lent ≡ refused k d
      unfolding fewest_fits demand and_then
      counts-wrong e = for-n (parts (suc m) ∙ rw (h, demand, and_then, counted e) refl)

      pub then-refuted : counted_for I n s ≡ accepted tt → fewest_for I n s r lent ≡ refuted_for (under (some m) I) r lent
      unfolding fewest_fits fewer_refuted refuted_for demand and_then
      then-refuted e = for-n (parts (suc m) ∙ rw (h, demand, and_then, counted e) refl)

  pub counts_some : {k d : ℕ} → counted_for I 0 s ≡ refused k d → fewest_for I 0 s r lent ≡ refused k d
  unfolding fewest_fits demand and_then
  counts_some e = parts 0 ∙ rw (e, and_then) refl

  pub then-empty : counted_for I 0 s ≡ accepted tt → fewest_for I 0 s r lent ≡ demand (empty r) 21
  unfolding fewest_fits fewer_refuted demand and_then
  then-empty e = parts 0 ∙ rw (e, and_then) refl

-- room for a formula is room for its words, clauses and variables, in slices of these lengths
pub room-said : (J : Instance) (lent : Lent) {f : Extent} {v w c : ℕ} {b : Bool}
    → b ≡ room_for f v (record { words = w; clauses = c; values = lent.values; trail = lent.trail })
    → f ≡ extent_of J → v ≡ variables J → w ≡ lent.words → c ≡ lent.clauses → b ≡ formula_fits lent J
unfolding room_for formula_fits clauses_fit
room-said J lent e f v w c =
    e ∙ (λ i. room_for (f i) (v i) (record { words = w i; clauses = c i; values = lent.values; trail = lent.trail }))
