-- The literals of a list are taken false, the last one first: i of them are, and their variables are on the trail. Since the literals
-- rise by variable, the variable of the next one is open. Assumes nothing.
use mathlib.Core.Path.{◌≡◌, refl, sym, ap, ◌∙◌, subst}
use Prim.Native.Nat.{ℕ, zero, suc, ◌+◌, ◌-◌, ◌≤◌, ◌<◌}
use native.Mathlib.Omega.{arith}
use mathlib.Core.List.{List, [], ◌∷◌}
use lib.ListN.{length, get_or, set, drop, length-set, drop_of_length-le}
use lib.Seq.{drop-cons}
use lib.IntN.{pos, negsuc}
use lib.Dec.{T}
use borrow.Author.Tests.{ne_eqb}
use Rattle.spec.specs.Lists.{Bytes}
use Rattle.spec.specs.Formula.{Literal, Clause}
use Rattle.spec.specs.Assignment.{open'}
use Rattle.spec.specs.Refutation.{Values, variable_of, rises_from, literals_fit, make_false, refuting}
use Rattle.spec.specs.Entry.{zeroed}
use Rattle.laws.proofs.Tests.{and-iff, ltb_iff, leb-iff}
use Rattle.propagation.specs.Known.{values_in, false_byte, Trailed}
use Rattle.propagation.proofs.Values.{made-false, all-open, zero-byte}
use Rattle.propagation.proofs.Trail.{pushed, trail-room, nothing-set, behind-next}

-- ---- rising literals

-- what is known of a variable stays where a literal of one above is made false
made_other : (known : Values) (l : Literal) (v : ℕ) → suc v < variable_of l → make_false known l v ≡ known v
unfolding make_false variable_of
made_other known (pos zero) v b = refl
made_other known (pos (suc u)) v b = let e = ne_eqb v u (λ e. omega arith) in rw e refl
made_other known (negsuc u) v b = let e = ne_eqb v u (λ e. omega arith) in rw e refl

module _ (vars : ℕ) where
  -- a literal of a rising list is above `low` and within the variables, and those behind it rise from it
  rises-at : (low : ℕ) (ls : Clause) (k : ℕ) → T (rises_from vars low ls) → k < length ls → let l = get_or ls k (pos 0) in
      (low < variable_of l) × (variable_of l ≤ vars) × T (rises_from vars (variable_of l) (drop (suc k) ls))
  unfolding rises_from
  rises-at low [] k h b = absurd (omega arith)
  rises-at low (l ∷ ls) zero h b = let p = simp (and-iff, ltb_iff, leb-iff) at h in (p.0.0, p.0.1, p.1)
  rises-at low (l ∷ ls) (suc k) h b =
      let p = simp (and-iff, ltb_iff, leb-iff) at h in
      let r = rises-at (variable_of l) ls k p.1 (omega arith) in
      (omega (arith, p.0.0, r.0), r.1, r.2)

  -- a variable that is not above `low` is open where they are false
  open-below : (low : ℕ) (ls : Clause) (v : ℕ) → T (rises_from vars low ls) → suc v ≤ low → refuting ls v ≡ open'
  unfolding rises_from refuting
  open-below low [] v h b = refl
  open-below low (l ∷ ls) v h b =
      let p = simp (and-iff, ltb_iff) at h in
      made_other (refuting ls) l v (omega (arith, p.0.0)) ∙ open-below (variable_of l) ls v p.1 (omega (arith, p.0.0))

-- ---- the walk

-- a byte that makes a literal false is not 0
false-some : (l : Literal) → false_byte l ≡ 0 → ⊥
unfolding false_byte
false-some (pos n) e = omega arith
false-some (negsuc n) e = omega arith

-- The last i literals are false, every other variable is open, and the trail has theirs; what is behind those on the trail is as it was,
-- and the slices are as long as at first.
pub record Taking (ls : Clause) (vars : ℕ) (trail₀ : List ℕ) (values : Bytes) (trail : List ℕ) (i : ℕ) : Type 0 where
  pub within : i ≤ length ls
  pub size : length values ≡ vars
  pub space : length trail ≡ length trail₀
  pub holds : values_in values ≡ refuting (drop (length ls - i) ls)
  pub trailed : Trailed values trail i
  pub behind : drop i trail ≡ drop i trail₀

pub taking-start : (ls : Clause) (values : Bytes) (trail : List ℕ) → values ≡ zeroed 0 (length values) → length values ≤ length trail
    → Taking ls (length values) trail values trail 0
taking-start ls values trail e h = record {
  within = omega arith;
  size = refl;
  space = refl;
  holds = ap values_in e ∙ all-open (length values) ∙ ap refuting (sym (drop_of_length-le ls {i = length ls - 0} (omega arith)));
  trailed = subst (λ (vs : Bytes). Trailed vs trail 0) (sym e) (nothing-set (length values) trail h);
  behind = refl;
}

module _ {ls : Clause} {vars : ℕ} {trail₀ : List ℕ} {values : Bytes} {trail : List ℕ} {i : ℕ} (t : Taking ls vars trail₀ values trail i) where
  module _ (fit : T (literals_fit vars ls)) (less : i < length ls) where
    -- the next literal, from the end
    abbrev pub next : Literal
    next = get_or ls (length ls - 1 - i) (pos 0)

    rises : (0 < variable_of next) × (variable_of next ≤ vars) × T (rises_from vars (variable_of next) (drop (suc (length ls - 1 - i)) ls))
    unfolding literals_fit
    rises = rises-at vars 0 ls (length ls - 1 - i) fit (omega arith)

    later : suc (length ls - 1 - i) ≡ length ls - i
    later = omega arith

    one_more_lem : drop (length ls - (i + 1)) ls ≡ next ∷ drop (length ls - i) ls
    one_more_lem =
        let e : length ls - (i + 1) ≡ length ls - 1 - i = omega arith in
        ap (λ (k : ℕ). drop k ls) e ∙ drop-cons ls (length ls - 1 - i) (pos 0) (omega arith) ∙ ap (λ (k : ℕ). next ∷ drop k ls) later

    -- its variable is open
    unset : get_or values (variable_of next - 1) 0 ≡ 0
    unfolding values_in
    unset = zero-byte _ (ap (λ (k : Values). k (variable_of next - 1)) t.holds
        ∙ open-below vars (variable_of next) _ (variable_of next - 1) (rw later at rises.2) (omega (arith, rises.0)))

    -- it has a variable, and the trail has room for it
    pub taking-here : (1 ≤ variable_of next) × (variable_of next ≤ length values) × (i < length trail)
    taking-here = (
      rises.0,
      omega (arith, rises.1, t.size),
      trail-room t.trailed (variable_of next - 1) (omega (arith, rises.0, rises.1, t.size)) unset,
    )

    pub taking-next : {values' : Bytes} {trail' : List ℕ} → values' ≡ set values (variable_of next - 1) (false_byte next)
        → trail' ≡ set trail i (variable_of next - 1) → Taking ls vars trail₀ values' trail' (i + 1)
    unfolding refuting
    taking-next e f = record {
      within = omega arith;
      size = ap length e ∙ simp length-set t.size;
      space = ap length f ∙ simp length-set t.space;
      holds = ap values_in e
          ∙ made-false values next taking-here.0 taking-here.1
          ∙ ap (λ (k : Values). make_false k next) t.holds
          ∙ sym (ap refuting one_more_lem);
      trailed = rw (e, f) (pushed t.trailed (variable_of next - 1) (false_byte next)
          (omega (arith, taking-here.0, taking-here.1)) unset (false-some next));
      behind = ap (drop (i + 1)) f ∙ behind-next i (variable_of next - 1) trail trail₀ t.behind;
    }

  -- behind the first literal
  pub taking-done : length ls ≤ i
      → (values_in values ≡ refuting ls) × Trailed values trail (length ls) × (drop (length ls) trail ≡ drop (length ls) trail₀)
  taking-done h =
      let e : i ≡ length ls = omega (arith, t.within) in
      let z : length ls - i ≡ 0 = omega arith in (
        t.holds ∙ ap (λ (k : ℕ). refuting (drop k ls)) z,
        subst (Trailed values trail) e t.trailed,
        subst (λ (k : ℕ). drop k trail ≡ drop k trail₀) e t.behind,
      )
