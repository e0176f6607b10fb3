-- Tables of refusals: the number that `first_fault` finds is the first line's whose condition holds (`FirstHolds`), and it
-- finds none exactly where no line's does. Assumes nothing.
use mathlib.Core.Path.{◌≡◌, refl, ap}
use mathlib.Core.Bool.{Bool, true, false, not, ◌&&◌}
use mathlib.Core.Option.{Option, none, some}
use Prim.Native.Nat.{ℕ}
use native.Mathlib.Omega.{arith}
use mathlib.Core.List.{List, [], ◌∷◌, ◌++◌}
use lib.Dec.{T}
use Rattle.spec.specs.Lists.{all, Fault, ◌when◌, first_fault}
use Rattle.laws.proofs.Tests.{and-iff, denied-of, from-denied}
use Rattle.laws.proofs.Rows.{all_append}
unfoldable pub use Rattle.demands.specs.Reasons.{passes}
pub use Rattle.demands.specs.Reasons.{FirstHolds}

-- no line holds exactly where no number is found
pub first-none : (fs : List Fault) → first_fault fs ≡ none → T (all passes fs)
unfolding first_fault all passes
first-none [] e = tt
first-none (f ∷ fs) e = go f.holds e (first-none fs)
  where
    go : (b : Bool) → ◌≡◌ {A = Option ℕ} (elim b [ true ↦ some f.number | false ↦ first_fault fs ]) none
        → (first_fault fs ≡ none → T (all passes fs)) → T (not b && all passes fs)
    go true e rest = let z : ◌≡◌ {A = ℕ} 0 1 = cc in omega arith
    go false e rest = rest e

-- and back
pub clear_first : (fs : List Fault) → T (all passes fs) → first_fault fs ≡ none
unfolding first_fault all passes
clear_first [] h = refl
clear_first (f ∷ fs) h =
    let p = (and-iff (not f.holds) (all passes fs)).0 h in
    rw (denied-of f.holds p.0, first_fault) (clear_first fs p.1)

-- the number that is found is the first line's that holds
pub first_some : (n : ℕ) (fs : List Fault) → first_fault fs ≡ some n → FirstHolds n fs
unfolding first_fault all passes
first_some n [] e = let z : ◌≡◌ {A = ℕ} 0 1 = cc in absurd (omega arith)
first_some n (f ∷ fs) e = go f.holds refl e (first_some n fs)
  where
    go : (b : Bool) → f.holds ≡ b → elim b [ true ↦ some f.number | false ↦ first_fault fs ] ≡ some n
        → (first_fault fs ≡ some n → FirstHolds n fs) → FirstHolds n (f ∷ fs)
    go true t e rest =
        let m : f.number ≡ n = cc in
        record { before = []; after = fs; split = λ i. record { number = m i; holds = t i } ∷ fs; clear = tt }
    go false t e rest =
        let r = rest e in record {
          before = f ∷ r.before;
          after = r.after;
          split = ap {B = List Fault} (λ fs. f ∷ fs) r.split;
          clear = (and-iff (not f.holds) (all passes r.before)).1 (from-denied t, r.clear);
        }

-- and back
pub holds-first : (n : ℕ) (fs : List Fault) → FirstHolds n fs → first_fault fs ≡ some n
unfolding first_fault all passes
holds-first n fs h = rw h.split (go h.before h.clear)
  where
    go : (before : List Fault) → T (all passes before) → first_fault (before ++ (n when true) ∷ h.after) ≡ some n
    go [] c = refl
    go (f ∷ before) c =
        let p = (and-iff (not f.holds) (all passes before)).0 c in
        rw (denied-of f.holds p.0, first_fault) (go before p.1)

-- a test that every line passes is passed by the line that is found
pub first_passes : (p : Fault → Bool) (n : ℕ) (fs : List Fault) → T (all p fs) → FirstHolds n fs → T (p (n when true))
unfolding all
first_passes p n fs h r =
    let q = rw (r.split, all_append) at h in
    ((and-iff (p (n when true)) _).0 ((and-iff (all p r.before) _).0 q).1).0
