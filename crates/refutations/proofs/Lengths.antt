-- What the lengths of the lent slices say: too short for the formula is refusal 12 (`short`), and else the verdict is the one on the
-- file of steps (`checked`), which depends on the lengths of the words and of the clauses alone. Assumes nothing.
use mathlib.Core.Path.{◌≡◌, refl, sym, ap, ap₂, ◌∙◌}
use mathlib.Core.Bool.{Bool, true, false}
use mathlib.Core.Option.{none, some}
use Prim.Native.Nat.{ℕ, zero, suc, ◌≤◌}
use mathlib.Core.List.{List, ◌++◌}
use lib.ListN.{length}
use Rattle.laws.proofs.Tests.{and-iff, leb-iff, true_of, false_of}
use Rattle.spec.specs.Lists.{Bytes, Verdict, accepted, refused, and_then, Fault, one, empty, first_fault}
use Rattle.spec.specs.Frames.{payload_of, behind}
use Rattle.spec.specs.Instance.{Instance}
use Rattle.spec.specs.Formula.{Clause, formula, variables, words_of}
use Rattle.spec.specs.Refutation.{Lent, step_in, step_detail, step_faults, clauses_fit, check_steps, check_file}
use Rattle.spec.specs.Entry.{demand, formula_fits, refuted_for}
use Rattle.refutation_steps.specs.Checked.{lent_by}

-- ---- the file of steps

-- the faults of a step
same-faults : (lent : Lent) (vars : ℕ) (cs : List Clause) (s : Bytes)
    → step_faults (lent_by lent.words lent.clauses) vars cs s ≡ step_faults lent vars cs s
unfolding step_faults clauses_fit
same-faults lent vars cs s = refl

-- a verdict, from the faults of the step at the start of s and the verdict on the steps behind it
abbrev verdict_by : Bytes → ℕ → List Fault → Verdict (Unit {0}) → Verdict (Unit {0})
verdict_by s step faults rest = elim (empty s) [
  | true ↦ refused 21 0
  | false ↦ elim (first_fault faults) [
    | some n ↦ refused n (step_detail n step)
    | none ↦ elim (empty (step_in (payload_of s)).literals)
        [ true ↦ elim (empty (behind s)) [ true ↦ accepted tt | false ↦ refused 21 0 ] | false ↦ rest ]
  ]
]

-- the steps from a place on
same-steps : (lent : Lent) (vars fuel step : ℕ) (cs : List Clause) (s : Bytes)
    → check_steps (lent_by lent.words lent.clauses) vars fuel step cs s ≡ check_steps lent vars fuel step cs s
unfolding check_steps
same-steps lent vars zero step cs s = refl
same-steps lent vars (suc fuel) step cs s =
    ap₂ (verdict_by s step) (same-faults lent vars cs s)
    (same-steps lent vars fuel (suc step) (cs ++ one (step_in (payload_of s)).literals) (behind s))

-- a whole file
pub same-file : (lent : Lent) (vars : ℕ) (cs : List Clause) (s : Bytes)
    → check_file (lent_by lent.words lent.clauses) vars cs s ≡ check_file lent vars cs s
unfolding check_file
same-file lent vars cs s = same-steps lent vars (suc (length s)) 1 cs s

-- ---- the formula

-- the slices have room for the formula
pub record Room (I : Instance) (lent : Lent) : Type 0 where
  pub words : length (words_of (formula I)) ≤ lent.words
  pub clauses : length (formula I) ≤ lent.clauses
  pub values : variables I ≤ lent.values
  pub trail : variables I ≤ lent.trail

-- then the specification's test says so
room_fits : (I : Instance) (lent : Lent) → Room I lent → formula_fits lent I ≡ true
unfolding formula_fits clauses_fit
room_fits I lent room = true_of (formula_fits lent I) (simp (and-iff, leb-iff) (((room.words, room.clauses), room.values), room.trail))

-- else it does not
no-room-fits : (I : Instance) (lent : Lent) → (Room I lent → ⊥) → formula_fits lent I ≡ false
unfolding formula_fits clauses_fit
no-room-fits I lent not = false_of (formula_fits lent I) (λ h.
    let k = simp (and-iff, leb-iff) at h in
    not (record { words = k.0.0.0; clauses = k.0.0.1; values = k.0.1; trail = k.1 }))

module _ (I : Instance) (s : Bytes) (lent : Lent) where
  -- the verdict, by whether there is room
  abbrev verdict_if : Bool → Verdict (Unit {0})
  verdict_if fits = and_then (demand fits 12) λ _. check_file lent (variables I) (formula I) s

  -- too little
  pub short : (Room I lent → ⊥) → refused 12 0 ≡ refuted_for I s lent
  unfolding refuted_for demand and_then
  short not = ap verdict_if (sym (no-room-fits I lent not))

  -- enough
  pub checked : Room I lent → {words clauses vars : ℕ} {cs : List Clause} {v : Verdict (Unit {0})} → words ≡ lent.words → clauses ≡ lent.clauses
      → vars ≡ variables I → cs ≡ formula I → v ≡ check_file (lent_by words clauses) vars cs s → v ≡ refuted_for I s lent
  unfolding refuted_for demand and_then
  checked room e f g h k =
      k
      ∙ simp (e, f, g, h) (same-file lent (variables I) (formula I) s)
      ∙ ap verdict_if (sym (room_fits I lent room))
