-- The list of steps, step by step: what the rest of a file says from a place on, by the verdict on the step there. Assumes nothing.
use mathlib.Core.Path.{◌≡◌, refl, sym, ap, ◌∙◌}
use mathlib.Core.Bool.{true, false, not}
use mathlib.Core.Option.{Option, none, some}
use Prim.Native.Nat.{ℕ, suc, ◌+◌, ◌≤◌}
use native.Mathlib.Omega.{arith}
use mathlib.Core.List.{List, ◌++◌}
use lib.ListN.{length}
use lib.Dec.{T, eqb}
use borrow.Author.Tests.{ne_eqb}
use Rattle.laws.proofs.Tests.{and-iff, neither-iff, not-not-iff, eqb-iff, empty-length}
use Rattle.laws.proofs.Frames.{length-payload_of, whole-iff}
use Rattle.spec.specs.Lists.{Bytes, all, one, empty, Verdict, accepted, refused}
use Rattle.spec.specs.Frames.{frame_head, step_length_fits, payload_of, payload_length, behind, cut_short}
use Rattle.spec.specs.Formula.{Clause}
use Rattle.spec.specs.Refutation.{step_in, literal_count, hint_count, is_bad, step_faults, step_detail, check_steps}
use Rattle.demands.proofs.Faults.{passes, first-none}
use Rattle.demands.proofs.Refuting.{one_step, at-step}
use Rattle.demands.proofs.Files.{counts, literals-length}
use Rattle.refutation_file.specs.declared.steps.Step.{Step}
use Rattle.refutation_file.specs.Found.{step_of, step_bytes}
use Rattle.refutation_steps.specs.Checked.{lent_by, step_answer, step_fault, step_verdict}

-- ---- the verdict on a step, and its first fault

refused-fault : (o : Option ℕ) (k : ℕ) (p : Bytes) {n d : ℕ} → refused n d ≡ step_answer o k p → (o ≡ some n) × (d ≡ step_detail n k)
refused-fault none k p e = (cc, cc)
refused-fault (some m) k p e = (cc, cc)

proved-fault : (o : Option ℕ) (k : ℕ) (p : Bytes) {x : Step} → accepted x ≡ step_answer o k p → (o ≡ none) × (x ≡ step_of p)
proved-fault none k p e = (refl, cc)
proved-fault (some m) k p e = (cc, cc)

-- ---- one step of the list

module _ (W C vars : ℕ) (cs : List Clause) (k : ℕ) (s : Bytes) where
  abbrev fault : Option ℕ
  fault = step_fault W C vars cs s

  -- the file from here on, from step number k on, where so much fuel is left
  abbrev rest : ℕ → Verdict (Unit {0})
  rest fuel = check_steps (lent_by W C) vars fuel k cs s

  -- where no step is left, there was no empty one
  pub runs-out : (fuel : ℕ) → empty s ≡ true → rest (suc fuel) ≡ refused 21 0
  unfolding one_step
  runs-out fuel e = at-step (lent_by W C) vars fuel k cs s (record { no_step = e; faults = refl; is_last = refl; is_end = refl })

  -- a refused step ends the check
  module _ {n d : ℕ} (e : refused n d ≡ step_verdict W C vars cs k s) where
    pub fault-is : fault ≡ some n
    unfolding step_verdict
    fault-is = (refused-fault fault k (payload_of s) e).0

    pub stops : (fuel : ℕ) → empty s ≡ false → rest (suc fuel) ≡ refused n d
    unfolding step_verdict step_fault one_step
    stops fuel some' =
        at-step (lent_by W C) vars fuel k cs s (record { no_step = some'; faults = fault-is; is_last = refl; is_end = refl })
        ∙ ap (refused n) (sym (refused-fault fault k (payload_of s) e).1)

  module _ {x : Step} (e : accepted x ≡ step_verdict W C vars cs k s) where
    found : (fault ≡ none) × (x ≡ step_of (payload_of s))
    unfolding step_verdict
    found = proved-fault fault k (payload_of s) e

    pub no-fault : fault ≡ none
    no-fault = found.0

    pub literals-said : literal_count (payload_of s) ≡ x.literals
    literals-said = sym (ap (λ (y : Step). y.literals) found.1)

    hints-said : hint_count (payload_of s) ≡ x.hints
    hints-said = sym (ap (λ (y : Step). y.hints) found.1)

    good : T (not (cut_short s)) × T (step_length_fits (payload_of s))
    unfolding step_fault step_faults is_bad all passes
    good = let p = simp (and-iff, neither-iff, not-not-iff, eqb-iff) at (first-none (step_faults (lent_by W C) vars cs s) found.0) in (p.0.0.0, p.0.1)

    -- a proved step's frame, and where it ends
    pub frame-length : (frame_head + payload_length s ≡ step_bytes x) × (frame_head + payload_length s ≤ length s)
    frame-length = (
      omega (arith, counts (payload_of s) good.1, length-payload_of s good.0, literals-said, hints-said),
      (whole-iff s).0 good.0,
    )

    -- and how many literals it has
    pub counted : length (step_in (payload_of s)).literals ≡ x.literals
    counted = literals-length (payload_of s) good.1 ∙ literals-said

    last-if : empty (step_in (payload_of s)).literals ≡ eqb x.literals 0
    last-if = empty-length (step_in (payload_of s)).literals ∙ ap (λ (k : ℕ). eqb k 0) counted

    module _ (fuel : ℕ) (some' : empty s ≡ false) where
      -- an empty step ends the file, or bytes stand behind it
      pub ends : x.literals ≡ 0 → empty (behind s) ≡ true → rest (suc fuel) ≡ accepted tt
      unfolding step_fault one_step
      ends z b =
          at-step (lent_by W C) vars fuel k cs s
          (record { no_step = some'; faults = found.0; is_last = last-if ∙ ap (λ (k : ℕ). eqb k 0) z; is_end = b })

      pub trails : x.literals ≡ 0 → empty (behind s) ≡ false → rest (suc fuel) ≡ refused 21 0
      unfolding step_fault one_step
      trails z b =
          at-step (lent_by W C) vars fuel k cs s
          (record { no_step = some'; faults = found.0; is_last = last-if ∙ ap (λ (k : ℕ). eqb k 0) z; is_end = b })

      -- any other goes on, with its clause added
      pub goes_on : (x.literals ≡ 0 → ⊥) → rest (suc fuel)
          ≡ check_steps (lent_by W C) vars fuel (suc k) (cs ++ one (step_in (payload_of s)).literals) (behind s)
      unfolding step_fault one_step
      goes_on ne =
          at-step (lent_by W C) vars fuel k cs s
          (record { no_step = some'; faults = found.0; is_last = last-if ∙ ne_eqb x.literals 0 ne; is_end = refl })
