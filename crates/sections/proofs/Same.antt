-- What a table of labels says: two segments have the same label where they are together, and a label is a segment. Assumes
-- nothing.
use mathlib.Core.Path.{◌≡◌, refl, sym, ap₂, ◌∙◌, subst}
use Prim.Native.Nat.{ℕ, ◌<◌}
use native.Mathlib.Omega.{arith}
use mathlib.Core.List.{List}
use lib.ListN.{length, get_or}
use lib.Seq.{sets, length-sets}
use lib.Dec.{eqb}
use Rattle.model.specs.declared.Book.{Book as BookStruct}
use Rattle.spec.specs.Lists.{Bytes}
use Rattle.spec.specs.Instance.{Instance, instance_of}
use Rattle.spec.specs.Sections.{Borders}
use Rattle.spec.specs.Plan.{plan_of, borders_of}
use Rattle.spec.specs.Held.{held}
use Rattle.demands.proofs.Sections.{meet-sym}
use Rattle.tables.specs.Tables.{Passed}
use Rattle.tables.proofs.Small.{passed-few}
use Rattle.sections.specs.Labels.{section_labels, LabelsHeld}
use Rattle.demands.proofs.Labels.{least, least-below, least_iff}
use Rattle.sections.proofs.Stored.{stored}

module _ (b : BookStruct) (p : Passed b) (border : Borders) (old : List ℕ) (room : length old ≡ 64) where
  abbrev I : Instance
  I = instance_of (held b)

  -- a segment's label
  abbrev label : ℕ → ℕ
  label s = get_or (sets old 0 (section_labels I border)) s 0

  label_at : (s : ℕ) → s < I.segments → label s ≡ least I border s
  unfolding section_labels
  label_at s l = (stored (least I border) I.segments old (omega (arith, (passed-few b p).segments)) _ refl).at s l

  labels-held : LabelsHeld I border (sets old 0 (section_labels I border))
  labels-held = record {
    long = length-sets old 0 (section_labels I border) ∙ room;
    below = λ s l. rw (label_at s l) (least-below I border s l);
    same = λ s t l k. ap₂ eqb (label_at s l) (label_at t k) ∙ least_iff I border (meet-sym (held b)) s t l k;
  }

-- under a plan's borders, its nodes' bytes
pub plan-labelled : (b : BookStruct) → Passed b → (plan : Bytes) (old : List ℕ) → length old ≡ 64
    → {labels : List ℕ} → labels ≡ sets old 0 (section_labels (instance_of (held b)) (borders_of plan))
    → LabelsHeld (instance_of (held b)) (plan_of (instance_of (held b)) plan).border labels
unfolding plan_of
plan-labelled b p plan old room e =
    subst (LabelsHeld (instance_of (held b)) (borders_of plan)) (sym e) (labels-held b p (borders_of plan) old room)
