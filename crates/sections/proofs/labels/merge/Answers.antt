-- `labels::merge` meets its contract: a turn merges one label. Assumes nothing.
use Rattle.std.proofs.Common.{◌≡◌, ◌≢◌, ℕ, ◌+◌, ◌≤◌, ◌<◌, List, refl, sym, ap, ◌∙◌, arith, length, get_or, set, get_or-set_other, get_or-set_same, length-take, below_more}
use borrow.Author.Tests.{eq-eqb, ne_eqb}
use lib.Seq.{get_or-take}
use Rattle.sections.specs.Labels.{merged_label}
use Rattle.sections.proofs.Stored.{front-stored}
use Rattle.sections.proofs.labels.merge.Goals as goal
use Rattle.sections.proofs.labels.merge.Goals.{then-label-from, else-label-from}

-- what a label becomes: it is `from` or not
label-merged : (from to label : ℕ) → label ≡ from → to ≡ merged_label from to label
unfolding merged_label
label-merged from to label e = sym (simp (eq-eqb _ _ e))

label-kept : (from to label : ℕ) → label ≢ from → label ≡ merged_label from to label
unfolding merged_label
label-kept from to label e = sym (simp (ne_eqb _ _ e))

-- the labels before i are merged, and those from i on are as they were
abbrev Merged : ℕ → ℕ → ℕ → List ℕ → List ℕ → Type 0
Merged from to i old new =
    ((k : ℕ) → k < i → get_or new k 0 ≡ merged_label from to (get_or old k 0)) × ((k : ℕ) → i ≤ k → get_or new k 0 ≡ get_or old k 0)

next-merged : (from to i v : ℕ) (old items : List ℕ) → Merged from to i old items → i < length items
    → v ≡ merged_label from to (get_or items i 0) → Merged from to (i + 1) old (set items i v)
next-merged from to i v old items m l e =
    let others : (k : ℕ) → k ≢ i → get_or (set items i v) k 0 ≡ get_or items k 0 = λ k ne. rw get_or-set_other refl in
    let here : get_or (set items i v) i 0 ≡ merged_label from to (get_or items i 0) = rw get_or-set_same e in (
      below_more _ _ (λ k h. others k (omega arith) ∙ m.0 k h) (here ∙ ap (merged_label from to) (m.1 i (omega arith))),
      λ k h. others k (omega arith) ∙ m.1 k (omega arith),
    )

pub loop-label-preserved : goal.loop-label-preserved
loop-label-preserved c =
    let m = c.loop-label.invariant in
    elim c.if-label-from.branch [
      | then-label-from w ↦ rw w.label-items-is (next-merged _ _ _ _ _ _ m (omega arith) (label-merged _ _ _ w.if-label-from.true))
      | else-label-from w ↦ rw w.label-items-is (next-merged _ _ _ _ _ _ m (omega arith) (label-kept _ _ _ w.if-label-from.false))
    ]

pub returns : goal.returns
returns c =
    let a = c.args in
    let size = length-take a.segments a.labels.now in
    front-stored (λ s. merged_label a.from a.to (get_or a.labels.now s 0)) a.segments a.labels.now c.requires c.loop-label.label-items
    (omega (arith, size))
    (λ i h. c.loop-label.invariant.0 i (omega (arith, size)) ∙ ap (merged_label a.from a.to) (get_or-take a.segments a.labels.now i 0 h))
