-- A train's block in an interval: its numbers are the train's, and where it ends. Assumes nothing.
use mathlib.Core.Path.{◌≡◌, refl, ap, ap₂, ◌∙◌, subst}
use Prim.Native.Nat.{ℕ, suc, ◌+◌, ◌*◌, ◌≤◌, ◌<◌}
use native.Mathlib.Nat.{suc-mul, mul-le-mul_right}
use native.Mathlib.Omega.{arith}
use Rattle.model.specs.declared.Book.{Book as BookStruct}
use Rattle.spec.specs.Lists.{Bytes}
use Rattle.spec.specs.Instance.{Instance, instance_of}
use Rattle.spec.specs.Plan.{move_code}
use Rattle.spec.specs.Formula.{width, first_var, base, run_var, gone_var, own_variables}
use Rattle.spec.specs.Assignment.{assigned, decoded}
use Rattle.spec.specs.Held.{held}
use Rattle.demands.proofs.Words.{sum_below}
use Rattle.tables.proofs.Small.{first_next, width_is}
use Rattle.layout.specs.declared.blocks.Block.{Block}
use Rattle.layout.specs.Blocks.{BlockOf}
use Rattle.plan_coding.specs.Decoded.{code_of}

module _ (I : Instance) (i : ℕ) where
  -- an interval's first variable is behind the train's and the intervals before it
  pub interval-place : (t : ℕ) → base I i t ≡ first_var I i + t * width I i
  unfolding base
  interval-place t = refl

  interval-next : (t : ℕ) → base I i (t + 1) ≡ base I i t + width I i
  interval-next t = omega (arith, interval-place t, interval-place (t + 1), suc-mul t (width I i))

  -- the intervals end by the next train's first variable, and the trains by the count of them all
  pub interval-fits : (t : ℕ) → t < I.intervals → base I i (t + 1) ≤ first_var I (i + 1)
  interval-fits t h =
      let turn : suc t * width I i ≤ I.intervals * width I i = mul-le-mul_right (width I i) h in
      omega (arith, interval-next t, interval-place t, suc-mul t (width I i), first_next I i)

  pub train-fits : i < I.trains → first_var I (i + 1) ≤ own_variables I
  unfolding own_variables first_var
  train-fits l = omega (arith, first_next I i, sum_below (λ j. I.intervals * width I j) I.trains i l)

-- a block of a train that goes by another name
pub block_of : {b : BookStruct} {i j t : ℕ} {k : Block} → j ≡ i → BlockOf b j t k → BlockOf b i t k
block_of {b} {t = t} {k} e h = subst (λ (i : ℕ). BlockOf b i t k) e h

module _ {b : BookStruct} {i t : ℕ} {k : Block} (h : BlockOf b i t k) where
  abbrev I : Instance
  I = instance_of (held b)

  runs_here : k.runs ≡ I.runs i
  runs_here = h.block.runs ∙ ap I.runs h.train

  -- the next interval's first variable is behind it
  pub block-end : base I i (t + 1) ≡ k.base + (k.runs + 1 + b.segment_count)
  block-end = omega (arith, interval-next I i t, h.base, width_is b h.block.passed i k.runs runs_here)

  -- the number of the interval's move, by its block
  pub code_is : (s : Bytes) → code_of s k.base k.runs ≡ move_code ((decoded I (assigned s)).move i t)
  unfolding decoded run_var gone_var
  code_is s = ap₂ (code_of s) h.base runs_here
