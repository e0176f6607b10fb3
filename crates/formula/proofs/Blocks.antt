-- The block of a train's interval, by the block of its first one and the interval's first variable; and that its claims leave room
-- for all literals. Assumes nothing.
use native.Mathlib.Omega.{arith}
use mathlib.Core.Path.{◌≡◌}
use Prim.Native.Nat.{ℕ, ◌+◌, ◌≤◌, ◌<◌}
use Rattle.model.specs.declared.Book.{Book as BookStruct}
use Rattle.layout.specs.declared.blocks.Block.{Block}
use Rattle.layout.specs.Blocks.{BlockHeld, block_room}
use Rattle.tables.proofs.Small.{runs-small}

pub block-from : {b : BookStruct} {first : Block} {base : ℕ} → BlockHeld b first → base < block_room
    → BlockHeld b (record { train = first.train; runs = first.runs; length = first.length; base = base })
block-from h small = record { passed = h.passed; known = h.known; runs = h.runs; length = h.length; short = h.short; small = small }

module _ {b : BookStruct} {t : Block} (h : BlockHeld b t) where
  pub few : t.runs ≤ 256
  few = runs-small b h.passed t.train h.known _ h.runs

  pub claims-small : {claims : ℕ} → claims ≡ t.base + (t.runs + 1) → claims < 900000257
  claims-small e = omega (arith, e, h.small, few)
