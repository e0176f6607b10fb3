-- `counter::counter_below` meets its contract. Assumes nothing.
use borrow.Author.Rules.{rules}
use borrow.Author.Tests.{lt-ltb, le-ltb}
use mathlib.Core.Path.{◌≡◌}
use mathlib.Core.Option.{some}
use mathlib.Core.Bool.{true, false}
use Prim.Native.Nat.{ℕ, ◌-◌}
use lib.Dec.{ltb}
use Rattle.spec.specs.Cap.{no_counter, counter_for}
use Rattle.layout.proofs.counter.counter_below.Statement.{statement}
use Rattle.layout.proofs.counter.counter_below.Tie as tie

module _ (cap free : ℕ) where
  counts : ltb cap free ≡ true → record { most = cap; spare = free - cap } ≡ counter_for (some cap) free
  unfolding counter_for
  counts h = rw (h, counter_for)

  allows-all : ltb cap free ≡ false → no_counter ≡ counter_for (some cap) free
  unfolding counter_for
  allows-all h = rw (h, counter_for)

returns : tie.Need-returns-then-cap-free
returns c = counts _ _ (lt-ltb _ _ c.if-cap-free.true)

returns-2 : tie.Need-returns
returns-2 c = allows-all _ _ (le-ltb _ _ c.if-cap-free.false)

pub counter_below_spec : {M : Type 1} → statement M
counter_below_spec = tie.close (tie.spec (λ c. search rules) returns returns-2)
