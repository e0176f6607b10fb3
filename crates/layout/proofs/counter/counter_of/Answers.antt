-- The counter of the cap that the option holds. Assumes nothing.
use Rattle.std.proofs.Common.{◌≡◌, ℕ, ◌+◌, ◌≤◌, length}
use Rattle.std.specs.Prelude.{Option, Some, None}
use Rattle.std.proofs.Math.Option.{some}
use mathlib.Core.Path.{sym, ap, ◌∙◌, subst}
use native.Mathlib.Omega.{arith}
use Rattle.model.specs.declared.Book.{Book as BookStruct}
use Rattle.spec.specs.Instance.{instance_of, free_nodes_of, under}
use Rattle.spec.specs.Cap as cap
use Rattle.spec.specs.Cap.{counter_for}
use Rattle.spec.specs.Held.{held, held_cap}
use Rattle.layout.specs.declared.counter.Counter.{Counter}
use Rattle.layout.specs.Counters.{held_counter, CounterOf}
use Rattle.demands.proofs.Cap.{counter-whole}
use Rattle.layout.proofs.Capped.{counter-under}
use Rattle.layout.proofs.counter.counter_of.Goals as goal

module _ (b : BookStruct) (k : Option ℕ) where
  -- the counter that the option asks for
  for-cap : {o : Option ℕ} → k ≡ o → counter_for (held_cap o) (length (free_nodes_of (instance_of (held b)))) ≡ cap.counter_of (under (held_cap k) (instance_of (held b)))
  for-cap e = sym (counter-under (held_cap k) (instance_of (held b))
      ∙ ap (λ (o : Option ℕ). counter_for (held_cap o) (length (free_nodes_of (instance_of (held b))))) e)

  none_of : k ≡ None → CounterOf b k (record { most = 0; spare = 0 })
  unfolding counter_for
  none_of e = record { counter = for-cap e; few = omega arith }

  some_of : (most free : ℕ) (c : Counter) → k ≡ Some most → free ≡ length (free_nodes_of (instance_of (held b))) → free ≤ 96
      → held_counter c ≡ counter_for (some most) free → CounterOf b k c
  some_of most free c e is few h =
      let small = counter-whole (some most) free in
      record {
        counter = h ∙ ap (counter_for (some most)) is ∙ for-cap e;
        few = subst (λ (n : ℕ). n ≤ 96) (ap (λ m. m.most + m.spare) (sym h)) (omega (arith, small, few));
      }

pub returns-in-None : goal.returns-in-None
returns-in-None c = none_of _ _ c.in-None.is

pub returns-in-Some : goal.returns-in-Some
returns-in-Some c =
    let free = c.count_free.ensures in
    some_of _ _ _ _ _ c.in-Some.is free.0 (omega (arith, free.1, c.requires.nodes)) c.counter_below.ensures
