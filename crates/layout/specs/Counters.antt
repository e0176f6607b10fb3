-- The counter of a cap, as the code holds it by value. Assumes nothing.
use Rattle.std.specs.Prelude.{◌≡◌, ℕ, ◌+◌, ◌≤◌, Option}
use Rattle.model.specs.declared.Book.{Book as BookStruct}
use Rattle.spec.specs.Read.{max_nodes}
use Rattle.spec.specs.Instance.{instance_of, under}
use Rattle.spec.specs.Cap as cap
use Rattle.spec.specs.Held.{held, held_cap}
use Rattle.layout.specs.declared.counter.Counter.{Counter}

-- the counter that the struct holds
abbrev pub held_counter : Counter → cap.Counter
held_counter c = record { most = c.most; spare = c.spare }

-- it is the cap's in this book, and counts no more nodes than a book has
pub record CounterOf (b : BookStruct) (k : Option ℕ) (c : Counter) : Type 0 where
  pub counter : held_counter c ≡ cap.counter_of (under (held_cap k) (instance_of (held b)))
  pub few : c.most + c.spare ≤ max_nodes
