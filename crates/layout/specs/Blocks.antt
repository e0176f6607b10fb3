-- Blocks of variables, as the code holds them by value: structs of the code, which no demand speaks of. Assumes nothing.
use Rattle.std.specs.Prelude.{◌≡◌, ℕ, ◌+◌, ◌*◌, ◌≤◌, ◌<◌}
use Rattle.model.specs.declared.Book.{Book as BookStruct}
use Rattle.spec.specs.Read.{max_nodes, max_segments, max_trains, max_reach, max_runs}
use Rattle.spec.specs.Instance.{instance_of, train_length}
use Rattle.spec.specs.Formula as formula
use Rattle.spec.specs.Held.{held}
use Rattle.tables.specs.Tables.{Passed}
use Rattle.layout.specs.declared.blocks.Block.{Block}

-- a block begins below this, and its claims do, which leaves room for all literals
abbrev pub block_room : ℕ
block_room = 900000000

-- a train's variables in an interval are at most so many, and intervals, of which the struct of a book holds fewer than this, at most so
-- many; a generous bound, since reading allows far fewer
abbrev pub width_most : ℕ
width_most = max_runs + 1 + max_segments

abbrev pub intervals_most : ℕ
intervals_most = 65536

-- so the first variable of a train, and of a block, is at most this
abbrev pub first_most : ℕ
first_most = max_nodes + max_trains * (intervals_most * width_most)

abbrev pub base_most : ℕ
base_most = first_most + intervals_most * width_most

-- and so many variables a formula has at most, with those of a counter
abbrev pub variables_most : ℕ
variables_most = first_most + max_nodes * max_nodes

-- what is known of a block before its interval is: the train's numbers, and a first variable that leaves room for the block
pub record BlockHeld (b : BookStruct) (k : Block) : Type 0 where
  pub passed : Passed b
  pub known : k.train < b.train_count
  pub runs : k.runs ≡ (instance_of (held b)).runs k.train
  pub length : k.length ≡ train_length (held b) k.train
  pub short : k.length ≤ max_reach
  pub small : k.base < block_room

-- the block of train i in interval t
pub record BlockOf (b : BookStruct) (i t : ℕ) (k : Block) : Type 0 where
  pub block : BlockHeld b k
  pub train : k.train ≡ i
  pub base : k.base ≡ formula.base (instance_of (held b)) i t
