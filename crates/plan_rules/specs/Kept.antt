-- The plan rules as they are checked: the least broken of the first five, and what the functions over one train ask.
-- Assumes nothing.
use Rattle.std.specs.Prelude.{◌≡◌, ℕ, ◌≤◌, ◌<◌, take, T}
use Rattle.std.proofs.Math.Option.{Option}
use Rattle.model.specs.declared.Book.{Book as BookStruct}
use Rattle.spec.specs.Lists.{Bytes, first_fault}
use Rattle.spec.specs.Read.{max_reach}
use Rattle.spec.specs.Instance.{Instance, instance_of, train_length}
use Rattle.spec.specs.Plan.{Plan, plan_fits, rule_faults}
use Rattle.spec.specs.Held.{held}
use Rattle.tables.specs.Tables.{Passed}
use Rattle.tables.specs.Ready.{RunsHeld}

-- the least broken of rules 1 to 5, if one is
unfoldable pub first_broken : Instance → Plan → Option ℕ
first_broken I p = first_fault (take 5 (rule_faults I p))

-- ---- what the functions ask

-- a train of a book that passed, and bytes that are a plan
pub record Planned (b : BookStruct) (i : ℕ) (plan : Bytes) : Type 0 where
  pub passed : Passed b
  pub known : i < b.train_count
  pub fits : T (plan_fits (instance_of (held b)) plan)

-- a train with its length l and its table of runs
pub record TrainReady (b : BookStruct) (i l : ℕ) (runs : Bytes) : Type 0 where
  pub passed : Passed b
  pub known : i < b.train_count
  pub reached : l ≡ train_length (held b) i
  pub short : l ≤ max_reach
  pub table : RunsHeld (held b) i runs
