-- A plan's assignment in parts: the bytes of the borders, of a train's interval, of a train, and of a counter's row. Assumes nothing.
use Rattle.std.specs.Prelude.{ℕ, ◌+◌, Bool, List, ◌++◌, map, length, get_or, eqb, ltb}
use Rattle.spec.specs.Lists.{Bytes, pick, up_to, each, one}
use Rattle.spec.specs.Instance.{Instance}
use Rattle.spec.specs.Plan.{Plan, Move, is_gone, runs, bit, borders_of}
use Rattle.spec.specs.Assignment.{claims}

-- a byte a node: its border
unfoldable pub border_bytes : Instance → Plan → Bytes
border_bytes I p = map (λ n. bit (p.border n)) (up_to I.nodes)

-- a byte for each of n runs, and gone's
unfoldable pub move_bytes : Move → ℕ → Bytes
move_bytes m n = map (λ r. bit (runs m (eqb r))) (up_to n) ++ one (bit (is_gone m))

-- a byte a segment: whether the train claims it in the interval
unfoldable pub claim_bytes : Instance → Plan → ℕ → ℕ → Bytes
claim_bytes I p i t = map (λ s. bit (claims I p i t s)) (up_to I.segments)

-- a train's interval
unfoldable pub interval_bytes : Instance → Plan → ℕ → ℕ → Bytes
interval_bytes I p i t = move_bytes (p.move i t) (I.runs i) ++ claim_bytes I p i t

-- a train
unfoldable pub train_bytes : Instance → Plan → ℕ → Bytes
train_bytes I p i = each (up_to I.intervals) (interval_bytes I p i)

-- ---- a counter over a list of nodes, by a plan's bytes

-- the listed node with a number has a border
abbrev pub set_in : List ℕ → Bytes → ℕ → Bool
set_in nodes plan n = borders_of plan (get_or nodes n 0)

-- how many of the first n listed nodes have one
unfoldable pub set_below : List ℕ → Bytes → ℕ → ℕ
set_below nodes plan n = length (pick (set_in nodes plan) (up_to n))

-- the row of one j: a byte for each k below `spare`, whether more than j of the first j + k + 1 have one
unfoldable pub count_bytes : List ℕ → Bytes → ℕ → ℕ → Bytes
count_bytes nodes plan spare j = map (λ k. bit (ltb j (set_below nodes plan (j + k + 1)))) (up_to spare)
