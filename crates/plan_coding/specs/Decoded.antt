-- The two parts of the plan that an assignment decodes to. Assumes nothing.
use Rattle.std.specs.Prelude.{ℕ, ◌+◌, map}
use Rattle.spec.specs.Lists.{Bytes, up_to, each}
use Rattle.spec.specs.Numbers.{little_endian}
use Rattle.spec.specs.Instance.{Instance}
use Rattle.spec.specs.Plan.{bit, move_code}
use Rattle.spec.specs.Assignment.{assigned, first_run, chosen, decoded}

-- "its border bytes"
unfoldable pub border_bytes : Instance → Bytes → Bytes
border_bytes I s = map (λ n. bit ((decoded I (assigned s)).border n)) (up_to I.nodes)

-- The plan's number of an interval whose first variable is v, of a train with n runs: "the number of the run whose variable is 1,
-- 65535 where gone is 1, 65534 where neither is".
abbrev pub code_of : Bytes → ℕ → ℕ → ℕ
code_of s v n = move_code (chosen (first_run (λ r. assigned s (v + r)) (up_to n)) (assigned s (v + n)))

-- a train's bytes, two an interval
unfoldable pub train_bytes : Instance → Bytes → ℕ → Bytes
train_bytes I s i = each (up_to I.intervals) λ t. little_endian 2 (move_code ((decoded I (assigned s)).move i t))
