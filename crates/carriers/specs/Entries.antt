-- The entry of a node, where it has one. Assumes nothing.
use Rattle.std.specs.Prelude.{not, ℕ}
use Rattle.spec.specs.Lists.{Bytes, only}
use Rattle.spec.specs.Instance.{Instance}
use Rattle.spec.specs.Plan.{Plan, rule6}
use Rattle.spec.specs.Carriers.{first_meeting, cleared, carries, entry}

-- by the plan whose border at that node is cleared: nothing where it keeps rule 6
unfoldable pub entry_if : Instance → Plan → ℕ → Bytes
entry_if I q n = only (not (rule6 I q)) (entry n (first_meeting I q))

-- by the plan itself: nothing where the node does not carry it
unfoldable pub entry_of : Instance → Plan → ℕ → Bytes
entry_of I p n = only (carries I p n) (entry n (first_meeting I (cleared p n)))
