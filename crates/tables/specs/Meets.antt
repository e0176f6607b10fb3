-- Which segments meet at which node, as bytes, in the order of family H. This is a table of the code, which no demand speaks of.
-- Assumes nothing.
use Rattle.std.specs.Prelude.{ℕ, ◌*◌, ◌-◌, [], ◌∷◌}
use Rattle.spec.specs.Lists.{Bytes, up_to, each, only}
use Rattle.spec.specs.Read.{max_segments}
use Rattle.spec.specs.Instance.{Instance}

-- three bytes for each second segment that meets the first at the node
unfoldable pub meets_of : Instance → ℕ → ℕ → Bytes
meets_of I n s = each (up_to I.segments) λ u. only (I.meet n s u) (n ∷ s ∷ u ∷ [])

-- and those of each first segment there
unfoldable pub meets_at : Instance → ℕ → Bytes
meets_at I n = each (up_to I.segments) λ s. meets_of I n s

-- "by node, then ordered pair of segments of one TTD there"
unfoldable pub meet_table : Instance → Bytes
meet_table I = each (up_to I.nodes) λ n. meets_at I n

-- how many bytes it has at most: each segment has two nodes, and meets all others at each
abbrev pub meet_room : ℕ
meet_room = 3 * (2 * max_segments * (max_segments - 1))
