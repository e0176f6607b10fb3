-- The book, as document 01 lists its content, and the directed segments. Assumes nothing.
use Rattle.std.specs.Prelude.{Bool, not, ◌&&◌, ◌||◌, cond, ℕ, ◌+◌, ◌*◌, ◌-◌, ◌/◌, ◌%◌, List, [], get_or, eqb}
use Rattle.spec.specs.Lists.{any, pick, last_or}
use Rattle.spec.specs.Numbers.{nearest}
-- "3 Segment: node a, node b, TTD"; "4 Join: node, two different segments touching it"; "6 Call: train, segment, first, last"
pub use Rattle.model.specs.declared.Segment.{Segment}
pub use Rattle.model.specs.declared.Join.{Join}
pub use Rattle.model.specs.declared.Call.{Call}

-- "5 Train": `place` has the directed segments that it is given
pub record Train : Type 0 where
  pub metres : ℕ
  pub speed : ℕ
  pub departure : ℕ
  pub place : List ℕ

-- A book (document 01's term): what its frames say, in file order. Unbreakable TTDs have no effect but refusal 9, so none
-- is kept.
pub record Book : Type 0 where
  pub segment_metres : ℕ
  pub interval_seconds : ℕ
  pub intervals : ℕ
  pub nodes : List ℕ
  pub segments : List Segment
  pub joins : List Join
  pub trains : List Train
  pub calls : List Call

unfoldable pub no_book : Book
no_book = record { segment_metres = 0; interval_seconds = 0; intervals = 0; nodes = []; segments = []; joins = []; trains = []; calls = [] }

-- "number from 0 in file order": the one with a number, or zeros where there is none
unfoldable pub node_kind_at : Book → ℕ → ℕ
node_kind_at b n = get_or b.nodes n 0

unfoldable pub segment_at : Book → ℕ → Segment
segment_at b s = get_or b.segments s (record { a = 0; b = 0; ttd = 0 })

unfoldable pub train_at : Book → ℕ → Train
train_at b i = get_or b.trains i (record { metres = 0; speed = 0; departure = 0; place = [] })

-- a train's calls, in file order
unfoldable pub calls_of : Book → ℕ → List Call
calls_of b i = pick (λ c. eqb c.train i) b.calls

unfoldable pub no_call : Call
no_call = record { train = 0; segment = 0; first = 0; last = 0 }

-- "the train's last call in the file is its goal"
unfoldable pub goal_of : Book → ℕ → Call
goal_of b i = last_or no_call (calls_of b i)

-- Node kinds: "0 never, 1 may be set, 2 always set", and P4: "Node kind 3 is an exit without a border, and its variable is denied as
-- for kind 0."
unfoldable pub is_exit : ℕ → Bool
is_exit kind = eqb kind 3

unfoldable pub denies_border : ℕ → Bool
denies_border kind = eqb kind 0 || is_exit kind

unfoldable pub forces_border : ℕ → Bool
forces_border kind = eqb kind 2

-- the greatest node kind that there is
unfoldable pub greatest_node_kind : ℕ
greatest_node_kind = 3

unfoldable pub touches : Segment → ℕ → Bool
touches s n = eqb s.a n || eqb s.b n

-- two different segments of one TTD that touch this node
unfoldable pub share_node : Book → ℕ → ℕ → ℕ → Bool
share_node b n s t =
    not (eqb s t) && eqb (segment_at b s).ttd (segment_at b t).ttd && touches (segment_at b s) n && touches (segment_at b t) n

-- "Directed segment 2s runs from a to b of segment s, 2s+1 from b to a"
unfoldable pub segment_of : ℕ → ℕ
segment_of d = d / 2

unfoldable pub start_node : Book → ℕ → ℕ
start_node b d = cond (eqb (d % 2) 0) (segment_at b (segment_of d)).a (segment_at b (segment_of d)).b

unfoldable pub end_node : Book → ℕ → ℕ
end_node b d = cond (eqb (d % 2) 0) (segment_at b (segment_of d)).b (segment_at b (segment_of d)).a

-- a join is of these two segments at this node, "in either order"
unfoldable pub join_is : ℕ → ℕ → ℕ → Join → Bool
join_is n s t j = eqb j.node n && (eqb j.left s && eqb j.right t || eqb j.left t && eqb j.right s)

-- "a join of the two at that node"
unfoldable pub joined : Book → ℕ → ℕ → ℕ → Bool
joined b n s t = any (join_is n s t) b.joins

-- "Train length l is length/rs rounded up."
unfoldable pub length_in_segments : Book → Train → ℕ
length_in_segments b t = (t.metres + (b.segment_metres - 1)) / b.segment_metres

-- "Speed k is speed × rt × 5 / (18 × rs)", and P3: "to the nearest whole segment, an exact half going down"
unfoldable pub speed_in_segments : Book → Train → ℕ
speed_in_segments b t = nearest (t.speed * b.interval_seconds * 5) (18 * b.segment_metres)
