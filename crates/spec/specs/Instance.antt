-- What the plan rules and the formula ask of a book, and nothing else: counts, and answers by number. The book's text is
-- turned into these answers in one place, `instance_of`, so a rule of the book (whether a place serves a call, who may be gone; which
-- node kinds deny a border, in `Book`) is changed there and nowhere else. Assumes nothing.
use Rattle.std.specs.Prelude.{Bool, not, ◌&&◌, ℕ, ◌-◌, List, [], map, length, get_or}
use Rattle.std.proofs.Math.Option.{Option, none}
use Rattle.spec.specs.Lists.{same, last_or, pick, up_to}
use Rattle.spec.specs.Book.{Book, Call, node_kind_at, train_at, calls_of, no_call, goal_of}
use Rattle.spec.specs.Book.{is_exit, denies_border, forces_border, share_node, segment_of, end_node, length_in_segments}
use Rattle.spec.specs.Runs.{runs_of, start_place, end_place, contains}
use Rattle.spec.specs.Read.{between}

pub record Instance : Type 0 where
  pub nodes : ℕ
  pub segments : ℕ
  pub trains : ℕ
  pub intervals : ℕ
  -- by node: no border may be set, a border must be set
  pub denied : ℕ → Bool
  pub forced : ℕ → Bool
  -- by node and two segments: different, of one TTD, and both touch the node
  pub meet : ℕ → ℕ → ℕ → Bool
  -- by train: its departure, how many runs and how many calls it has
  pub departure : ℕ → ℕ
  pub runs : ℕ → ℕ
  pub calls : ℕ → ℕ
  -- by train and run: it starts at the given place; its segments in path order; how many of them it moves; gone may follow it
  pub given : ℕ → ℕ → Bool
  pub path : ℕ → ℕ → List ℕ
  pub moved : ℕ → ℕ → ℕ
  pub leaves : ℕ → ℕ → Bool
  -- by train and two runs: the second starts at the place where the first ends
  pub follows : ℕ → ℕ → ℕ → Bool
  -- by train and call: its window, and whether the given place serves it
  pub first : ℕ → ℕ → ℕ
  pub last : ℕ → ℕ → ℕ
  pub served_at_start : ℕ → ℕ → Bool
  -- by train, call and run: the place where the run ends serves it
  pub serves : ℕ → ℕ → ℕ → Bool
  -- P7: how many nodes of kind 1 may be set at most, or no cap
  pub cap : Option ℕ

-- whether a place serves a call: "the train's place contains the segment"
unfoldable pub place_serves : Book → Call → List ℕ → Bool
place_serves b c place = contains place c.segment

-- "its front segment ends at an exit": a place is rear first, so its last directed segment is the front
unfoldable pub ends_at_exit : Book → List ℕ → Bool
ends_at_exit b place = is_exit (node_kind_at b (end_node b (last_or 0 place)))

-- who may be gone, P4: "Gone may follow a run only if its end contains the goal and its front segment ends at an exit."
unfoldable pub may_leave : Book → ℕ → List ℕ → Bool
may_leave b i place = place_serves b (goal_of b i) place && ends_at_exit b place

-- a train's l, by its number
unfoldable pub train_length : Book → ℕ → ℕ
train_length b i = length_in_segments b (train_at b i)

-- "a run's number in the train's list, from 0": the run with a number, of run lists by train
unfoldable pub run_at : List (List (List ℕ)) → ℕ → ℕ → List ℕ
run_at lists i r = get_or (get_or lists i []) r []

unfoldable pub call_at : Book → ℕ → ℕ → Call
call_at b i c = get_or (calls_of b i) c no_call

unfoldable pub compile : Book → List (List (List ℕ)) → Instance
compile b lists = record {
  nodes = length b.nodes;
  segments = length b.segments;
  trains = length b.trains;
  intervals = b.intervals;
  denied = λ n. denies_border (node_kind_at b n);
  forced = λ n. forces_border (node_kind_at b n);
  meet = λ n s t. share_node b n s t;
  departure = λ i. (train_at b i).departure;
  runs = λ i. length (get_or lists i []);
  calls = λ i. length (calls_of b i);
  given = λ i r. same (start_place (train_length b i) (run_at lists i r)) (train_at b i).place;
  path = λ i r. map segment_of (run_at lists i r);
  moved = λ i r. length (run_at lists i r) - train_length b i;
  leaves = λ i r. may_leave b i (end_place (train_length b i) (run_at lists i r));
  follows = λ i r q. same (end_place (train_length b i) (run_at lists i r)) (start_place (train_length b i) (run_at lists i q));
  first = λ i c. (call_at b i c).first;
  last = λ i c. (call_at b i c).last;
  served_at_start = λ i c. place_serves b (call_at b i c) (train_at b i).place;
  serves = λ i c r. place_serves b (call_at b i c) (end_place (train_length b i) (run_at lists i r));
  cap = none;
}

-- the run lists, by train
unfoldable pub run_lists : Book → List (List (List ℕ))
run_lists b = map (runs_of b) b.trains

unfoldable pub instance_of : Book → Instance
instance_of b = compile b (run_lists b)

-- P7, "The formula takes a cap": the same book under a cap, or without one. A book itself has none.
abbrev pub under : Option ℕ → Instance → Instance
under cap I = record {
  nodes = I.nodes;
  segments = I.segments;
  trains = I.trains;
  intervals = I.intervals;
  denied = I.denied;
  forced = I.forced;
  meet = I.meet;
  departure = I.departure;
  runs = I.runs;
  calls = I.calls;
  given = I.given;
  path = I.path;
  moved = I.moved;
  leaves = I.leaves;
  follows = I.follows;
  first = I.first;
  last = I.last;
  served_at_start = I.served_at_start;
  serves = I.serves;
  cap = cap;
}

-- "at some time from first to last"
unfoldable pub in_window : Instance → ℕ → ℕ → ℕ → Bool
in_window I i c time = between (I.first i c) (I.last i c) time

-- "At time d its place is the given one": the call is served there
unfoldable pub served_at_departure : Instance → ℕ → ℕ → Bool
served_at_departure I i c = in_window I i c (I.departure i) && I.served_at_start i c

-- "may be set": a node whose border is neither denied nor forced, which is one of kind 1
unfoldable pub is_free : Instance → ℕ → Bool
is_free I n = not (I.denied n) && not (I.forced n)

-- those nodes, rising
unfoldable pub free_nodes_of : Instance → List ℕ
free_nodes_of I = pick (is_free I) (up_to I.nodes)
