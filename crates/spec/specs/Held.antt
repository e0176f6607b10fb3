-- The book that a struct holds, and the struct that holds a book: what contracts of functions over the struct are stated with.
-- Assumes nothing.
use Rattle.std.specs.Prelude.{ℕ, ◌-◌, ◌*◌, ◌≤◌, ◌<◌, List, ◌++◌, map, length, take, replicate}
use Rattle.std.specs.Prelude.{Some, None}
use Rattle.std.specs.Prelude.{Option as CodeOption}
use Rattle.std.proofs.Math.Option.{Option, none, some}
use Rattle.model.specs.declared.Book.{Book as BookStruct}
use Rattle.model.specs.declared.Train.{Train as TrainStruct}
use Rattle.spec.specs.Book.{Book, Segment, Join, Train, Call}
use Rattle.spec.specs.Read.{max_nodes, max_segments, max_joins, max_trains, max_calls, max_reach}

-- a row in an array of n entries: zeros stand behind it
unfoldable pub padded {ℓ} : {A : Type ℓ} → ℕ → A → List A → List A
padded n zero xs = xs ++ replicate (n - length xs) zero

-- "as many entries as its count says"
unfoldable pub held_train : TrainStruct → Train
held_train t = record { metres = t.metres; speed = t.speed; departure = t.departure; place = take t.size t.place }

unfoldable pub held : BookStruct → Book
held b = record {
  segment_metres = b.segment_metres;
  interval_seconds = b.interval_seconds;
  intervals = b.intervals;
  nodes = take b.node_count b.nodes;
  segments = take b.segment_count b.segments;
  joins = take b.join_count b.joins;
  trains = map held_train (take b.train_count b.trains);
  calls = take b.call_count b.calls;
}

-- an option of the code, in the specification's words
abbrev pub held_option : {A : Type 0} → CodeOption A → Option A
held_option None = none
held_option (Some a) = some a

-- P7: at most how many nodes of kind 1 may be set, or no cap
abbrev pub held_cap : CodeOption ℕ → Option ℕ
held_cap None = none
held_cap (Some c) = some c

-- each count is at most the length of its row
pub record CountsFit (b : BookStruct) : Type 0 where
  pub nodes : b.node_count ≤ max_nodes
  pub segments : b.segment_count ≤ max_segments
  pub joins : b.join_count ≤ max_joins
  pub trains : b.train_count ≤ max_trains
  pub calls : b.call_count ≤ max_trains * max_calls

-- the Head's numbers are those of fields of two bytes at most
pub record NumbersFit (b : BookStruct) : Type 0 where
  pub metres : b.segment_metres < 65536
  pub seconds : b.interval_seconds < 65536
  pub intervals : b.intervals < 65536

unfoldable pub packed_train : Train → TrainStruct
packed_train t = record
    { metres = t.metres; speed = t.speed; departure = t.departure; size = length t.place; place = padded max_reach 0 t.place }

abbrev pub zero_segment : Segment
zero_segment = record { a = 0; b = 0; ttd = 0 }

abbrev pub zero_join : Join
zero_join = record { node = 0; left = 0; right = 0 }

abbrev pub zero_call : Call
zero_call = record { train = 0; segment = 0; first = 0; last = 0 }

abbrev pub zero_train : TrainStruct
zero_train = record { metres = 0; speed = 0; departure = 0; size = 0; place = replicate max_reach 0 }

unfoldable pub packed : Book → BookStruct
packed b = record {
  segment_metres = b.segment_metres;
  interval_seconds = b.interval_seconds;
  intervals = b.intervals;
  node_count = length b.nodes;
  segment_count = length b.segments;
  join_count = length b.joins;
  train_count = length b.trains;
  call_count = length b.calls;
  nodes = padded max_nodes 0 b.nodes;
  segments = padded max_segments zero_segment b.segments;
  joins = padded max_joins zero_join b.joins;
  trains = padded max_trains zero_train (map packed_train b.trains);
  calls = padded (max_trains * max_calls) zero_call b.calls;
}
