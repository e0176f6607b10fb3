-- What the code answers to a frame's payload, in the specification's words. Assumes nothing.
use Rattle.std.specs.Prelude.{◌≡◌, ℕ, ◌≤◌, ◌<◌, length, replicate, T, ltb}
use Rattle.model.specs.declared.Book.{Book as BookStruct}
use Rattle.model.specs.declared.Train.{Train as TrainStruct}
use Rattle.spec.specs.Lists.{Bytes, all, first_fault, Verdict}
use Rattle.spec.specs.Numbers.{field}
use Rattle.spec.specs.Frames.{Format, Kind}
use Rattle.spec.specs.Book.{Book, calls_of}
use Rattle.spec.specs.Read.{content_faults, add, refuse_or, max_calls, max_reach, max_trains}
use Rattle.spec.specs.Answers.{accepted_as}
use Rattle.spec.specs.Held.{held, packed, CountsFit, NumbersFit}

-- 5 to 9 of a frame of this kind, or the book with what it adds, by value
unfoldable pub added : Format → Kind → Book → Bytes → Verdict BookStruct
added f k b p = accepted_as packed (refuse_or (first_fault (content_faults f b k p)) (add f b k p))

-- the struct is the one that holds its book: zeros stand behind each row
pub record Packed (b : BookStruct) : Type 0 where
  pub same : b ≡ packed (held b)
  pub counts : CountsFit b
  pub numbers : NumbersFit b

-- the calls of a book as far as it was read: each is of a train that was read, and none has more than four
pub record CallsFew (b : Book) : Type 0 where
  pub known : T (all (λ c. ltb c.train (length b.trains)) b.calls)
  pub few : (i : ℕ) → length (calls_of b i) ≤ max_calls
  pub trains : length b.trains ≤ max_trains

-- the train's numbers are those of a Train's payload; its place is still to be read
pub record NumbersOf (f : Format) (p : Bytes) (t : TrainStruct) : Type 0 where
  pub metres : t.metres ≡ field p 0 2
  pub speed : t.speed ≡ field p 2 2
  pub departure : t.departure ≡ field p 4 f.time_width
  pub metres_fit : t.metres < 65536
  pub speed_fit : t.speed < 65536
  pub size : t.size ≡ 0
  pub place : t.place ≡ replicate max_reach 0
