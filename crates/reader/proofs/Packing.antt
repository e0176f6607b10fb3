-- The struct that holds a book: a book comes back from its struct, an entry more in an array is an entry more in the row it holds,
-- and an answer of the code is the specification's where the table of faults and the book behind it are. Assumes nothing.
use Rattle.laws.proofs.Arrays.{take-padded, padded-next}
use mathlib.Core.Path.{◌≡◌, refl, sym, ap, ap₂, ◌∙◌}
use mathlib.Core.Option.{Option, none, some}
use Prim.Native.Nat.{ℕ, ◌+◌, ◌*◌, ◌≤◌, ◌<◌}
use native.Mathlib.Omega.{arith}
use mathlib.Core.List.{List, [], ◌∷◌, ◌++◌, map}
use lib.ListN.{length, take, set, length-append, length-map}
use lib.Seq.{length-take-le, take_at}
use Rattle.model.specs.declared.Book.{Book as BookStruct}
use Rattle.model.specs.declared.Train.{Train as TrainStruct}
use Rattle.spec.specs.Lists.{Bytes, one, first_fault, accepted, refused}
use Rattle.spec.specs.Frames.{Format, is_kind, kind_number, Kind, head_kind, node_kind, segment_kind, join_kind, train_kind, call_kind, unbreakable_kind}
use Rattle.spec.specs.Book.{Book, Segment, Join, Train, Call}
use Rattle.spec.specs.Numbers.{field}
use Rattle.spec.specs.Read.{content_faults, add, refuse_or, grown, segment_in, join_in, train_in, call_in, max_nodes, max_segments, max_joins, max_trains, max_calls}
use Rattle.spec.specs.Held.{held, packed, padded, held_train, packed_train, CountsFit, NumbersFit, zero_segment, zero_join, zero_train, zero_call}
use Rattle.reader.specs.Added.{added, Packed}

-- ---- rows in arrays

-- one more entry in an array behind the first `count`, or none
module _ {ℓ} {A : Type ℓ} where
  abbrev put : Option A → ℕ → List A → List A
  put none count row = row
  put (some x) count row = set row count x

  abbrev counted : Option A → ℕ → ℕ
  counted none count = count
  counted (some x) count = count + 1

  -- the row that the array holds then
  abbrev Grows : ℕ → Option A → List A → List A → Type ℓ
  Grows n none xs ys = ys ≡ xs
  Grows n (some x) xs ys = (length xs < n) × (ys ≡ xs ++ one x)

  -- the array and its count are that row's
  put-row : (n : ℕ) {count : ℕ} {row : List A} (z : A) (xs ys : List A) (o : Option A) → count ≡ length xs → row ≡ padded n z xs
      → Grows n o xs ys → (put o count row ≡ padded n z ys) × (counted o count ≡ length ys)
  put-row n z xs ys none e f g = (f ∙ ap (padded n z) (sym g), e ∙ ap length (sym g))
  put-row n z xs ys (some x) e f g = (
    ap₂ (λ (r : List A) (c : ℕ). set r c x) f e ∙ padded-next n (length xs) z x xs refl g.0 ∙ ap (padded n z) (sym g.1),
    rw (g.1, length-append) (omega arith),
  )

-- a row with one more behind it, mapped
map_snoc {ℓ κ} : {A : Type ℓ} {B : Type κ} (f : A → B) (xs : List A) (x : A) → map f (xs ++ one x) ≡ map f xs ++ one (f x)
map_snoc f [] x = refl
map_snoc f (y ∷ ys) x = ap (λ (l : List _). f y ∷ l) (map_snoc f ys x)

-- ---- the book of a struct

held-train : (t : Train) → held_train (packed_train t) ≡ t
unfolding held_train packed_train
held-train t = λ i. record { metres = t.metres; speed = t.speed; departure = t.departure; place = take-padded 8 0 t.place i }

held-trains : (ts : List Train) → map held_train (map packed_train ts) ≡ ts
held-trains [] = refl
held-trains (t ∷ ts) = ap₂ ◌∷◌ (held-train t) (held-trains ts)

-- a book comes back from its struct
pub held-packed : (x : Book) → held (packed x) ≡ x
unfolding held packed padded
held-packed x = λ i. record {
  segment_metres = x.segment_metres;
  interval_seconds = x.interval_seconds;
  intervals = x.intervals;
  nodes = take-padded max_nodes 0 x.nodes i;
  segments = take-padded max_segments zero_segment x.segments i;
  joins = take-padded max_joins zero_join x.joins i;
  trains = rows i;
  calls = take-padded (max_trains * max_calls) zero_call x.calls i;
}
  where
    rows : map held_train (take (length x.trains) (padded max_trains zero_train (map packed_train x.trains))) ≡ x.trains
    rows =
        ap (map held_train) (take_at (map packed_train x.trains) _ (length x.trains) (length-map x.trains packed_train))
        ∙ held-trains x.trains

-- a book whose rows are short enough and whose numbers fit has a struct that is its own
pub packed-packed : (x : Book) → CountsFit (packed x) → NumbersFit (packed x) → Packed (packed x)
packed-packed x c n = record { same = sym (ap packed (held-packed x)); counts = c; numbers = n }

pub packed-fits : (x : Book) → length x.nodes ≤ max_nodes → length x.segments ≤ max_segments → length x.joins ≤ max_joins
    → length x.trains ≤ max_trains → length x.calls ≤ max_trains * max_calls
    → x.segment_metres < 65536 → x.interval_seconds < 65536 → x.intervals < 65536 → Packed (packed x)
unfolding packed
packed-fits x n s j t c m i l = packed-packed x
    (record { nodes = n; segments = s; joins = j; trains = t; calls = c }) (record { metres = m; seconds = i; intervals = l })

-- ---- the counts

-- a count is the length of the row that the book has
module _ {b : BookStruct} (w : Packed b) where
  pub nodes-counted : length (held b).nodes ≡ b.node_count
  unfolding packed
  nodes-counted = sym (ap {B = ℕ} (λ o. o.node_count) w.same)

  pub segments-counted : length (held b).segments ≡ b.segment_count
  unfolding packed
  segments-counted = sym (ap {B = ℕ} (λ o. o.segment_count) w.same)

  pub joins-counted : length (held b).joins ≡ b.join_count
  unfolding packed
  joins-counted = sym (ap {B = ℕ} (λ o. o.join_count) w.same)

  pub trains-counted : length (held b).trains ≡ b.train_count
  unfolding packed
  trains-counted = sym (ap {B = ℕ} (λ o. o.train_count) w.same)

  pub calls-counted : length (held b).calls ≡ b.call_count
  unfolding packed
  calls-counted = sym (ap {B = ℕ} (λ o. o.call_count) w.same)

-- the same of any struct whose counts fit its arrays
module _ (b : BookStruct) (fits : CountsFit b) where
  pub nodes-held : length b.nodes ≡ max_nodes → length (held b).nodes ≡ b.node_count
  unfolding held
  nodes-held e = length-take-le _ b.nodes (omega arith)

  pub segments-held : length b.segments ≡ max_segments → length (held b).segments ≡ b.segment_count
  unfolding held
  segments-held e = length-take-le _ b.segments (omega arith)

-- ---- the struct with what a frame puts in

-- the struct with these numbers of a Head, and with at most one more entry in each of its rows
abbrev with_put : BookStruct → ℕ → ℕ → ℕ → Option ℕ → Option Segment → Option Join → Option TrainStruct → Option Call → BookStruct
with_put b metres seconds intervals n s j t c = record {
  segment_metres = metres;
  interval_seconds = seconds;
  intervals = intervals;
  node_count = counted n b.node_count;
  segment_count = counted s b.segment_count;
  join_count = counted j b.join_count;
  train_count = counted t b.train_count;
  call_count = counted c b.call_count;
  nodes = put n b.node_count b.nodes;
  segments = put s b.segment_count b.segments;
  joins = put j b.join_count b.joins;
  trains = put t b.train_count b.trains;
  calls = put c b.call_count b.calls;
}

module _ (b : BookStruct) (w : Packed b) where
  -- it is the struct of a book with these numbers and these rows
  put-packed : (x : Book) (n : Option ℕ) (s : Option Segment) (j : Option Join) (t : Option TrainStruct) (c : Option Call)
      → Grows max_nodes n (held b).nodes x.nodes → Grows max_segments s (held b).segments x.segments
      → Grows max_joins j (held b).joins x.joins
      → Grows max_trains t (map packed_train (held b).trains) (map packed_train x.trains)
      → Grows (max_trains * max_calls) c (held b).calls x.calls
      → with_put b x.segment_metres x.interval_seconds x.intervals n s j t c ≡ packed x
  unfolding packed
  put-packed x n s j t c gn gs gj gt gc = λ i. record {
    segment_metres = x.segment_metres;
    interval_seconds = x.interval_seconds;
    intervals = x.intervals;
    node_count = nodes'.1 i;
    segment_count = segments'.1 i;
    join_count = joins'.1 i;
    train_count = count i;
    call_count = calls'.1 i;
    nodes = nodes'.0 i;
    segments = segments'.0 i;
    joins = joins'.0 i;
    trains = trains'.0 i;
    calls = calls'.0 i;
  }
    where
      nodes' : (put n b.node_count b.nodes ≡ padded max_nodes 0 x.nodes) × (counted n b.node_count ≡ length x.nodes)
      nodes' = put-row max_nodes 0 (held b).nodes x.nodes n (sym (nodes-counted w)) (ap {B = List ℕ} (λ o. o.nodes) w.same) gn

      segments' : (put s b.segment_count b.segments ≡ padded max_segments zero_segment x.segments)
          × (counted s b.segment_count ≡ length x.segments)
      segments' = put-row max_segments zero_segment (held b).segments x.segments s (sym (segments-counted w)) (ap {B = List Segment} (λ o. o.segments) w.same) gs

      joins' : (put j b.join_count b.joins ≡ padded max_joins zero_join x.joins) × (counted j b.join_count ≡ length x.joins)
      joins' = put-row max_joins zero_join (held b).joins x.joins j (sym (joins-counted w)) (ap {B = List Join} (λ o. o.joins) w.same) gj

      trains' : (put t b.train_count b.trains ≡ padded max_trains zero_train (map packed_train x.trains))
          × (counted t b.train_count ≡ length (map packed_train x.trains))
      trains' =
          put-row max_trains zero_train (map packed_train (held b).trains) (map packed_train x.trains) t (sym (trains-counted w) ∙ sym (length-map (held b).trains packed_train))
          (ap {B = List TrainStruct} (λ o. o.trains) w.same) gt

      count : counted t b.train_count ≡ length x.trains
      count = trains'.1 ∙ length-map x.trains packed_train

      calls' : (put c b.call_count b.calls ≡ padded (max_trains * max_calls) zero_call x.calls)
          × (counted c b.call_count ≡ length x.calls)
      calls' = put-row (max_trains * max_calls) zero_call (held b).calls x.calls c (sym (calls-counted w)) (ap {B = List Call} (λ o. o.calls) w.same) gc

  -- ---- each kind: the struct that the code leaves is the one of the book with what the frame adds

  module _ (F : Format) (p : Bytes) where
    -- the struct with one more entry in a row
    abbrev with_entry : Option ℕ → Option Segment → Option Join → Option TrainStruct → Option Call → BookStruct
    with_entry = with_put b b.segment_metres b.interval_seconds b.intervals

    pub put-head : (m s t : ℕ) → m ≡ field p 0 2 → s ≡ field p 2 2 → t ≡ field p 4 F.time_width
        → with_put b m s t none none none none none ≡ packed (add F (held b) head_kind p)
    unfolding add is_kind kind_number grown
    put-head m s t e f g =
        (λ i. with_put b (e i) (f i) (g i) none none none none none)
        ∙ put-packed (add F (held b) head_kind p) none none none none none refl refl refl refl refl

    pub put-node : (x : ℕ) → x ≡ field p 0 1 → b.node_count < max_nodes
        → with_entry (some x) none none none none ≡ packed (add F (held b) node_kind p)
    unfolding add is_kind kind_number grown held
    put-node x e h =
        put-packed (add F (held b) node_kind p) (some x) none none none none
        (omega (arith, nodes-counted w), ap (λ (y : ℕ). (held b).nodes ++ one y) (sym e)) refl refl refl refl

    pub put-segment : (x : Segment) → x ≡ segment_in p → b.segment_count < max_segments
        → with_entry none (some x) none none none ≡ packed (add F (held b) segment_kind p)
    unfolding add is_kind kind_number grown held
    put-segment x e h =
        put-packed (add F (held b) segment_kind p) none (some x) none none none
        refl (omega (arith, segments-counted w), ap (λ (y : Segment). (held b).segments ++ one y) (sym e)) refl refl refl

    pub put-join : (x : Join) → x ≡ join_in p → b.join_count < max_joins
        → with_entry none none (some x) none none ≡ packed (add F (held b) join_kind p)
    unfolding add is_kind kind_number grown held
    put-join x e h =
        put-packed (add F (held b) join_kind p) none none (some x) none none
        refl refl (omega (arith, joins-counted w), ap (λ (y : Join). (held b).joins ++ one y) (sym e)) refl refl

    pub put-train : (x : TrainStruct) → x ≡ packed_train (train_in F p) → b.train_count < max_trains
        → with_entry none none none (some x) none ≡ packed (add F (held b) train_kind p)
    unfolding add is_kind kind_number grown held
    put-train x e h =
        put-packed (add F (held b) train_kind p) none none none (some x) none
        refl refl refl (
          omega (arith, trains-counted w, length-map (held b).trains packed_train),
          map_snoc packed_train (held b).trains (train_in F p) ∙ ap (λ (y : TrainStruct). map packed_train (held b).trains ++ one y) (sym e),
        )
        refl

    pub put-call : (x : Call) → x ≡ call_in F p → b.call_count < max_trains * max_calls
        → with_entry none none none none (some x) ≡ packed (add F (held b) call_kind p)
    unfolding add is_kind kind_number grown held
    put-call x e h =
        put-packed (add F (held b) call_kind p) none none none none (some x)
        refl refl refl refl (omega (arith, calls-counted w), ap (λ (y : Call). (held b).calls ++ one y) (sym e))

    -- an Unbreakable TTD adds nothing
    pub put-nothing : b ≡ packed (add F (held b) unbreakable_kind p)
    unfolding add is_kind kind_number grown
    put-nothing = w.same

-- ---- the answer

module _ (F : Format) (k : Kind) (b : Book) (p : Bytes) where
  -- a refusal is the table's first fault
  pub refuses : {n : ℕ} → first_fault (content_faults F b k p) ≡ some n → refused n 0 ≡ added F k b p
  unfolding added refuse_or
  refuses f = rw f refl

  -- no fault, and the book with what the frame adds
  pub accepts : {next : BookStruct} → first_fault (content_faults F b k p) ≡ none → next ≡ packed (add F b k p) → accepted next ≡ added F k b p
  unfolding added refuse_or
  accepts f g = rw f (ap accepted g)
