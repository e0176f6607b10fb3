-- A train of a book that passed, as the code meets it: its record is the book's, its departure and its length are the instance's;
-- its part of a table, as it is lent; and the answers about its calls. Assumes nothing.
use mathlib.Core.Path.{◌≡◌, refl, sym, ap, ap₂, ◌∙◌, subst}
use mathlib.Core.Bool.{Bool, ◌&&◌}
use Prim.Native.Nat.{ℕ, ◌*◌, ◌≤◌, ◌<◌}
use native.Mathlib.Omega.{arith}
use mathlib.Core.List.{List}
use lib.ListN.{length, get_or, length-map, length-take}
use Rattle.model.specs.declared.Book.{Book as BookStruct}
use Rattle.model.specs.declared.Train.{Train as TrainStruct}
use Rattle.spec.specs.Lists.{Bytes}
use Rattle.spec.specs.Book.{Call, Train, train_at, length_in_segments}
use Rattle.spec.specs.Read.{between}
use Rattle.spec.specs.Instance.{Instance, instance_of, compile, call_at, train_length, place_serves, in_window, served_at_departure}
use Rattle.spec.specs.Held.{held, held_train, NumbersFit}
use Rattle.reader.proofs.Packing.{trains-counted}
use Rattle.listing.specs.Listed.{train_bytes}
use Rattle.listing.proofs.Lists.{reach}
use Rattle.listing.proofs.Filled.{lent, part-lent}
use Rattle.listing.proofs.Trains.{no_train, metres-some, numbers-here, reach_here}
use Rattle.tables.specs.Tables.{Passed, train_chains}
use Rattle.tables.specs.Ready.{RunsHeld, ChainsHeld, RunsReady, ChainsReady}
use Rattle.tables.proofs.Answers.{size-held, train-held}
use Rattle.tables.proofs.Small.{trains-is, intervals-is, passed-few}
use Rattle.tables.proofs.Trains.{grows}

-- the trains are as many as their array holds at most
pub trains-fit : (b : BookStruct) → Passed b → b.train_count ≤ length b.trains
unfolding held
trains-fit b p = let e = simp (length-map, length-take) at (trains-counted p.packed) in omega arith

-- a train's part of a table, as it is lent
module _ {b : BookStruct} (i : ℕ) (below : i < b.train_count) where
  pub runs-lent : {counts : List ℕ} {runs : Bytes} → RunsReady b counts runs → RunsHeld (held b) i (lent (i * train_bytes) train_bytes runs)
  runs-lent {runs = runs} k =
      let few = k.counted.passed.packed.counts.trains in
      rw (part-lent (i * train_bytes) train_bytes runs (omega (arith, few, k.long))) (k.held' i below)

  pub chains-lent : Passed b → {chains : List ℕ} → ChainsReady b chains → ChainsHeld (held b) i (lent (i * train_chains) train_chains chains)
  chains-lent p {chains} k =
      let few = p.packed.counts.trains in
      rw (part-lent (i * train_chains) train_chains chains (omega (arith, few, k.long))) (k.held' i below)

-- ---- a train

module _ (b : BookStruct) (p : Passed b) (i : ℕ) (known : i < b.train_count) where
  abbrev I : Instance
  I = instance_of (held b)

  abbrev pub train : TrainStruct
  train = get_or b.trains i no_train

  pub in-instance : i < I.trains
  in-instance = subst (λ (m : ℕ). i < m) (sym (trains-is b p)) known

  pub few-trains : i < 8
  few-trains = omega (arith, known, p.packed.counts.trains)

  pub same-train : held_train train ≡ train_at (held b) i
  same-train = train-held b p i known no_train

  pub departs-here : train.departure ≡ I.departure i
  unfolding held_train instance_of compile
  departs-here = ap (λ (t : Train). t.departure) same-train

  -- its length, as `track::length_in_segments` answers it
  pub length-here : {l : ℕ} → l ≡ length_in_segments (held b) (held_train train) → (l ≡ train_length (held b) i) × (l ≤ 8)
  unfolding train_length
  length-here e =
      let fits = reach_here b (grows b p) i known (trains-fit b p) in
      (e ∙ ap (length_in_segments (held b)) same-train, rw e (reach (held b) (held_train train) fits).1)

  -- what `track::length_in_segments` asks
  pub length-asks : NumbersFit b × (1 ≤ b.segment_metres) × (train.metres < 65536)
  length-asks = (p.packed.numbers, metres-some b (grows b p), (numbers-here b (grows b p) i known (trains-fit b p) p.fields).0)

  -- it departs in one of the intervals
  pub departs-asks : (train.departure < b.intervals) × (b.intervals < 65536)
  departs-asks =
      let d = (passed-few b p).departs i in-instance in
      (omega (arith, departs-here, intervals-is b p), p.packed.numbers.intervals)

  -- its given place is as long as l says
  pub size_small : train.size ≤ 8
  size_small = let k = length-here refl in omega (arith, size-held b p i known no_train, k.0, k.1)

-- ---- a train's call

module _ (b : BookStruct) (i number : ℕ) {c : Call} (e : c ≡ call_at (held b) i number) where
  pub window-answer : (time : ℕ) {test : Bool} → test ≡ between c.first c.last time
      → test ≡ in_window (instance_of (held b)) i number time
  unfolding instance_of compile in_window
  window-answer time t = t ∙ ap (λ (k : Call). between k.first k.last time) e

  start-answer : {t : Train} {test : Bool} → t ≡ train_at (held b) i → test ≡ place_serves (held b) c t.place
      → test ≡ (instance_of (held b)).served_at_start i number
  unfolding instance_of compile
  start-answer s t = t ∙ ap₂ (λ (k : Call) (u : Train). place_serves (held b) k u.place) e s

  -- whether it is served at the departure, as `places::served_at_departure` answers it
  pub departure-answer : (p : Passed b) (known : i < b.train_count) {test : Bool}
      → test ≡ (between c.first c.last (train b p i known).departure
      && place_serves (held b) c (held_train (train b p i known)).place)
      → test ≡ served_at_departure (instance_of (held b)) i number
  unfolding served_at_departure
  departure-answer p known t =
      t
      ∙ ap₂ ◌&&◌
      (window-answer _ refl ∙ ap (in_window (instance_of (held b)) i number) (departs-here b p i known))
      (start-answer (same-train b p i known) refl)
