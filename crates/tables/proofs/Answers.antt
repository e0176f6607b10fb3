-- The instance's answers about a train, from what its tables hold: the places that a run starts and ends at, whether it starts at
-- the given one, whether it serves a call, whether the train may leave after it; and the kinds of nodes. Assumes nothing.
use mathlib.Core.Path.{◌≡◌, sym, ap, ap₂, ◌∙◌}
use mathlib.Core.Bool.{Bool}
use Prim.Native.Nat.{ℕ, ◌+◌, ◌*◌, ◌≤◌, ◌<◌}
use native.Mathlib.Omega.{arith}
use mathlib.Core.List.{List, map}
use lib.ListN.{length, get_or, take, length-map, get_or-append}
use lib.Seq.{get_or-take}
use Rattle.model.specs.declared.Book.{Book as BookStruct}
use Rattle.model.specs.declared.Train.{Train as TrainStruct}
use Rattle.spec.specs.Lists.{Bytes, same, last_or}
use Rattle.spec.specs.Book.{Call, Train, node_kind_at, train_at, denies_border, forces_border}
use Rattle.spec.specs.Runs.{start_place, end_place}
use Rattle.spec.specs.Read.{place_fits}
use Rattle.spec.specs.Instance.{instance_of, compile, run_lists, run_at, call_at, train_length, place_serves, may_leave}
use Rattle.spec.specs.Held.{held, held_train, packed, packed_train, padded}
use Rattle.laws.proofs.Tests.{and-iff, eqb-iff}
use Rattle.demands.proofs.Wellformed.{no_train, map_at, train-fits}
use Rattle.demands.proofs.RunLists.{train-reach, front-known}
use Rattle.network.proofs.Held.{kind_at}
use Rattle.listing.specs.Listed.{train_bytes, place_at}
use Rattle.reader.proofs.Packing.{segments-counted, trains-counted}
use Rattle.tables.specs.Placed.{size_at, end_at}
use Rattle.tables.specs.Tables.{Passed}
use Rattle.tables.specs.Ready.{RunsHeld}

-- ---- nodes

module _ (b : BookStruct) (n : ℕ) (h : n < b.node_count) where
  kind-held : get_or b.nodes n 0 ≡ node_kind_at (held b) n
  kind-held = sym (kind_at b n h)

  pub denied-held : {test : Bool} → test ≡ denies_border (get_or b.nodes n 0) → test ≡ (instance_of (held b)).denied n
  unfolding instance_of compile
  denied-held t = t ∙ ap denies_border kind-held

  pub forced-held : {test : Bool} → test ≡ forces_border (get_or b.nodes n 0) → test ≡ (instance_of (held b)).forced n
  unfolding instance_of compile
  forced-held t = t ∙ ap forces_border kind-held

-- ---- a train of the struct

module _ (b : BookStruct) (p : Passed b) (i : ℕ) (below : i < b.train_count) (d : TrainStruct) where
  inside : i < length (held b).trains
  inside = omega (arith, trains-counted p.packed)

  -- it is the book's train, packed
  train-packed : get_or b.trains i d ≡ packed_train (train_at (held b) i)
  unfolding packed padded train_at
  train-packed =
      let room : i < length (map packed_train (held b).trains) = rw length-map inside in
      ap {B = TrainStruct} (λ o. get_or o.trains i d) p.packed.same
      ∙ get_or-append (map packed_train (held b).trains) _ d i room
      ∙ map_at packed_train (held b).trains i no_train d inside

  -- its place is as long as l says
  pub size-held : (get_or b.trains i d).size ≡ train_length (held b) i
  unfolding packed_train train_length place_fits
  size-held =
      let q = simp and-iff at (train-fits (held b) p.formed i inside).2 in
      ap (λ (t : TrainStruct). t.size) train-packed ∙ (eqb-iff _ _).0 q.0

  pub train-held : held_train (get_or b.trains i d) ≡ train_at (held b) i
  unfolding train_at held
  train-held =
      let room : i < length (take b.train_count b.trains) =
      omega (arith, trains-counted p.packed, length-map (take b.train_count b.trains) held_train) in
      ap held_train (sym (get_or-take b.train_count b.trains i d below))
      ∙ sym (map_at held_train (take b.train_count b.trains) i d no_train room)

-- ---- a run in the table

-- the place that a run ends at is inside the table
pub end-inside : (runs : Bytes) (r l at : ℕ) → length runs ≡ train_bytes → r < 256 → l ≤ size_at runs r → size_at runs r ≤ 16
    → at ≡ end_at runs r l → at + l ≤ length runs
unfolding end_at
end-inside runs r l at e h least most f = omega arith

module _ (b : BookStruct) (i r : ℕ) {l : ℕ} (reached : l ≡ train_length (held b) i) where
  abbrev run : List ℕ
  run = run_at (run_lists (held b)) i r

  pub given-answer : {place : List ℕ} {test : Bool} {t : Train} → t ≡ train_at (held b) i → place ≡ start_place l run
      → test ≡ same place t.place → test ≡ (instance_of (held b)).given i r
  unfolding instance_of compile
  given-answer e p t = t ∙ ap₂ same (p ∙ ap (λ (k : ℕ). start_place k run) reached) (ap (λ (x : Train). x.place) e)

  pub serves-answer : {place : List ℕ} {test : Bool} {c : Call} (number : ℕ) → c ≡ call_at (held b) i number
      → place ≡ end_place l run → test ≡ place_serves (held b) c place → test ≡ (instance_of (held b)).serves i number r
  unfolding instance_of compile
  serves-answer number e p t = t ∙ ap₂ (place_serves (held b)) e (p ∙ ap (λ (k : ℕ). end_place k run) reached)

  pub leaves-answer : {place : List ℕ} {test : Bool} → place ≡ end_place l run → test ≡ may_leave (held b) i place
      → test ≡ (instance_of (held b)).leaves i r
  unfolding instance_of compile
  leaves-answer p t = t ∙ ap (may_leave (held b) i) (p ∙ ap (λ (k : ℕ). end_place k run) reached)

  -- where the train's table is known, by its l
  module _ {runs : Bytes} (h : RunsHeld (held b) i runs) (below : r < (instance_of (held b)).runs i) where
    pub least-held : l ≤ size_at runs r
    least-held = rw reached (h.least r below)

    pub ending-held : place_at runs (end_at runs r l) l ≡ end_place l run
    ending-held = rw reached (h.ending r below)

    -- what `places::may_leave` asks of the place that the run ends at
    pub leave-asks : Passed b → i < b.train_count → {at : ℕ} → at ≡ end_at runs r l
        → (1 ≤ l) × (at + l ≤ length runs) × (last_or 0 (place_at runs at l) < 2 * b.segment_count)
    unfolding instance_of compile
    leave-asks p known {at} e =
        let inside : i < length (held b).trains = omega (arith, trains-counted p.packed) in
        let front = front-known (held b) p.formed i inside r below in
        let same-front : last_or 0 (place_at runs at l) ≡ last_or 0 (end_place (train_length (held b) i) run) =
        ap (λ (n : ℕ). last_or 0 (place_at runs n l)) e ∙ ap (last_or 0) (ending-held ∙ ap (λ (k : ℕ). end_place k run) reached) in (
          rw reached (train-reach (held b) p.formed i inside).0,
          end-inside runs r l at h.long (omega (arith, h.few)) least-held (h.most r below) e,
          omega (arith, front, same-front, segments-counted p.packed),
        )
