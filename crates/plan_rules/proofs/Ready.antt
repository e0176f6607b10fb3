-- What the functions over one train know: its moves are its own, its runs lie inside the tables, and what the places' functions
-- answer about a run is what the instance says. Assumes nothing.
use mathlib.Core.Path.{◌≡◌, refl, sym, ap, ap₂, ◌∙◌, subst}
use mathlib.Core.Bool.{Bool, true, false}
use mathlib.Core.Logic.{◌⊎◌, inl, inr}
use Prim.Native.Nat.{ℕ, ◌+◌, ◌*◌, ◌≤◌, ◌<◌}
use native.Mathlib.Omega.{arith}
use mathlib.Core.List.{List}
use lib.ListN.{length, get_or}
use lib.Dec.{T, ltb}
use Rattle.model.specs.declared.Book.{Book as BookStruct}
use Rattle.spec.specs.Lists.{Bytes, same}
use Rattle.spec.specs.Book.{length_in_segments}
use Rattle.spec.specs.Runs.{start_place, end_place}
use Rattle.spec.specs.Instance.{Instance, instance_of, compile, run_lists, run_at}
use Rattle.spec.specs.Plan as plan
use Rattle.spec.specs.Plan.{run, absent, gone, runs, if_run, is_move, plan_of, plan_length, plan_fits}
use Rattle.spec.specs.Held.{held, held_train}
use Rattle.laws.proofs.Tests.{ltb_iff}
use Rattle.demands.proofs.Moves.{plan-long, fitting}
use Rattle.listing.specs.Listed.{train_bytes, place_at, start_at}
use Rattle.listing.proofs.Filled.{lent}
use Rattle.listing.proofs.Trains.{no_train}
use Rattle.tables.specs.Placed.{size_at, end_at}
use Rattle.tables.specs.Tables.{Passed}
use Rattle.tables.specs.Ready.{RunsReady}
use Rattle.tables.proofs.Answers.{end-inside, least-held, ending-held}
use Rattle.tables.proofs.Here.{in-instance, length-here, runs-lent}
use Rattle.tables.proofs.Small.{intervals-is, passed-few}
use Rattle.layout.specs.declared.moves.Move.{Move}
use Rattle.layout.specs.declared.moves.Move.TheVariants.{Run, Absent, Gone}
use Rattle.layout.specs.Moves.{held_move}
use Rattle.plan_rules.proofs.Loops.{prior, prior-all}
use Rattle.plan_rules.specs.Kept.{Planned, TrainReady}

-- ---- a train's move

-- the answer about a move, for the case that it is
pub told : (f : plan.Move → Bool) {m case : Move} → m ≡ case → f (held_move case) ≡ f (held_move m)
told f e = ap (λ (o : Move). f (held_move o)) (sym e)

module _ (f : ℕ → Bool) {m : Move} where
  pub runs-run : {r : ℕ} → m ≡ Run r → f r ≡ runs (held_move m) f
  unfolding runs
  runs-run e = told (λ o. runs o f) e

  pub runs-none : (m ≡ Absent) ⊎ (m ≡ Gone) → false ≡ runs (held_move m) f
  unfolding runs
  runs-none (inl e) = told (λ o. runs o f) e
  runs-none (inr e) = told (λ o. runs o f) e

  pub if-run : {r : ℕ} → m ≡ Run r → f r ≡ if_run (held_move m) f
  unfolding if_run
  if-run e = told (λ o. if_run o f) e

  pub if-none : (m ≡ Absent) ⊎ (m ≡ Gone) → true ≡ if_run (held_move m) f
  unfolding if_run
  if-none (inl e) = told (λ o. if_run o f) e
  if-none (inr e) = told (λ o. if_run o f) e

pub run-below : (I : Instance) (i : ℕ) {m : Move} {r : ℕ} → T (is_move I i (held_move m)) → m ≡ Run r → r < I.runs i
unfolding is_move
run-below I i {r = r} t e = (ltb_iff r (I.runs i)).0 (subst (λ (o : Move). T (is_move I i (held_move o))) e t)

run-few : (I : Instance) (i : ℕ) → I.runs i ≤ 256 → (m : plan.Move) → T (is_move I i m) → T (if_run m (λ r. ltb r 256))
unfolding if_run is_move
run-few I i h (run r) v = (ltb_iff r 256).1 (omega (arith, (ltb_iff r (I.runs i)).0 v))
run-few I i h absent v = tt
run-few I i h gone v = tt

-- a move of the plan, as `moves::move_at` answers it
module _ {b : BookStruct} {i : ℕ} {s : Bytes} (h : Planned b i s) where
  pub own-here : (t : ℕ) → t < b.intervals → T (is_move (instance_of (held b)) i ((plan_of (instance_of (held b)) s).move i t))
  own-here t k =
      fitting (instance_of (held b)) s h.fits i (in-instance b h.passed i h.known) t
      (subst (λ (n : ℕ). t < n) (sym (intervals-is b h.passed)) k)

  pub move-own : (m : Move) (t : ℕ) → t < b.intervals → held_move m ≡ (plan_of (instance_of (held b)) s).move i t
      → T (is_move (instance_of (held b)) i (held_move m))
  move-own m t k e = rw e (own-here t k)

  -- where it is a run, the run's number is below 256
  pub few-own : (m : Move) (t : ℕ) → t < b.intervals → held_move m ≡ (plan_of (instance_of (held b)) s).move i t
      → T (if_run (held_move m) (λ r. ltb r 256))
  few-own m t k e =
      run-few (instance_of (held b)) i ((passed-few b h.passed).runs i (in-instance b h.passed i h.known)) (held_move m) (move-own m t k e)

  -- the move before an interval's
  pub prior-own : (m : Move) (t : ℕ) → t ≤ b.intervals → held_move m ≡ prior ((plan_of (instance_of (held b)) s).move i) t
      → T (is_move (instance_of (held b)) i (held_move m))
  unfolding is_move
  prior-own m t k e =
      rw e (prior-all ((plan_of (instance_of (held b)) s).move i) (λ x. T (is_move (instance_of (held b)) i x)) tt b.intervals
      (λ u l. own-here u l) t k)

  -- what `moves::move_at` asks
  pub move_asks : (t : ℕ) → t < b.intervals
      → Passed b × (length s ≡ plan_length (instance_of (held b))) × (i < b.train_count) × (t < b.intervals)
  move_asks t k = (h.passed, plan-long (instance_of (held b)) s h.fits, h.known, k)

-- a train with its table, and a plan
pub planned : {b : BookStruct} {i l : ℕ} {runs s : Bytes} → TrainReady b i l runs → T (plan_fits (instance_of (held b)) s)
    → Planned b i s
planned h f = record { passed = h.passed; known = h.known; fits = f }

-- a train of the book, with its length and its part of the table of all trains' runs
pub train-ready : {b : BookStruct} {counts : List ℕ} {runs : Bytes} → RunsReady b counts runs → (i : ℕ) → i < b.train_count
    → {l : ℕ} → l ≡ length_in_segments (held b) (held_train (get_or b.trains i no_train)) → TrainReady b i l (lent (i * train_bytes) train_bytes runs)
train-ready {b} h i known e =
    let l = length-here b h.counted.passed i known e in
    record { passed = h.counted.passed; known = known; reached = l.0; short = l.1; table = runs-lent i known h }

-- ---- a train's run

module _ {b : BookStruct} {i l : ℕ} {runs : Bytes} (h : TrainReady b i l runs) (r : ℕ)
    (k : r < (instance_of (held b)).runs i) where
  pub few : r < 256
  few = omega (arith, h.table.few)

  pub start-inside : {at : ℕ} → at ≡ start_at r → at + l ≤ length runs
  start-inside e = omega (arith, few, h.short, h.table.long)

  -- what `places::end_of` asks
  pub end-asks : (r < 256) × (length runs ≡ train_bytes) × (l ≤ size_at runs r)
  end-asks = (few, h.table.long, least-held b i r h.reached h.table k)

  pub end-room : {at : ℕ} → at ≡ end_at runs r l → at + l ≤ length runs
  end-room {at} e = end-inside runs r l at h.table.long few end-asks.2 (h.table.most r k) e

  pub starting : {at : ℕ} → at ≡ start_at r → place_at runs at l ≡ start_place l (run_at (run_lists (held b)) i r)
  starting e = ap (λ (n : ℕ). place_at runs n l) e ∙ rw h.reached (h.table.starting r k)

  pub ending : {at : ℕ} → at ≡ end_at runs r l → place_at runs at l ≡ end_place l (run_at (run_lists (held b)) i r)
  ending e = ap (λ (n : ℕ). place_at runs n l) e ∙ ending-held b i r h.reached h.table k

-- the same of a move that is a run of the train's
module _ {b : BookStruct} {i l : ℕ} {runs : Bytes} (h : TrainReady b i l runs) {m : Move} {r : ℕ}
    (own : T (is_move (instance_of (held b)) i (held_move m))) (e : m ≡ Run r) where
  pub below : r < (instance_of (held b)).runs i
  below = run-below (instance_of (held b)) i own e

  pub run-asks : (r < 256) × (length runs ≡ train_bytes) × (l ≤ size_at runs r)
  run-asks = end-asks h r below

  pub run_room : {at : ℕ} → at ≡ end_at runs r l → at + l ≤ length runs
  run_room = end-room h r below

  pub run_ends : {at : ℕ} → at ≡ end_at runs r l → place_at runs at l ≡ end_place l (run_at (run_lists (held b)) i r)
  run_ends = ending h r below

-- whether a run follows, as `places::follows` answers it
module _ {b : BookStruct} {i l : ℕ} {runs : Bytes} (h : TrainReady b i l runs) (r q : ℕ)
    (k : r < (instance_of (held b)).runs i) (j : q < (instance_of (held b)).runs i) where
  pub follows-asks : (length runs ≡ train_bytes) × (r < 256) × (q < 256) × (l ≤ size_at runs r) × (size_at runs r ≤ 16)
  follows-asks = (h.table.long, few h r k, few h q j, (end-asks h r k).2, h.table.most r k)

  pub follows-answer : {test : Bool} → test ≡ same (place_at runs (end_at runs r l) l) (place_at runs (start_at q) l)
      → test ≡ (instance_of (held b)).follows i r q
  unfolding instance_of compile
  follows-answer t = t ∙ ap₂ same (ending h r k refl) (starting h q j refl)
      ∙ ap (λ (n : ℕ). same (end_place n (run_at (run_lists (held b)) i r)) (start_place n (run_at (run_lists (held b)) i q))) h.reached
