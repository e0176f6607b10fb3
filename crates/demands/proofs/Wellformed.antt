-- What the later proofs need of a well-formed book, said of its instance: `Sound`. The main theorem is `sound`.
-- Assumes nothing.
use mathlib.Core.Path.{◌≡◌, refl}
use mathlib.Core.Logic.{◌↔◌, ◌⊎◌, inl, inr}
use mathlib.Core.Bool.{Bool, true, false, not, ◌&&◌, cond}
use Prim.Native.Nat.{ℕ, zero, suc, ◌+◌, ◌*◌, ◌-◌, ◌/◌, ◌%◌, ◌≤◌, ◌<◌}
use mathlib.Core.Option.{Option}
use native.Mathlib.Nat.{not-suc-le-zero, le_of_suc-le-suc}
use native.Mathlib.Omega.{arith}
use mathlib.Core.List.Memᴰ
use mathlib.Core.List.{List, [], ◌∷◌, ◌++◌, map, Memᴰ}
use lib.ListN.{length, get_or}
use lib.Dec.{T, leb, ltb, eqb}
use Rattle.spec.specs.Lists.{all, up_to, one, empty, passes, faultless}
use Rattle.spec.specs.Frames.{book_format}
use Rattle.spec.specs.Book.{Book, Train, greatest_node_kind, node_kind_at, segment_at, train_at, calls_of, no_call, is_exit, denies_border, forces_border, segment_of, end_node, length_in_segments}
use Rattle.spec.specs.Runs.{directed, goes_on, extend, paths_of, runs_of}
use Rattle.spec.specs.Read.{well_formed, growing, book_faults, head_fits, segment_fits, join_fits, joins_once, train_fits, reach_fits, place_fits, train_all_fits, call_fits, between, max_nodes, max_segments, max_joins, max_trains, max_calls, max_runs}
use Rattle.spec.specs.Instance.{Instance, instance_of, under, compile, run_lists, run_at, call_at}
use Rattle.laws.proofs.Tests.{and-iff, or-iff, neither-iff, eqb-iff, ltb_iff, leb-iff, all-iff, all-up_to, all-at}
use Rattle.demands.proofs.Growing.{Few, growing-parts, none-iff, all-weaken, not-above}
use Rattle.laws.proofs.Rows.{all_append, all_cons, all-each}
use Rattle.laws.proofs.Picks.{all-pick}

-- What holds of the instance of a well-formed book.
pub record Sound (I : Instance) : Type 0 where
  -- a train departs before the last time
  pub departs : (i : ℕ) → i < I.trains → I.departure i < I.intervals
  -- a train has few enough runs for a plan's two bytes
  pub few_runs : (i : ℕ) → i < I.trains → I.runs i ≤ max_runs
  -- a run's segments are segments of the book
  pub inside : (i r : ℕ) → i < I.trains → r < I.runs i → (s : ℕ) → Memᴰ s (I.path i r) → s < I.segments
  -- a call's window is no empty one, and ends by the last time
  pub ordered : (i c : ℕ) → i < I.trains → c < I.calls i → I.first i c ≤ I.last i c
  pub windows : (i c : ℕ) → i < I.trains → c < I.calls i → I.last i c ≤ I.intervals
  -- no node's border is both denied and forced
  pub kinds : (n : ℕ) → n < I.nodes → T (I.denied n) → T (I.forced n) → ⊥

-- A cap changes none of it.
pub sound-under : {I : Instance} (cap : Option ℕ) → Sound I → Sound (under cap I)
sound-under cap s = record {
  departs = s.departs;
  few_runs = s.few_runs;
  inside = s.inside;
  ordered = s.ordered;
  windows = s.windows;
  kinds = s.kinds;
}

-- What well-formedness says, part by part.
pub record Parts (b : Book) : Type 0 where
  pub head : T (head_fits book_format b)
  pub few_nodes : length b.nodes ≤ max_nodes
  pub nodes : T (all (λ k. leb k greatest_node_kind) b.nodes)
  pub few_segments : length b.segments ≤ max_segments
  pub segments : T (all (segment_fits b) b.segments)
  pub few_joins : length b.joins ≤ max_joins
  pub joins : T (all (join_fits b) b.joins)
  pub once : T (joins_once b.joins)
  pub few_trains : length b.trains ≤ max_trains
  pub some_train : T (not (empty b.trains))
  pub trains : T (all (λ t. train_fits b t && reach_fits b t && place_fits b t && leb (length (runs_of b t)) max_runs) b.trains)
  pub calls : T (all (call_fits b) b.calls)
  pub counts : T (all (λ i. between 1 max_calls (length (calls_of b i))) (up_to (length b.trains)))

-- two tests, all along a row
all_both : {A : Type 0} (f g : A → Bool) (xs : List A) → T (all f xs) → T (all g xs) → T (all (λ x. f x && g x) xs)
all_both f g xs h k = (all-iff _ xs).1 (λ x m. simp and-iff ((all-iff f xs).0 h x m, (all-iff g xs).0 k x m))

-- a row that is not empty has one at least
not-empty : {A : Type 0} (xs : List A) → T (not (empty xs)) → 1 ≤ length xs
unfolding empty
not-empty [] h = absurd h
not-empty (x ∷ xs) h = omega arith

-- the parts of a well-formed book: those of a growing one, and what 10 and 11 leave
pub parts : (b : Book) → T (well_formed b) → Parts b
unfolding well_formed faultless book_faults all passes Few train_all_fits between
parts b h =
    let p = (and-iff (growing b) (all passes (book_faults b))).0 h in
    let w = growing-parts b p.0 in
    let q = simp (and-iff, neither-iff) at p.1 in
    let runs = all-weaken _ (λ t. leb (length (runs_of b t)) max_runs) b.trains (λ t h. not-above (length (runs_of b t)) max_runs h)
    ((none-iff _ b.trains).0 q.1.0) in
    let called = (none-iff (λ i. empty (calls_of b i)) (up_to (length b.trains))).0 q.0.1 in
    record {
      head = w.head;
      few_nodes = w.nodes.0;
      nodes = w.nodes.1;
      few_segments = w.segments.0;
      segments = w.segments.1;
      few_joins = w.joins.0;
      joins = w.joins.1;
      once = w.once;
      few_trains = w.trains.0;
      some_train = q.0.0;
      trains = all_both _ _ b.trains w.trains.1 runs;
      calls = w.calls;
      counts = all-weaken _ _ (up_to (length b.trains))
          (λ i h. simp (and-iff, leb-iff) (not-empty (calls_of b i) h, w.few_calls i)) called;
    }

-- ---- rows

-- what stands at a number in a mapped row
pub map_at {ℓ κ} : {A : Type ℓ} {B : Type κ} (f : A → B) (xs : List A) (i : ℕ) (d : A) (e : B) → i < length xs
    → get_or (map f xs) i e ≡ f (get_or xs i d)
map_at f [] i d e h = absurd (not-suc-le-zero h)
map_at f (x ∷ xs) zero d e h = refl
map_at f (x ∷ xs) (suc i) d e h = map_at f xs i d e (le_of_suc-le-suc h)

-- ---- runs

-- d is a directed segment of the book
below : Book → ℕ → Bool
below b d = ltb d (2 * length b.segments)

module _ (b : Book) where
  -- a path that goes on over directed segments of the book stays within the book
  extend-below : (missing : ℕ) (path : List ℕ) → T (all (below b) path) → T (all (all (below b)) (extend b missing path))
  unfolding extend all below directed
  extend-below zero path h = (and-iff (all (below b) path) true).1 (h, tt)
  extend-below (suc missing) path h = simp (all-each, all-up_to) (λ d l. go d l (goes_on b path d) (extend-below missing (path ++ one d)))
    where
      go : (d : ℕ) → d < 2 * length b.segments → (on : Bool)
          → (T (all (below b) (path ++ one d)) → T (all (all (below b)) (extend b missing (path ++ one d))))
          → T (all (all (below b)) (elim on [ true ↦ extend b missing (path ++ one d) | false ↦ [] ]))
      go d l true rest = rest (simp (all_append, all_cons, and-iff, ltb_iff) (h, (l, tt)))
      go d l false rest = tt

  -- all runs of a train stay within the book
  runs-below : (t : Train) → T (all (all (below b)) (runs_of b t))
  unfolding runs_of paths_of directed all below
  runs-below t = simp (all-each, all-up_to) λ j m d l.
      extend-below (length_in_segments b t + j - 1) (one d) ((and-iff (below b d) true).1 ((ltb_iff d (2 * length b.segments)).1 l, tt))

-- ---- a well-formed book, number by number

-- what stands for a train that is not there
abbrev pub no_train : Train
no_train = record { metres = 0; speed = 0; departure = 0; place = [] }

-- a train's run list, by its number
pub runs-at : (b : Book) (i : ℕ) → i < length b.trains → get_or (run_lists b) i [] ≡ runs_of b (train_at b i)
unfolding run_lists train_at
runs-at b i l = map_at (runs_of b) b.trains i no_train [] l

-- either of two numbers below a bound
either-below : (c : Bool) {x y n : ℕ} → x < n → y < n → cond c x y < n
either-below true l k = l
either-below false l k = k

module _ (b : Book) (h : T (well_formed b)) where
  -- 6, 7, 8 and 11 find nothing wrong with a train
  pub train-fits : (i : ℕ) → i < length b.trains
      → T (train_fits b (train_at b i)) × T (reach_fits b (train_at b i)) × T (place_fits b (train_at b i))
      × (length (runs_of b (train_at b i)) ≤ max_runs)
  unfolding train_at
  train-fits i l =
      let p = simp (and-iff, leb-iff) at (all-at _ b.trains i no_train (parts b h).trains l) in
      (p.0.0.0, p.0.0.1, p.0.1, p.1)

  -- a directed segment ends at a node of the book
  pub end_known : (d : ℕ) → d < 2 * length b.segments → end_node b d < length b.nodes
  unfolding end_node segment_at segment_of segment_fits
  end_known d l =
      let fits = all-at (segment_fits b) b.segments (d / 2) (record { a = 0; b = 0; ttd = 0 }) (parts b h).segments (omega arith) in
      let s = simp (and-iff, ltb_iff) at fits in
      either-below (eqb (d % 2) 0) s.0.0.1 s.0.0.0

  -- a train departs before T
  train-departs : (i : ℕ) → i < length b.trains → (train_at b i).departure < b.intervals
  unfolding train_fits
  train-departs i l = (simp (and-iff, ltb_iff) at (train-fits i l).0).0.1

  -- a call's window is in order and within T
  call-sound : (i c : ℕ) → c < length (calls_of b i)
      → ((call_at b i c).first ≤ (call_at b i c).last) × ((call_at b i c).last ≤ b.intervals)
  unfolding call_fits calls_of call_at
  call-sound i c l =
      let w = all-pick (λ k. eqb k.train i) (call_fits b) b.calls (parts b h).calls in
      let p = simp (and-iff, ltb_iff, leb-iff) at (all-at (call_fits b) (calls_of b i) c no_call w l) in
      (p.0.1, p.1)

  -- a run's segments are segments of the book
  path-sound : (i r : ℕ) → i < length b.trains → r < length (get_or (run_lists b) i []) → (s : ℕ)
      → Memᴰ s (map segment_of (run_at (run_lists b) i r)) → s < length b.segments
  unfolding run_at segment_of below
  path-sound i r l k s m =
      let w : T (all (all (below b)) (get_or (run_lists b) i [])) = rw (runs-at b i l) (runs-below b (train_at b i)) in
      let p = Memᴰ.of_map segment_of (run_at (run_lists b) i r) m in
      let q = (ltb_iff p.0 (2 * length b.segments)).0 ((all-iff (below b) _).0 (all-at _ _ r [] w k) p.0 p.1) in
      let e : p.0 / 2 ≡ s = p.2 in
      omega arith

-- "denied as for kind 0": kinds 0 and 3 have no border
pub denied-iff : (kind : ℕ) → T (denies_border kind) ↔ (kind ≡ 0) ⊎ (kind ≡ 3)
unfolding denies_border is_exit
denied-iff kind = (
  (λ h. elim ((or-iff (eqb kind 0) (eqb kind 3)).0 h) [ inl e ↦ inl ((eqb-iff kind 0).0 e) | inr e ↦ inr ((eqb-iff kind 3).0 e) ]),
  (λ h. (or-iff (eqb kind 0) (eqb kind 3)).1 (elim h [ inl e ↦ inl ((eqb-iff kind 0).1 e) | inr e ↦ inr ((eqb-iff kind 3).1 e) ])),
)

-- The instance of a well-formed book is sound.
pub sound : (b : Book) → T (well_formed b) → Sound (instance_of b)
unfolding instance_of compile forces_border
sound b h = record {
  departs = train-departs b h;
  few_runs = λ i l. rw (runs-at b i l) (train-fits b h i l).3;
  inside = path-sound b h;
  ordered = λ i c l k. (call-sound b h i c k).0;
  windows = λ i c l k. (call-sound b h i c k).1;
  kinds = λ n l d f.
      let g = (eqb-iff (node_kind_at b n) 2).0 f in
      elim ((denied-iff (node_kind_at b n)).0 d) [ inl e ↦ omega arith | inr e ↦ omega arith ];
}
