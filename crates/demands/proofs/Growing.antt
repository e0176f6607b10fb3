-- The book as far as it was read: `growing`, part by part (`Growing`), and that every frame without a fault keeps it, since what
-- fitted the shorter book fits the longer one. Assumes nothing.
use mathlib.Core.Path.{◌≡◌, refl}
use mathlib.Core.Logic.Iff
use mathlib.Core.Logic.{◌≢◌, ◌↔◌, inl}
use mathlib.Core.Bool.{Bool, true, false, not, not-not}
use Prim.Native.Nat.{ℕ, suc, ◌+◌, ◌*◌, ◌/◌, ◌≤◌, ◌<◌}
use native.Mathlib.Omega.{arith}
use native.Mathlib.Decide.{dec_le}
use mathlib.Core.List.{List, [], ◌∷◌, ◌++◌}
use lib.ListN.{length, get_or, take, length-append, get_or-append}
use lib.Seq.{take-append-le, take-append_seam, get_or-append_seam}
use lib.Dec.{T, leb, ltb, eqb, nleb→lt, nltb→le, le→leb, eqb→eq}
use Rattle.spec.specs.Lists.{Bytes, all, any, count, up_to, one, only, pick, faultless}
use Rattle.spec.specs.Numbers.{field}
use Rattle.spec.specs.Frames.{Format, book_format, kind_number, is_kind, Kind, head_kind, node_kind, segment_kind, join_kind, train_kind, call_kind, unbreakable_kind, end_kind}
use Rattle.spec.specs.Book.{Book, Segment, Join, Train, Call, no_book, segment_at, calls_of, greatest_node_kind, start_node, end_node, segment_of, joined, length_in_segments, speed_in_segments}
use Rattle.spec.specs.Runs.{leads_to, linked, is_path}
use Rattle.spec.specs.Read.{segment_in, join_in, train_in, call_in, grown, between, head_fits, segment_fits, join_fits, join_repeats, train_fits, reach_fits, place_fits, call_fits, content_faults, add, book_faults, joins_once, few, train_all_fits, growing, well_formed, max_intervals, max_nodes, max_segments, max_joins, max_trains, max_calls}
use Rattle.demands.proofs.Faults.{passes}
use Rattle.laws.proofs.Tests.{and-iff, or-iff, ltb_iff, leb-iff, all-iff, all-up_to, from-true, neither-iff}
use Rattle.laws.proofs.Rows.{all_append, any_append}
use Rattle.laws.proofs.Picks.{pick-append}

-- at most n, and each passes the test
unfoldable pub Few : {A : Type 0} → ℕ → (A → Bool) → List A → Type 0
Few n f xs = (length xs ≤ n) × T (all f xs)

pub few-iff : {A : Type 0} (n : ℕ) (f : A → Bool) (xs : List A) → T (few n f xs) ↔ Few n f xs
unfolding few Few
few-iff n f xs = simp (and-iff, leb-iff) Iff.rfl

-- What `growing` says, part by part. No train has more than four calls, whether it is there or not.
pub record Growing (b : Book) : Type 0 where
  pub head : T (head_fits book_format b)
  pub nodes : Few max_nodes (λ k. leb k greatest_node_kind) b.nodes
  pub segments : Few max_segments (segment_fits b) b.segments
  pub joins : Few max_joins (join_fits b) b.joins
  pub once : T (joins_once b.joins)
  pub trains : Few max_trains (train_all_fits b) b.trains
  pub calls : T (all (call_fits b) b.calls)
  pub few_calls : (i : ℕ) → length (calls_of b i) ≤ max_calls

-- a number that is not above another is at most it
pub not-above : (m n : ℕ) → T (not (ltb n m)) → T (leb m n)
not-above m n h = le→leb m n (nltb→le n m h)

-- ---- rows that grow

-- ys is xs, or xs with one more behind it
data Starts {A : Type 0} (xs : List A) : List A → Type 0 where
  same : Starts xs xs
  longer : (x : A) → Starts xs (xs ++ one x)

module _ {A : Type 0} where
  -- a row that grows is no shorter, keeps what stood in it, and passes what it passed
  starts-length : {xs ys : List A} → Starts xs ys → length xs ≤ length ys
  starts-length same = omega arith
  starts-length {xs} (longer x) = simp length-append (omega arith)

  starts-at : {xs ys : List A} (d : A) (i : ℕ) → Starts xs ys → i < length xs → get_or ys i d ≡ get_or xs i d
  starts-at d i same l = refl
  starts-at {xs} d i (longer x) l = get_or-append xs (one x) d i l

  starts-any : {xs ys : List A} (f : A → Bool) → Starts xs ys → T (any f xs) → T (any f ys)
  starts-any f same h = h
  starts-any {xs} f (longer x) h = rw (any_append f xs (one x)) ((or-iff (any f xs) (any f (one x))).1 (inl h))

  -- one test implies another all along a row
  pub all-weaken : (f g : A → Bool) (xs : List A) → ((x : A) → T (f x) → T (g x)) → T (all f xs) → T (all g xs)
  all-weaken f g xs k h = (all-iff g xs).1 (λ x m. k x ((all-iff f xs).0 h x m))

-- what holds of the one that is new, if there is one
New : {A : Type 0} {xs ys : List A} → (A → Type 0) → Starts xs ys → Type 0
New P same = Unit {0}
New P (longer x) = P x

-- there is room for it, and it passes the test
Room : {A : Type 0} → ℕ → (A → Bool) → List A → A → Type 0
Room n f xs x = T (not (leb n (length xs))) × T (f x)

module _ {A : Type 0} {xs : List A} (f g : A → Bool) (k : (x : A) → T (f x) → T (g x)) where
  -- a row that grows passes as before, by a test that the first one implies
  all-grow : {ys : List A} (s : Starts xs ys) → New (λ x. T (f x)) s → T (all f xs) → T (all g ys)
  unfolding New all
  all-grow same new h = all-weaken f g xs k h
  all-grow (longer x) new h = simp (all_append, and-iff) (all-weaken f g xs k h, (k x new, tt))

  -- and stays short where there was room
  few-grow : {ys : List A} (n : ℕ) (s : Starts xs ys) → New (Room n f xs) s → Few n f xs → Few n g ys
  unfolding Few New Room
  few-grow n same new h = (h.0, all-grow same tt h.1)
  few-grow n (longer x) new h =
      let l = nleb→lt n (length xs) new.0 in
      (simp length-append (omega arith), all-grow (longer x) new.1 h.1)

-- ---- a book that grows

-- c is b with at most one more of each
record Longer (b c : Book) : Type 0 where
  metres : c.segment_metres ≡ b.segment_metres
  seconds : c.interval_seconds ≡ b.interval_seconds
  times : c.intervals ≡ b.intervals
  nodes : Starts b.nodes c.nodes
  segments : Starts b.segments c.segments
  joins : Starts b.joins c.joins
  trains : Starts b.trains c.trains
  calls : Starts b.calls c.calls

module _ (b c : Book) (g : Longer b c) where
  -- what fitted the book fits the longer one

  -- a segment that fitted
  segment-keeps : (s : Segment) → T (segment_fits b s) → T (segment_fits c s)
  unfolding segment_fits
  segment-keeps s h =
      let p = simp (and-iff, ltb_iff) at h in
      let l = starts-length g.nodes in
      simp (and-iff, ltb_iff) (((omega arith, omega arith), p.0.1), p.1)

  -- a segment stays what it was
  segment-same : (s : ℕ) → s < length b.segments → segment_at c s ≡ segment_at b s
  unfolding segment_at
  segment-same s l = starts-at _ s g.segments l

  -- a join that fitted
  join-keeps : (j : Join) → T (join_fits b j) → T (join_fits c j)
  unfolding join_fits
  join-keeps j h =
      let p = simp (and-iff, ltb_iff) at h in
      let l = starts-length g.nodes in
      let k = starts-length g.segments in
      let e = segment-same j.left p.0.0.0.0.1 in
      let f = segment-same j.right p.0.0.0.1 in
      simp (and-iff, ltb_iff) (((((omega arith, omega arith), omega arith), p.0.0.1), rw e p.0.1), rw f p.1)

  -- l and k stay
  length-same : (t : Train) → length_in_segments c t ≡ length_in_segments b t
  unfolding length_in_segments
  length-same t = rw g.metres

  speed-same : (t : Train) → speed_in_segments c t ≡ speed_in_segments b t
  unfolding speed_in_segments
  speed-same t = rw (g.metres, g.seconds)

  -- the nodes of a directed segment of the book stay
  start-same : (d : ℕ) → d < 2 * length b.segments → start_node c d ≡ start_node b d
  unfolding start_node segment_of
  start-same d l = rw (segment-same (d / 2) (omega arith))

  end_same : (d : ℕ) → d < 2 * length b.segments → end_node c d ≡ end_node b d
  unfolding end_node segment_of
  end_same d l = rw (segment-same (d / 2) (omega arith))

  -- where one led to the next it still does
  leads_keeps : (d e : ℕ) → d < 2 * length b.segments → e < 2 * length b.segments → T (leads_to b d e) → T (leads_to c d e)
  unfolding leads_to joined
  leads_keeps d e l k h =
      let p = simp and-iff at h in
      simp and-iff (rw (end_same d l, start-same e k) p.0, rw (end_same d l) (starts-any _ g.joins p.1))

  -- and so along a row
  linked-keeps : (ds : List ℕ) → T (all (λ d. ltb d (2 * length b.segments)) ds) → T (linked b ds) → T (linked c ds)
  unfolding linked all
  linked-keeps [] l h = tt
  linked-keeps (d ∷ []) l h = tt
  linked-keeps (d ∷ e ∷ ds) l h =
      let p = simp and-iff at h in
      let k = simp and-iff at l in
      simp and-iff (
        leads_keeps d e ((ltb_iff d _).0 k.0) ((ltb_iff e _).0 k.1.0) p.0,
        linked-keeps (e ∷ ds) (simp and-iff k.1) p.1,
      )

module _ (b c : Book) (g : Longer b c) where
  -- a train that fitted, with its place
  train-keeps : (t : Train) → T (train_all_fits b t) → T (train_all_fits c t)
  unfolding train_all_fits train_fits reach_fits place_fits is_path
  train-keeps t h =
      let p = simp and-iff at h in
      let inside = all-weaken _ (λ d. ltb d (2 * length c.segments)) t.place (λ d. further d) p.0.0.1 in
      simp (and-iff, length-same b c g, speed-same b c g) (
        (((p.0.0.0.0, rw g.times p.0.0.0.1), inside), p.0.1),
        (p.1.0, (p.1.1.0, linked-keeps b c g t.place p.0.0.1 p.1.1.1)),
      )
    where
      further : (d : ℕ) → T (ltb d (2 * length b.segments)) → T (ltb d (2 * length c.segments))
      further d h = let l = starts-length g.segments in simp ltb_iff (let k = simp ltb_iff at h in omega arith)

  -- a call that fitted
  call-keeps : (k : Call) → T (call_fits b k) → T (call_fits c k)
  unfolding call_fits
  call-keeps k h =
      let p = simp (and-iff, ltb_iff, leb-iff) at h in
      let l = starts-length g.segments in
      let m = starts-length g.trains in
      let e = g.times in
      simp (and-iff, ltb_iff, leb-iff) (((omega arith, omega arith), p.0.1), omega arith)

-- ---- joins, and calls by train

-- joins stay without repetition where the one that is new repeats none
once-grow : {js ks : List Join} (s : Starts js ks) → New (λ j. T (not (join_repeats js j))) s → T (joins_once js) → T (joins_once ks)
unfolding joins_once New
once-grow same k h = h
once-grow {js} (longer j) k h = (all-up_to _ (length (js ++ one j))).1 (λ n l. go n (dec_le (suc n) (length js)) (rw length-append at l))
  where
    no_join : Join
    no_join = record { node = 0; left = 0; right = 0 }

    go : (n : ℕ) → Dec (n < length js) → n < length js + 1 → T (not (join_repeats (take n (js ++ one j)) (get_or (js ++ one j) n no_join)))
    go n (yes l) m =
        let o : n ≤ length js = omega arith in
        rw (take-append-le n js (one j) o, get_or-append js (one j) no_join n l) ((all-up_to _ (length js)).0 h n l)
    go n (no l) m =
        let e : n ≡ length js = omega arith in
        rw (e, take-append_seam js (one j), get_or-append_seam js j [] no_join) k

-- the calls of train i
of_train : ℕ → List Call → List Call
of_train i cs = pick (λ c. eqb c.train i) cs

-- each train's calls stay few where the one that is new is of a train with fewer
few-calls : {cs ds : List Call} (s : Starts cs ds) → New (λ c. T (not (leb 4 (length (of_train c.train cs))))) s
    → ((i : ℕ) → length (of_train i cs) ≤ 4) → (i : ℕ) → length (of_train i ds) ≤ 4
unfolding New of_train pick only
few-calls same k h i = h i
few-calls {cs} (longer c) k h i = rw (pick-append (λ d. eqb d.train i) cs (one c), length-append) (go (eqb c.train i) refl)
  where
    go : (t : Bool) → eqb c.train i ≡ t → length (of_train i cs) + length (only t (one c) ++ []) ≤ 4
    go true e =
        let l = nleb→lt 4 (length (of_train c.train cs)) k in
        let m : length (of_train i cs) < 4 = rw (eqb→eq c.train i (from-true e)) at l in
        omega arith
    go false e = let l = h i in omega arith

-- ---- the book as far as it was read

-- a train that is not there has no call
none_of : (n i : ℕ) (cs : List Call) → n ≤ i → T (all (λ c. ltb c.train n) cs) → length (of_train i cs) ≤ 0
unfolding of_train pick only all
none_of n i [] l h = omega arith
none_of n i (c ∷ cs) l h = let p = simp (and-iff, ltb_iff) at h in go (eqb c.train i) refl (none_of n i cs l p.1) p.0
  where
    go : (t : Bool) → eqb c.train i ≡ t → length (of_train i cs) ≤ 0 → c.train < n → length (only t (one c) ++ of_train i cs) ≤ 0
    go true e k m = let same' = eqb→eq c.train i (from-true e) in absurd (omega arith)
    go false e k m = k

-- `growing`, taken apart and put together
pub growing-parts : (b : Book) → T (growing b) → Growing b
unfolding growing calls_of of_train call_fits
growing-parts b h =
    let p = simp (and-iff, few-iff) at h in
    let known = all-weaken (call_fits b) (λ c. ltb c.train (length b.trains)) b.calls (λ c q. (simp and-iff at q).0.0.0) p.1.0 in
    record {
      head = p.0.0.0.0.0;
      nodes = p.0.0.0.0.1;
      segments = p.0.0.0.1;
      joins = p.0.0.1.0;
      once = p.0.0.1.1;
      trains = p.0.1;
      calls = p.1.0;
      few_calls = λ i. elim (dec_le (suc i) (length b.trains)) [
        | yes l ↦ (leb-iff _ _).0 ((all-up_to _ (length b.trains)).0 p.1.1 i l)
        | no l ↦ (let k = none_of (length b.trains) i b.calls (omega arith) known in omega arith)
      ];
    }

pub growing-of : (b : Book) → Growing b → T (growing b)
unfolding growing
growing-of b w =
    simp (and-iff, few-iff) (
      ((((w.head, w.nodes), w.segments), (w.joins, w.once)), w.trains),
      (w.calls, (all-up_to _ (length b.trains)).1 (λ i l. (leb-iff _ _).1 (w.few_calls i))),
    )

-- a Head alone, in a format whose greatest T is not above the one in force
pub growing-head : (f : Format) (p : Bytes) → f.greatest_t ≤ max_intervals → T (head_fits f (add f no_book head_kind p))
    → Growing (add f no_book head_kind p)
unfolding head_fits between add is_kind kind_number grown no_book Few all joins_once up_to count calls_of pick
growing-head f p m h = record {
  head = (let q = simp (and-iff, leb-iff) at h in simp (and-iff, leb-iff) (q.0, (q.1.0, omega arith)));
  nodes = (omega arith, tt);
  segments = (omega arith, tt);
  joins = (omega arith, tt);
  once = tt;
  trains = (omega arith, tt);
  calls = tt;
  few_calls = λ i. omega arith;
}

-- What is new in a longer book fits the shorter one.
record Fits (b c : Book) (g : Longer b c) : Type 0 where
  nodes : New (Room 96 (λ k. leb k greatest_node_kind) b.nodes) g.nodes
  segments : New (Room 64 (segment_fits b) b.segments) g.segments
  joins : New (Room 128 (join_fits b) b.joins) g.joins
  once : New (λ j. T (not (join_repeats b.joins j))) g.joins
  trains : New (Room 8 (train_all_fits b) b.trains) g.trains
  calls : New (λ c. T (call_fits b c)) g.calls
  few_calls : New (λ c. T (not (leb 4 (length (calls_of b c.train))))) g.calls

-- Then the longer book is growing too.
growing-longer : (b c : Book) (g : Longer b c) → Fits b c g → Growing b → Growing c
unfolding head_fits calls_of of_train
growing-longer b c g n w = record {
  head = rw (g.metres, g.seconds, g.times) w.head;
  nodes = few-grow _ _ (λ k h. h) 96 g.nodes n.nodes w.nodes;
  segments = few-grow _ _ (segment-keeps b c g) 64 g.segments n.segments w.segments;
  joins = few-grow _ _ (join-keeps b c g) 128 g.joins n.joins w.joins;
  once = once-grow g.joins n.once w.once;
  trains = few-grow _ _ (train-keeps b c g) 8 g.trains n.trains w.trains;
  calls = all-grow _ _ (call-keeps b c g) g.calls n.calls w.calls;
  few_calls = few-calls g.calls n.few_calls w.few_calls;
}

-- What a frame adds, but a Head: at most one row is longer.
starts-grown : {A : Type 0} (new : Bool) (xs : List A) (x : A) → Starts xs (grown new xs x)
unfolding grown
starts-grown true xs x = longer x
starts-grown false xs x = same

not-head : (k : Kind) → k ≢ head_kind → is_kind k head_kind ≡ false
unfolding is_kind kind_number
not-head head_kind h = absurd (h refl)
not-head node_kind h = refl
not-head segment_kind h = refl
not-head join_kind h = refl
not-head train_kind h = refl
not-head call_kind h = refl
not-head unbreakable_kind h = refl
not-head end_kind h = refl

add-longer : (f : Format) (b : Book) (k : Kind) (p : Bytes) → k ≢ head_kind → Longer b (add f b k p)
unfolding add
add-longer f b k p h = record {
  metres = rw (not-head k h);
  seconds = rw (not-head k h);
  times = rw (not-head k h);
  nodes = starts-grown (is_kind k node_kind) b.nodes (field p 0 1);
  segments = starts-grown (is_kind k segment_kind) b.segments (segment_in p);
  joins = starts-grown (is_kind k join_kind) b.joins (join_in p);
  trains = starts-grown (is_kind k train_kind) b.trains (train_in f p);
  calls = starts-grown (is_kind k call_kind) b.calls (call_in f p);
}

-- A frame without a fault adds what fits.
add-fits : (f : Format) (b : Book) (k : Kind) (p : Bytes) (h : k ≢ head_kind) → T (all passes (content_faults f b k p))
    → Fits b (add f b k p) (add-longer f b k p h)
unfolding add content_faults all passes add-longer starts-grown is_kind kind_number New Room train_all_fits
add-fits f b head_kind p h c = absurd (h refl)
add-fits f b node_kind p h c =
    let q = simp and-iff at c in record {
      nodes = (q.0, not-above (field p 0 1) greatest_node_kind q.1.0);
      segments = tt;
      joins = tt;
      once = tt;
      trains = tt;
      calls = tt;
      few_calls = tt;
    }
add-fits f b segment_kind p h c =
    let q = simp (and-iff, not-not) at c in record
    { nodes = tt; segments = (q.0, q.1.0); joins = tt; once = tt; trains = tt; calls = tt; few_calls = tt }
add-fits f b join_kind p h c =
    let q = simp (and-iff, neither-iff, not-not) at c in record
    { nodes = tt; segments = tt; joins = (q.0, q.1.0.0); once = q.1.0.1; trains = tt; calls = tt; few_calls = tt }
add-fits f b train_kind p h c =
    let q = simp (and-iff, not-not) at c in record {
      nodes = tt;
      segments = tt;
      joins = tt;
      once = tt;
      trains = (q.0, simp and-iff ((q.1.0, q.1.1.0), q.1.1.1.0));
      calls = tt;
      few_calls = tt;
    }
add-fits f b call_kind p h c =
    let q = simp (and-iff, not-not) at c in record
    { nodes = tt; segments = tt; joins = tt; once = tt; trains = tt; calls = q.1.0; few_calls = q.0 }
add-fits f b unbreakable_kind p h c = record { nodes = tt; segments = tt; joins = tt; once = tt; trains = tt; calls = tt; few_calls = tt }
add-fits f b end_kind p h c = record { nodes = tt; segments = tt; joins = tt; once = tt; trains = tt; calls = tt; few_calls = tt }

-- Every frame without a fault, but a Head, keeps the book growing.
pub growing-add : (f : Format) (b : Book) (k : Kind) (p : Bytes) → k ≢ head_kind → T (all passes (content_faults f b k p)) → Growing b
    → Growing (add f b k p)
growing-add f b k p h c w = growing-longer b (add f b k p) (add-longer f b k p h) (add-fits f b k p h c) w

-- ---- the book as a whole

-- none of a row passes a test
pub none-iff : {A : Type 0} (f : A → Bool) (xs : List A) → T (not (any f xs)) ↔ T (all (λ x. not (f x)) xs)
unfolding any all
none-iff f [] = (λ h. tt, λ h. tt)
none-iff f (x ∷ xs) =
    let both = neither-iff (f x) (any f xs) in let each' = and-iff (not (f x)) (all (λ x. not (f x)) xs) in
    (λ h. each'.1 ((both.0 h).0, (none-iff f xs).0 (both.0 h).1), λ h. both.1 ((each'.0 h).0, (none-iff f xs).1 (each'.0 h).1))

-- A growing book without a fault of the book is well formed.
pub growing-whole : (b : Book) → Growing b → T (all passes (book_faults b)) → T (well_formed b)
unfolding well_formed faultless
growing-whole b w f = (and-iff (growing b) (all passes (book_faults b))).1 (growing-of b w, f)
