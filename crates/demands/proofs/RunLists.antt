-- The run listing against the definition of a path: a list holds exactly the paths of its lengths (`paths-iff`, `runs-iff`), it
-- stands in the document's order (`runs-rise`), and no run stands in it twice (`runs-once`); how long a train's runs are (`run-moves`).
-- Assumes nothing.
use mathlib.Core.Path.{◌≡◌, refl, sym, ap, ap₂, ◌∙◌, subst}
use mathlib.Core.Logic.{◌↔◌, ◌≢◌, inl, inr}
use mathlib.Core.Bool.{Bool, true, false, not, ◌&&◌, and_assoc, and-true}
use Prim.Native.Nat.{ℕ, zero, suc, ◌+◌, ◌*◌, ◌-◌, ◌≤◌, ◌<◌}
use native.Mathlib.Nat.{not-suc-le-zero, le_of_suc-le-suc}
use native.Mathlib.Omega.{arith}
use mathlib.Core.List.Memᴰ
use mathlib.Core.List.{List, [], ◌∷◌, ◌++◌, map, append-nil, map-append, Memᴰ}
use lib.ListN.{length, get_or}
use lib.Seq.{append_snoc}
use lib.Dec.{T, ltb, eqb}
use Rattle.spec.specs.Lists.{all, any, count, up_to, each, only, one, pick, last_or, different, has}
use Rattle.spec.specs.Book.{Book, Train, segment_of, train_at, length_in_segments, speed_in_segments}
use Rattle.spec.specs.Read.{between, reach_fits, well_formed}
use Rattle.spec.specs.Runs.{leads_to, linked, is_path, directed, goes_on, extend, paths_of, runs_of, end_place}
use Rattle.spec.specs.Instance.{run_lists, run_at, train_length}
use Rattle.laws.proofs.Tests.{and-iff, neither-iff, ltb_iff, leb-iff, eqb-sym, up_to-mem, count-iff, get_or-mem, all-at}
use Rattle.laws.proofs.Rows.{all_append, all_nil, all_one}
use Rattle.laws.proofs.Picks.{mem-pick}
use Rattle.laws.proofs.Last.{last-at, last-drop}
use Rattle.demands.proofs.Wellformed.{runs-at, train-fits}
pub use Rattle.demands.specs.Claims.{Dictionary, here, later, Before, shorter, smaller, Rising, nothing, next}

-- ---- membership

-- what stands in the rows of all elements is what stands in the row of one of them
pub mem-each {ℓ κ} : {A : Type ℓ} {B : Type κ} (xs : List A) (f : A → List B) (y : B)
    → Memᴰ y (each xs f) ↔ ((x : A) × Memᴰ x xs × Memᴰ y (f x))
unfolding each
mem-each {A = A} xs f y = (to xs, λ h. back xs h.0 h.1 h.2)
  where
    to : (xs : List A) → Memᴰ y (each xs f) → (x : A) × Memᴰ x xs × Memᴰ y (f x)
    to [] m = absurd (Memᴰ.not-nil m)
    to (x ∷ xs) m =
        elim (Memᴰ.append_cases (f x) m)
        [ inl h ↦ (x, Memᴰ.head refl, h) | inr h ↦ (let r = to xs h in (r.0, Memᴰ.tail r.1, r.2)) ]

    back : (xs : List A) (z : A) → Memᴰ z xs → Memᴰ y (f z) → Memᴰ y (each xs f)
    back [] z m h = elim m [ ]
    back (x ∷ xs) z (Memᴰ.head e) h = Memᴰ.append_left (each xs f) (subst (λ (a : A). Memᴰ y (f a)) e h)
    back (x ∷ xs) z (Memᴰ.tail m) h = Memᴰ.append_right (f x) (back xs z m h)

-- what stands in a row that is there only where a test holds
mem-where {ℓ} : {A : Type ℓ} (c : Bool) (xs : List A) (y : A)
    → Memᴰ y (elim c [ true ↦ xs | false ↦ [] ]) ↔ (T c × Memᴰ y xs)
mem-where true xs y = (λ m. (tt, m), λ h. h.1)
mem-where false xs y = (λ m. absurd (Memᴰ.not-nil m), λ h. absurd h.0)

-- ---- the order

-- rows with the same front are ordered by the number behind it
dictionary-front : (p r s : List ℕ) {d e : ℕ} → d < e → Dictionary (p ++ d ∷ r) (p ++ e ∷ s)
dictionary-front [] r s l = here l
dictionary-front (x ∷ p) r s l = later refl (dictionary-front p r s l)

-- two rows in dictionary order are different
dictionary-differs : {p q : List ℕ} → Dictionary p q → p ≢ q
dictionary-differs (here {x} {y} l) e = let n : x ≡ y = cc in omega arith
dictionary-differs (later n d) e = dictionary-differs d (cc)

-- two rows of which one comes before the other are different
before-differs : {p q : List ℕ} → Before p q → p ≢ q
before-differs (shorter l) e = omega (arith, ap length e)
before-differs (smaller l d) e = dictionary-differs d e

module _ {A : Type 0} {R : A → A → Type 0} where
  -- what stands behind comes later
  rising-at : {xs : List A} → Rising R xs → (d : A) (i j : ℕ) → i < j → j < length xs → R (get_or xs i d) (get_or xs j d)
  rising-at nothing d i j l k = absurd (not-suc-le-zero k)
  rising-at (next h r) d i zero l k = absurd (not-suc-le-zero l)
  rising-at (next {xs = xs} h r) d zero (suc j) l k = h (get_or xs j d) (get_or-mem xs j d (le_of_suc-le-suc k))
  rising-at (next h r) d (suc i) (suc j) l k = rising-at r d i j (le_of_suc-le-suc l) (le_of_suc-le-suc k)

  -- a row that rises in one order rises in another that follows from it
  rising-by : {S : A → A → Type 0} {xs : List A} → Rising R xs
      → ((x y : A) → Memᴰ x xs → Memᴰ y xs → R x y → S x y) → Rising S xs
  rising-by nothing f = nothing
  rising-by (next {x} h r) f =
      next (λ y m. f x y (Memᴰ.head refl) (Memᴰ.tail m) (h y m))
      (rising-by r (λ y z m k. f y z (Memᴰ.tail m) (Memᴰ.tail k)))

  -- a row that is there only where a test holds
  rising-where : (c : Bool) {xs : List A} → (T c → Rising R xs) → Rising R (elim c [ true ↦ xs | false ↦ [] ])
  rising-where true h = h tt
  rising-where false h = nothing

  -- a row behind a row
  rising-append : {xs ys : List A} → Rising R xs → Rising R ys
      → ((x y : A) → Memᴰ x xs → Memᴰ y ys → R x y) → Rising R (xs ++ ys)
  rising-append nothing s across = s
  rising-append {ys} (next {x} {xs} h r) s across =
      next {x = x} (λ z m. elim (Memᴰ.append_cases xs {t = ys} m) [ inl k ↦ h z k | inr k ↦ across x z (Memᴰ.head refl) k ])
      (rising-append r s (λ y z m. across y z (Memᴰ.tail m)))

  -- the rows of elements that rise, each row rising and coming before the rows of later elements
  rising-each : {B : Type 0} {S : B → B → Type 0} (f : B → List A) {xs : List B} → Rising S xs → ((x : B) → Rising R (f x))
      → ((x y : B) → S x y → (p q : A) → Memᴰ p (f x) → Memᴰ q (f y) → R p q) → Rising R (each xs f)
  unfolding each
  rising-each f nothing inner across = nothing
  rising-each f (next {x} {xs} h r) inner across =
      rising-append (inner x) (rising-each f r inner across)
      (λ p q m k. let s = (mem-each xs f q).0 k in across x s.0 (h s.0 s.1) p q m s.2)

  -- the elements that pass a test
  pub rising-pick : (f : A → Bool) {xs : List A} → Rising R xs → Rising R (pick f xs)
  unfolding pick only
  rising-pick f nothing = nothing
  rising-pick f (next {x} {xs} h r) = first (f x) (rising-pick f r)
    where
      first : (c : Bool) → Rising R (pick f xs) → Rising R (only c (one x) ++ pick f xs)
      first true rest = next (λ y m. h y ((mem-pick f y xs).0 m).0) rest
      first false rest = rest

  -- what is made of each element
  pub rising-map : {B : Type 0} (g : B → A) {xs : List B} → Rising (λ x y. R (g x) (g y)) xs → Rising R (map g xs)
  rising-map g nothing = nothing
  rising-map g (next {x} {xs} h r) =
      next (λ y m. let k = Memᴰ.of_map g xs m in subst (λ (z : A). R (g x) z) k.2 (h k.0 k.1)) (rising-map g r)

-- two rows that rise and have the same elements are the same
pub rising-same : {A : Type 0} {R : A → A → Type 0} → ((x y : A) → x ≡ y → R x y → ⊥) → ((x y : A) → R x y → R y x → ⊥) → {xs ys : List A}
    → Rising R xs → Rising R ys → ((z : A) → Memᴰ z xs ↔ Memᴰ z ys) → xs ≡ ys
rising-same irr asym nothing nothing h = refl
rising-same irr asym nothing (next {x = y} g s) h = absurd (Memᴰ.not-nil ((h y).1 (Memᴰ.head refl)))
rising-same irr asym (next {x} f r) nothing h = absurd (Memᴰ.not-nil ((h x).0 (Memᴰ.head refl)))
rising-same {A} {R} irr asym (next {x} {xs} f r) (next {x = y} {xs = ys} g s) h =
    ap₂ ◌∷◌ first (rising-same irr asym r s (λ z. (
      (λ m. behind z y g ((h z).0 (Memᴰ.tail m)) (λ e. irr x z (first ∙ sym e) (f z m))),
      (λ m. behind z x f ((h z).1 (Memᴰ.tail m)) (λ e. irr y z (sym first ∙ sym e) (g z m))),
    )))
  where
    first : x ≡ y
    first = either ((h x).0 (Memᴰ.head refl)) ((h y).1 (Memᴰ.head refl))
      where
        either : Memᴰ x (y ∷ ys) → Memᴰ y (x ∷ xs) → x ≡ y
        either (Memᴰ.head e) m = e
        either (Memᴰ.tail k) (Memᴰ.head e) = sym e
        either (Memᴰ.tail k) (Memᴰ.tail m) = absurd (asym x y (f y m) (g x k))

    behind : (z w : A) {ws : List A} → ((v : A) → Memᴰ v ws → R w v) → Memᴰ z (w ∷ ws) → (z ≡ w → ⊥) → Memᴰ z ws
    behind z w k (Memᴰ.head e) n = absurd (n e)
    behind z w k (Memᴰ.tail m) n = m

-- the numbers from a on rise
count-rises : (a n : ℕ) → Rising ◌<◌ (count a n)
unfolding count
count-rises a zero = nothing
count-rises a (suc n) = next (λ y m. ((count-iff n (suc a) y).0 m).0) (count-rises (suc a) n)

-- 0 to n - 1 rise
pub up_to-rises : (n : ℕ) → Rising ◌<◌ (up_to n)
unfolding up_to
up_to-rises n = count-rises 0 n

-- ---- a path and one more directed segment

-- "all on different segments", with one more at the end
different-snoc : (xs : List ℕ) (x : ℕ) → T (different (xs ++ one x)) ↔ (T (different xs) × T (not (has x xs)))
unfolding different has any
different-snoc [] x = simp all_nil (λ _. (tt, tt), λ _. tt)
different-snoc (y ∷ ys) x =
    let ih = different-snoc ys x in
    rw (eqb-sym x y, all_append (λ z. not (eqb y z)) ys (one x)) (simp (all_one, and-iff, neither-iff) (
      λ h. let r = ih.0 h.1 in ((h.0.0, r.0), (h.0.1, r.1)),
      λ h. ((h.0.0, h.1.0), ih.1 (h.0.1, h.1.1)),
    ))

module _ (b : Book) where
  -- d is a directed segment of the book
  abbrev pub in_book : ℕ → Bool
  in_book d = ltb d (2 * length b.segments)

  -- what stands among the directed segments of the book
  directed-mem : (d : ℕ) → Memᴰ d (directed b) ↔ T (in_book d)
  unfolding directed
  directed-mem d = (
    λ m. (ltb_iff d (2 * length b.segments)).1 ((up_to-mem (2 * length b.segments) d).0 m),
    λ h. (up_to-mem (2 * length b.segments) d).1 ((ltb_iff d (2 * length b.segments)).0 h),
  )

  -- "each ending where the next begins", with one more at the end
  linked-snoc : (x : ℕ) (xs : List ℕ) (d : ℕ) → linked b (x ∷ xs ++ one d) ≡ (linked b (x ∷ xs) && leads_to b (last_or x xs) d)
  unfolding linked last_or
  linked-snoc x [] d = and-true (leads_to b x d)
  linked-snoc x (y ∷ ys) d =
      ap (λ (c : Bool). leads_to b x y && c) (linked-snoc y ys d)
      ∙ sym (and_assoc (leads_to b x y) (linked b (y ∷ ys)) (leads_to b (last_or y ys) d))

  -- a path with one more at the end is a path that goes on there
  path-snoc : (x : ℕ) (xs : List ℕ) (d : ℕ)
      → T (is_path b (x ∷ xs ++ one d)) ↔ (T (is_path b (x ∷ xs)) × T (goes_on b (x ∷ xs) d))
  unfolding is_path goes_on last_or
  path-snoc x xs d = rw (linked-snoc x xs d, map-append segment_of (x ∷ xs) (one d)) (simp (and-iff, different-snoc)
      (λ h. ((h.0.0, h.1.0), (h.1.1, h.0.1)), λ h. ((h.0.0, h.1.1), (h.0.1, h.1.0))))

  -- the front of a path is a path
  path-front : (x : ℕ) (xs r : List ℕ) → T (is_path b (x ∷ xs ++ r)) → T (is_path b (x ∷ xs))
  path-front x xs [] h = rw append-nil at h
  path-front x xs (d ∷ r) h = ((path-snoc x xs d).0 (path-front x (xs ++ one d) r (rw (append_snoc xs d r) h))).0

  -- ---- "each path extended one segment at a time until its length is met"

  -- one segment more: over some directed segment of the book where the path goes on
  extend-suc : (m : ℕ) (p q : List ℕ)
      → Memᴰ q (extend b (suc m) p) ↔ ((d : ℕ) × T (in_book d) × T (goes_on b p d) × Memᴰ q (extend b m (p ++ one d)))
  unfolding extend
  extend-suc m p q =
      let rows = mem-each (directed b) (λ d. elim (goes_on b p d) [ true ↦ extend b m (p ++ one d) | false ↦ [] ]) q in (
        λ k. let r = rows.0 k in let s = (mem-where (goes_on b p r.0) (extend b m (p ++ one r.0)) q).0 r.2 in
            (r.0, (directed-mem r.0).0 r.1, s.0, s.1),
        λ r. rows.1 (r.0, (directed-mem r.0).1 r.1, (mem-where (goes_on b p r.0) (extend b m (p ++ one r.0)) q).1 (r.2, r.3)),
      )

  -- q begins with p, is m longer, and is a path over directed segments of the book
  abbrev Grown : ℕ → List ℕ → List ℕ → Type 0
  Grown m p q = (r : List ℕ) × (q ≡ p ++ r) × (length r ≡ m) × T (all in_book r) × T (is_path b q)

  -- what is listed is such a path
  extend_to : (m x : ℕ) (xs q : List ℕ) → T (is_path b (x ∷ xs)) → Memᴰ q (extend b m (x ∷ xs)) → Grown m (x ∷ xs) q
  unfolding extend all
  extend_to zero x xs q h k =
      let e = Memᴰ.eq_of_singleton k in
      ([], e ∙ sym (append-nil (x ∷ xs)), refl, tt, subst (λ (p : List ℕ). T (is_path b p)) (sym e) h)
  extend_to (suc m) x xs q h k =
      let s = (extend-suc m (x ∷ xs) q).0 k in
      let g = extend_to m x (xs ++ one s.0) q ((path-snoc x xs s.0).1 (h, s.2)) s.3 in (
        s.0 ∷ g.0,
        g.1 ∙ append_snoc (x ∷ xs) s.0 g.0,
        ap suc g.2,
        (and-iff (in_book s.0) (all in_book g.0)).1 (s.1, g.3),
        g.4,
      )

  -- such a path is listed
  extend-back : (x : ℕ) (xs r : List ℕ) → T (all in_book r) → T (is_path b (x ∷ xs ++ r))
      → Memᴰ (x ∷ xs ++ r) (extend b (length r) (x ∷ xs))
  unfolding extend all
  extend-back x xs [] i h = Memᴰ.head (append-nil (x ∷ xs))
  extend-back x xs (d ∷ r) i h =
      let h' : T (is_path b (x ∷ xs ++ one d ++ r)) = rw (append_snoc xs d r) h in
      let s = (and-iff (in_book d) (all in_book r)).0 i in
      (extend-suc (length r) (x ∷ xs) (x ∷ xs ++ d ∷ r)).1 (
        d,
        s.0,
        ((path-snoc x xs d).0 (path-front x (xs ++ one d) r h')).1,
        Memᴰ.cast (sym (append_snoc (x ∷ xs) d r)) (extend-back x (xs ++ one d) r s.1 h'),
      )

  -- ---- the lists

  -- one directed segment is a path
  path-one : (d : ℕ) → T (is_path b (one d))
  unfolding is_path different linked all
  path-one d = tt

  -- The paths of n segments are listed, all of them and nothing else.
  pub paths-iff : (n : ℕ) → 1 ≤ n → (p : List ℕ)
      → Memᴰ p (paths_of b n) ↔ (T (is_path b p) × T (all in_book p) × (length p ≡ n))
  unfolding paths_of all
  paths-iff n h p = (λ k. to ((mem-each (directed b) from p).0 k), λ k. back p k.0 k.1 k.2)
    where
      from : ℕ → List (List ℕ)
      from d = extend b (n - 1) (one d)

      to : (d : ℕ) × Memᴰ d (directed b) × Memᴰ p (from d) → T (is_path b p) × T (all in_book p) × (length p ≡ n)
      to r =
          let g = extend_to (n - 1) r.0 [] p (path-one r.0) r.2 in (
            g.4,
            rw g.1 ((and-iff (in_book r.0) (all in_book g.0)).1 ((directed-mem r.0).0 r.1, g.3)),
            omega (arith, ap length g.1),
          )

      back : (p : List ℕ) → T (is_path b p) → T (all in_book p) → length p ≡ n → Memᴰ p (paths_of b n)
      back [] k i l = let no' : ⊥ = omega arith in absurd no'
      back (d ∷ r) k i l =
          let s = (and-iff (in_book d) (all in_book r)).0 i in
          let e : length r ≡ n - 1 = omega arith in
          (mem-each (directed b) from (d ∷ r)).1 (d, (directed-mem d).1 s.0, rw e at (extend-back d [] r s.1 k))

  -- "A run moves j from 0 to k and is a path of l + j": the runs are listed, all of them and nothing else.
  pub runs-iff : (t : Train) → 1 ≤ length_in_segments b t → (p : List ℕ)
      → Memᴰ p (runs_of b t)
      ↔ (T (is_path b p) × T (all in_book p) × ((j : ℕ) × (j ≤ speed_in_segments b t) × (length p ≡ length_in_segments b t + j)))
  unfolding runs_of
  runs-iff t h p =
      let rows = mem-each (up_to (speed_in_segments b t + 1)) (λ j. paths_of b (length_in_segments b t + j)) p in
      let moves = up_to-mem (speed_in_segments b t + 1) in
      let paths : (j : ℕ) → _ = λ j. paths-iff (length_in_segments b t + j) (omega arith) p in (
        λ k. let r = rows.0 k in let s = (paths r.0).0 r.2 in
            (s.0, s.1, (r.0, omega (arith, (moves r.0).0 r.1), s.2)),
        λ k. let j = k.2.0 in rows.1 (j, (moves j).1 (omega arith), (paths j).1 (k.0, k.1, k.2.2)),
      )

  -- ---- the order of the lists

  -- rows by their number behind one front rise, if each of them does
  rows-rise : (front : List ℕ) (f : ℕ → List (List ℕ)) → ((d : ℕ) → Rising Dictionary (f d))
      → ((d : ℕ) (p : List ℕ) → Memᴰ p (f d) → (r : List ℕ) × (p ≡ front ++ d ∷ r)) → Rising Dictionary (each (directed b) f)
  unfolding directed
  rows-rise front f inner begins =
      rising-each f (up_to-rises (2 * length b.segments)) inner
      (λ d e l p q m k. rw ((begins d p m).1, (begins e q k).1) (dictionary-front front (begins d p m).0 (begins e q k).0 l))

  -- the paths that grow from one path are listed in dictionary order
  extend-rises : (m x : ℕ) (xs : List ℕ) → T (is_path b (x ∷ xs)) → Rising Dictionary (extend b m (x ∷ xs))
  unfolding extend
  extend-rises zero x xs h = next (λ q k. absurd (Memᴰ.not-nil k)) nothing
  extend-rises (suc m) x xs h =
      rows-rise (x ∷ xs) (λ d. elim (goes_on b (x ∷ xs) d) [ true ↦ extend b m (x ∷ xs ++ one d) | false ↦ [] ])
      (λ d. rising-where (goes_on b (x ∷ xs) d) (λ g. extend-rises m x (xs ++ one d) ((path-snoc x xs d).1 (h, g))))
      (λ d p k. let s = (mem-where (goes_on b (x ∷ xs) d) (extend b m (x ∷ xs ++ one d)) p).0 k in
      let g = extend_to m x (xs ++ one d) p ((path-snoc x xs d).1 (h, s.0)) s.1 in
      (g.0, g.1 ∙ append_snoc (x ∷ xs) d g.0))

  -- paths of one length are listed "by their directed numbers in dictionary order"
  paths-rise : (n : ℕ) → Rising Dictionary (paths_of b n)
  unfolding paths_of
  paths-rise n =
      rows-rise [] (λ d. extend b (n - 1) (one d)) (λ d. extend-rises (n - 1) d [] (path-one d))
      (λ d p k. let g = extend_to (n - 1) d [] p (path-one d) k in (g.0, g.1))

  -- "Runs are listed by j, then by their directed numbers in dictionary order".
  pub runs-rise : (t : Train) → 1 ≤ length_in_segments b t → Rising Before (runs_of b t)
  unfolding runs_of
  runs-rise t h =
      let sized : (j : ℕ) (p : List ℕ) → Memᴰ p (paths_of b (length_in_segments b t + j)) → length p ≡ length_in_segments b t + j
      = λ j p m. ((paths-iff (length_in_segments b t + j) (omega arith) p).0 m).2 in
      rising-each (λ j. paths_of b (length_in_segments b t + j)) (up_to-rises (speed_in_segments b t + 1))
      (λ j. rising-by (paths-rise (length_in_segments b t + j)) (λ p q m k d. smaller (sized j p m ∙ sym (sized j q k)) d))
      (λ i j l p q m k. shorter (omega (arith, sized i p m, sized j q k)))

  -- No run is listed twice.
  pub runs-once : (t : Train) → 1 ≤ length_in_segments b t → (i j : ℕ) → i < j → j < length (runs_of b t)
      → get_or (runs_of b t) i [] ≢ get_or (runs_of b t) j []
  runs-once t h i j l k = before-differs (rising-at (runs-rise t h) [] i j l k)

-- ---- the runs of a train, in a book that is well formed

module _ (b : Book) (formed : T (well_formed b)) (i : ℕ) (known : i < length b.trains) where
  -- l and k: "Both are 1 to 8"
  pub train-reach : (1 ≤ train_length b i) × (train_length b i ≤ 8) × (speed_in_segments b (train_at b i) ≤ 8)
  unfolding reach_fits between train_length
  train-reach = let p = simp (and-iff, leb-iff) at (train-fits b formed i known).1 in (p.0.0, p.0.1, p.1.1)

  -- the run with a number is in the train's list
  run-listed : (r : ℕ) → r < length (get_or (run_lists b) i []) → Memᴰ (run_at (run_lists b) i r) (runs_of b (train_at b i))
  unfolding run_at
  run-listed r l =
      let run = get_or (get_or (run_lists b) i []) r [] in
      subst (λ (runs : List (List ℕ)). Memᴰ run runs) (runs-at b i known) (get_or-mem (get_or (run_lists b) i []) r [] l)

  -- "A run moves j from 0 to k and is a path of l + j"
  pub run-moves : (r : ℕ) → r < length (get_or (run_lists b) i [])
      → (j : ℕ) × (j ≤ speed_in_segments b (train_at b i)) × (length (run_at (run_lists b) i r) ≡ train_length b i + j)
  unfolding train_length
  run-moves r l = ((runs-iff b (train_at b i) train-reach.0 _).0 (run-listed r l)).2

  -- the front of the place where it ends is a directed segment of the book
  pub front-known : (r : ℕ) → r < length (get_or (run_lists b) i [])
      → last_or 0 (end_place (train_length b i) (run_at (run_lists b) i r)) < 2 * length b.segments
  unfolding end_place train_length
  front-known r l =
      let run = run_at (run_lists b) i r in
      let j = run-moves r l in
      let some : 1 ≤ length run = omega (arith, train-reach.0, j.2) in
      let inside = ((runs-iff b (train_at b i) train-reach.0 run).0 (run-listed r l)).1 in
      let front = all-at (in_book b) run (length run - 1) 0 inside (omega arith) in
      rw (last-drop (length run - train_length b i) 0 run (omega (arith, train-reach.0, j.2)), last-at run 0 0 some)
      ((ltb_iff _ _).0 front)
